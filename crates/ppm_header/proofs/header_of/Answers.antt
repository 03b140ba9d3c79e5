-- `ppm_header::header_of` meets its contract. Assumes nothing.
use mathlib.Core.Path.{ap, ◌∙◌}
use Rattle.ppm_header.proofs.Reading.{accepted, refused}
use Prim.Native.Nat.{ℕ}
use Rattle.std.specs.Prelude.{Ok}
use Rattle.ppm_header.proofs.header_of.Goals as goal

pub returns-then-known-agrees : goal.returns-then-known-agrees
returns-then-known-agrees c = let a = c.args in
    ap (λ (n : ℕ). Ok (record { width = a.width; height = a.height; top = a.top; length = n })) c.length.ensures.answer
    ∙ accepted a.s.now a.width a.height a.top c.known.ensures c.agrees.ensures c.if-known-agrees.true

pub returns : goal.returns
returns c = let a = c.args in
    refused a.s.now a.width a.height a.top c.known.ensures c.agrees.ensures c.if-known-agrees.false
