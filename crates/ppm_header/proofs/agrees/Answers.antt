-- `ppm_header::agrees` meets its contract: what was stored in the memory of its own is the header, whole. Assumes nothing.
use mathlib.Core.Path.{ap, ◌∙◌}
use mathlib.Core.List.{List}
use Prim.Native.Nat.{ℕ, ◌≤◌}
use native.Mathlib.Omega.{arith}
use lib.ListN.{length}
use Rattle.ppm_header.specs.Text.{header_text}
use Rattle.ppm_header.specs.Header.{begins}
use Rattle.text_writer.proofs.Puts.{stored}
use Rattle.ppm_header.proofs.Fronts.{begins_is}
use Rattle.ppm_header.proofs.Texts.{header_short}
use Rattle.ppm_header.proofs.agrees.Goals as goal

pub returns : goal.returns
returns c =
    let short : length (header_text c.args.width c.args.height c.args.top) ≤ 21 = header_short c.args.width c.args.height c.args.top (omega arith) (omega arith) (omega arith) in
    c.starts_with.ensures.value ∙ begins_is _ _ ∙ ap (λ (t : List ℕ). begins t c.args.s.now) (stored short c.put-end.ensures)
