-- `descriptor_reader::read` meets its contract where no row of its own refuses. Assumes nothing.
use mathlib.Core.Path.{◌≡◌, sym, ap, ◌∙◌}
use mathlib.Core.Bool.{true}
use mathlib.Core.List.{List}
use Prim.Native.Nat.{ℕ}
use lib.Dec.{eqb}
use lib.ListN.{length}
use borrow.Author.Tests.{eq-eqb}
use Rattle.std.specs.Array.{IsWholeChunk}
use Rattle.descriptor_reader.specs.Reading.{read_descriptor}
use Rattle.descriptor_reader.specs.Header.{header_right, color_right, planes_right}
use Rattle.descriptor_reader.proofs.Answers.{decided_as}
use Rattle.descriptor_reader.proofs.read.Goals as goal

-- the bytes that `try_from` gives are as many as they should be
long : {xs ys : List ℕ} → IsWholeChunk xs ys 76 → eqb (length ys) 76 ≡ true
long {xs} {ys} w = eq-eqb (length ys) 76 (ap length w.same ∙ w.long)

pub returns : goal.returns
returns c =
    let b : List ℕ = c.in-Ok.bytes.now in
    let w = c.in-Ok.ensures.1 in
    let header : header_right b ≡ true = sym c.header_right.ensures ∙ c.if-not-header_right.false in
    let color : color_right b ≡ true = sym c.color_right.ensures ∙ c.if-not-color_right.false in
    let planes : planes_right b ≡ true = sym c.planes_right.ensures ∙ c.if-not-planes_right.false in
    record {
      answer = decided_as b (long w) header color planes c.samples_in.result c.read_samples.result c.samples_in.ensures c.read_samples.ensures
          ∙ ap read_descriptor w.same;
    }
