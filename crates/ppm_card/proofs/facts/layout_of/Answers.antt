-- `ppm_card::facts::layout_of` meets its contract. Assumes nothing.
use Prim.Native.Nat.{◌*◌}
use mathlib.Core.Path.{sym, ◌∙◌}
use Rattle.ppm_card.specs.Card.{import_layout}
use Rattle.ppm_card.proofs.Depths.{depth_back}
use Rattle.ppm_card.proofs.facts.layout_of.Goals as goal

pub returns : goal.returns
unfolding import_layout
returns c = let a = c.args in
    let n = c.bits_of-bits.ensures ∙ sym (depth_back a.depth) in
    λ m. record {
      model = 1;
      primaries = a.primaries;
      range = 2;
      depth = n m;
      bytes = c.bytes_of.ensures m;
      offset0 = 0;
      offset1 = n m;
      offset2 = 2 * n m;
      sampling = 0;
    }
