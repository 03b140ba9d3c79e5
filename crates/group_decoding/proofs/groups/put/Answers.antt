-- `group_decoding::groups::put` meets its contract: six stores, of four bytes' values. Assumes nothing.
use mathlib.Core.Path.{refl}
use Prim.Native.Nat.{◌+◌, ◌*◌}
use native.Mathlib.Omega.{arith}
use lib.Dec.{lit<}
use Rattle.line_values.specs.Decode.{value_at}
use Rattle.group_decoding.proofs.Values.{written_six, value_of_lem}
use Rattle.group_decoding.proofs.groups.put.Goals as goal

pub returns : goal.returns
returns c = let a = c.args in
    let fit = c.requires.layout_value.1 in
    let is = value_of_lem a.layout a.packed.now c.requires.layout_value.0 a.i in
    let cb = c.value_at-cb.ensures in
    let cr = c.value_at-cr.ensures in
    written_six a.out.now (6 * a.i) (λ j. value_at a.layout a.packed.now (6 * a.i + j))
    (is 0 0 _ _ _ (lit< tt) (omega arith) refl fit.fitted0 c.value_at-first.ensures)
    (is 1 1 _ _ _ (lit< tt) (omega arith) refl fit.fitted1 cb)
    (is 2 2 _ _ _ (lit< tt) (omega arith) refl fit.fitted2 cr)
    (is 3 0 _ _ _ (lit< tt) (omega arith) refl fit.fitted0 c.value_at-second.ensures)
    (is 4 1 _ _ _ (lit< tt) (omega arith) refl fit.fitted1 cb)
    (is 5 2 _ _ _ (lit< tt) (omega arith) refl fit.fitted2 cr)
