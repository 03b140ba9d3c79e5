-- `point_packing::store::store_all` meets its contract: each turn stores one number. Assumes nothing.
use Prim.Native.Nat.{ℕ, ◌+◌, ◌*◌}
use native.Mathlib.Nat.{add_assoc, add-zero, mul-add}
use native.Mathlib.Omega.{arith}
use mathlib.Core.Path.{◌≡◌, refl, sym, ap, ◌∙◌}
use lib.ListN.{get_or}
use Rattle.lists.specs.Bytes.{byte_of}
use Rattle.lists.specs.inner.Stores.{written}
use Rattle.point_packing.specs.inner.Store.{stored}
use Rattle.point_packing.proofs.Fills.{stored_more}
use Rattle.point_packing.proofs.store.store_all.Goals as goal

next : (size i j at : ℕ) → at ≡ size * (i + j) → at + size ≡ size * (i + (j + 1))
next size i j at e = omega (arith, mul-add size (i + j) 1, ap (λ (k : ℕ). size * k) (add_assoc i j 1))

pub loop-j-init : goal.loop-j-init
unfolding stored
loop-j-init c = (ap (λ (k : ℕ). c.args.size * k) (sym (add-zero c.args.i)), refl)

pub loop-j-preserved : goal.loop-j-preserved
loop-j-preserved c = let l = c.loop-j in
    (next c.args.size c.args.i l.j l.at l.invariant.0, stored_more c.args.size c.args.v c.args.i c.args.out.now l.j l.out _ l.invariant.1 (c.store8.ensures ∙ ap (λ (k : ℕ). written l.out k (byte_of (get_or c.args.v l.j 0)) 8) l.invariant.0))
