-- `point_packing::store::store_all` meets its contract: each turn stores one number. Assumes nothing.
use Prim.Native.Nat.{◌+◌, ◌*◌}
use mathlib.Core.Path.{◌≡◌}
use Rattle.point_packing.specs.inner.Store.{stored}
use Rattle.point_packing.proofs.store.store_all.Given as goal

abbrev pub invariant-loop-j : goal.invariant-loop-j
invariant-loop-j l = (l.at ≡ l.size * (l.i + l.j)) × (l.out ≡ stored l.size l.v l.i l.j l.initial.out)
