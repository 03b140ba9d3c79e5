-- `point_decoding::points` meets its contract: each turn fills in one point's values. Assumes nothing.
use mathlib.Core.Path.{◌≡◌}
use Prim.Native.Nat.{◌*◌, ◌-◌, ◌≤◌}
use Rattle.lists.proofs.Filled.{Filled}
use Rattle.point_decoding.specs.inner.Points.{point_value}
use Rattle.point_decoding.proofs.points.points.Given as goal

abbrev pub invariant-loop-i : goal.invariant-loop-i
invariant-loop-i l = (l.at ≡ l.i * l.layout.bytes) × Filled l.initial.out (point_value l.layout l.packed) (3 * l.i) l.out
