-- `point_unpacking::points` meets its contract: each turn fills in one point's codes. Assumes nothing.
use mathlib.Core.Path.{◌≡◌}
use Prim.Native.Nat.{◌*◌}
use Rattle.lists.proofs.Filled.{Filled}
use Rattle.line.specs.Line.{point_code}
use Rattle.point_unpacking.proofs.points.points.Given as goal

abbrev pub invariant-loop-i : goal.invariant-loop-i
invariant-loop-i l = (l.at ≡ l.i * l.layout.bytes) × Filled l.initial.codes (point_code l.layout l.packed) (3 * l.i) l.codes
