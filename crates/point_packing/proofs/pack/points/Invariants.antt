-- `point_packing::pack::points` meets its contract: each turn fills in two points' bytes, and then one's. Assumes nothing.
use Prim.Native.Nat.{◌*◌}
use mathlib.Core.Path.{◌≡◌}
use lib.ListN.{length}
use Rattle.lists.proofs.Filled.{Filled}
use Rattle.line.specs.Line.{point_byte}
use Rattle.point_packing.proofs.pack.points.Given as goal

abbrev pub invariant-loop-pair : goal.invariant-loop-pair
invariant-loop-pair l = Filled l.initial.out (point_byte l.layout l.codes) (l.layout.bytes * (2 * l.pair)) l.out

abbrev pub invariant-loop-i : goal.invariant-loop-i
invariant-loop-i l = (length l.initial.out ≡ l.layout.bytes * l.n) × Filled l.initial.out (point_byte l.layout l.codes) (l.layout.bytes * l.i) l.out
