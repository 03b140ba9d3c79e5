-- `unit_encoding::fill` meets its contract: each turn fills in eight units, and then one, and counts their cuts. Assumes nothing.
use Prim.Native.Nat.{◌-◌, ◌*◌, ◌≤◌}
use mathlib.Core.Path.{◌≡◌}
use lib.ListN.{length}
use Rattle.lists.proofs.Filled.{Filled}
use Rattle.unit_encoding.proofs.fill.Given as goal

abbrev pub invariant-loop-i : goal.invariant-loop-i
invariant-loop-i g l =
    let u = g.U.Units in
    (l.i ≤ l.n) × (length l.fn.out ≡ u.size l.units * u.count l.units → Filled l.fn.out (u.byte l.units) (l.size * l.i) l.out) × (l.all ≡ u.cuts l.units l.i)

abbrev pub decreases-loop-i : goal.decreases-loop-i
decreases-loop-i g l = l.n - l.i

abbrev pub invariant-loop-i-2 : goal.invariant-loop-i-2
invariant-loop-i-2 g l =
    let u = g.U.Units in
    (l.i ≤ l.n) × (length l.fn.out ≡ u.size l.units * u.count l.units → Filled l.fn.out (u.byte l.units) (l.size * l.i) l.out) × (l.all ≡ u.cuts l.units l.i)

abbrev pub decreases-loop-i-2 : goal.decreases-loop-i-2
decreases-loop-i-2 g l = l.n - l.i
