-- `unit_encoding::eight` meets its contract: each turn fills in one number, and counts one unit's cuts. Assumes nothing.
use mathlib.Core.Path.{◌≡◌}
use native.Mathlib.Omega.{arith}
use Rattle.lists.proofs.Filled.{filled_all}
use Rattle.unit_encoding.proofs.eight.Goals as goal

pub returns-clause-numbers : goal.returns-clause-numbers
returns-clause-numbers g c =
    let l = c.loop-j in
    let e : l.j ≡ 8 = omega arith in
    filled_all 0 l.invariant.0 (rw e at l.invariant.1)
