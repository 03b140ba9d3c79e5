-- `group_unpacking::groups` meets its contract: each turn fills in one group's codes. Assumes nothing.
use Prim.Native.Nat.{◌*◌}
use Rattle.lists.proofs.Filled.{Filled}
use Rattle.line.specs.Group.{group_code}
use Rattle.group_unpacking.proofs.groups.Given as goal

abbrev pub invariant-loop-i : goal.invariant-loop-i
invariant-loop-i l = Filled l.initial.codes (group_code l.packed) (6 * l.i) l.codes
