-- `group_packing::groups` meets its contract: each turn fills in one group's bytes. Assumes nothing.
use Prim.Native.Nat.{◌*◌}
use Rattle.lists.proofs.Filled.{Filled}
use Rattle.line.specs.Group.{group_byte}
use Rattle.group_packing.proofs.groups.Given as goal

abbrev pub invariant-loop-i : goal.invariant-loop-i
invariant-loop-i l = Filled l.initial.out (group_byte l.codes) (4 * l.i) l.out
