-- `group_decoding::groups::all` meets its contract: each turn fills in one group's values. Assumes nothing.
use Prim.Native.Nat.{◌*◌}
use Rattle.lists.proofs.Filled.{Filled}
use Rattle.line_values.specs.Decode.{value_at}
use Rattle.group_decoding.proofs.groups.all.Given as goal

abbrev pub invariant-loop-i : goal.invariant-loop-i
invariant-loop-i l = Filled l.initial.out (value_at l.layout l.packed) (6 * l.i) l.out
