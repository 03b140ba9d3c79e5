-- `group_packing::all_within` meets its contract: all groups passed fit, and one that does not decides. Assumes nothing.
use Prim.Native.Nat.{◌*◌}
use Rattle.group_packing.proofs.Small.{Small}
use Rattle.group_packing.proofs.all_within.Given as goal

abbrev pub invariant-loop-i : goal.invariant-loop-i
invariant-loop-i l = Small l.codes (6 * l.i)
