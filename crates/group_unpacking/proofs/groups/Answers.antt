-- `group_unpacking::groups` meets its contract: each turn fills in one group's codes. Assumes nothing.
use native.Mathlib.Omega.{arith}
use Rattle.group_unpacking.proofs.Codes.{codes_more, codes_all}
use Rattle.group_unpacking.proofs.groups.Goals as goal

pub loop-i-preserved : goal.loop-i-preserved
loop-i-preserved c = let l = c.loop-i in
    codes_more c.args.packed.now c.args.codes.now _ _ l.i (omega arith) l.invariant c.put_group.ensures

pub returns : goal.returns
returns c = let l = c.loop-i in
    codes_all c.args.packed.now c.args.codes.now _ l.i c.args.n c.requires.0 c.requires.1 (omega arith) (omega arith) l.invariant
