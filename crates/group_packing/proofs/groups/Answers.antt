-- `group_packing::groups` meets its contract: each turn fills in one group's bytes. Assumes nothing.
use native.Mathlib.Omega.{arith}
use Rattle.group_packing.proofs.Bytes.{bytes_more, bytes-all}
use Rattle.group_packing.proofs.groups.Goals as goal

pub loop-i-preserved : goal.loop-i-preserved
loop-i-preserved c = let l = c.loop-i in
    bytes_more c.args.codes.now c.args.out.now _ _ l.i (omega arith) l.invariant c.put_group.ensures

pub returns : goal.returns
returns c = let l = c.loop-i in
    bytes-all c.args.codes.now c.args.out.now _ l.i c.args.n c.requires.codes_len.0 c.requires.codes_len.1 (omega arith) (omega arith) l.invariant
