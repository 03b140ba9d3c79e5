-- `group_decoding::groups::all` meets its contract: each turn fills in one group's values. Assumes nothing.
use native.Mathlib.Omega.{arith}
use Rattle.group_decoding.proofs.Values.{values_more, values-all}
use Rattle.group_decoding.proofs.groups.all.Goals as goal

pub loop-i-preserved : goal.loop-i-preserved
loop-i-preserved c = let l = c.loop-i in
    values_more c.args.layout c.args.packed.now c.requires.layout_value.0 c.args.n l.i c.requires.packed_len.1 (omega arith) l.invariant c.put.ensures

pub returns : goal.returns
returns c = let l = c.loop-i in
    values-all c.args.layout c.args.packed.now c.requires.layout_value.0 c.args.n l.i c.requires.packed_len.0 c.requires.packed_len.1 (omega arith) l.invariant
