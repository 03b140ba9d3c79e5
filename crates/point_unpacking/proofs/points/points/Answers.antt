-- `point_unpacking::points` meets its contract: each turn fills in one point's codes. Assumes nothing.
use native.Mathlib.Omega.{arith}
use Rattle.lists.proofs.Bytes.{are_bytes_lem}
use Rattle.field.proofs.Line.{next_point}
use Rattle.point_unpacking.proofs.Codes.{codes_more, codes_all}
use Rattle.point_unpacking.proofs.points.points.Goals as goal

pub loop-i-preserved : goal.loop-i-preserved
loop-i-preserved c = let l = c.loop-i in
    let h = c.loop-i-test.true in
    let are = are_bytes_lem c.args.packed.now (λ i. (c.type_inv.packed i).fits) in (
      omega (arith, next_point c.args.layout l.i 0 l.at c.step-at.ensures (omega (arith, l.invariant.0))),
      codes_more c.args.layout c.args.packed.now c.args.n c.requires.layout_value.0 c.requires.packed_len.0 c.args.codes.now _ _ l.i l.at are c.requires.packed_len.1 h l.invariant.0 l.invariant.1 c.put.ensures,
    )

pub returns : goal.returns
returns c = let l = c.loop-i in
    codes_all c.args.layout c.args.packed.now c.args.n c.requires.layout_value.0 c.requires.packed_len.0 c.args.codes.now _ l.i c.requires.packed_len.1 (omega arith) (omega arith) l.invariant.1
