-- `point_packing::pack::points` meets its contract: each turn fills in two points' bytes, and then one's. Assumes nothing.
use Prim.Native.Nat.{◌+◌, ◌*◌}
use native.Mathlib.Omega.{arith}
use Rattle.lists.proofs.Filled.{Filled}
use Rattle.layout.proofs.Facts.{Points as PointFacts, points_say}
use Rattle.line.specs.Line.{point_byte}
use Rattle.point_packing.proofs.Bytes.{point_fits, eight_fit, bytes_more, bytes-all}
use Rattle.point_packing.proofs.pack.points.Goals as goal
use Rattle.point_packing.proofs.pack.points.Goals.{After-store8}

-- the first point of a pair is filled in
first : (c : After-store8) → Filled c.args.out.now (point_byte c.args.layout c.args.codes.now) (c.args.layout.bytes * (2 * c.loop-pair.pair + 1)) c.store8.new.out
first c =
    let facts : PointFacts c.args.layout = points_say c.args.layout c.requires.layout_value.0 in
    let i = 2 * c.loop-pair.pair in
    bytes_more c.args.layout c.args.codes.now c.args.out.now _ _ i c.joined.result 8 (omega arith) c.joined.ensures facts.bytes_most
    (omega (arith, c.requires.codes_len.1, eight_fit c.args.layout.bytes i c.args.n facts.bytes_least (omega arith))) c.loop-pair.invariant c.store8.ensures

pub store8-requires : goal.store8-requires
store8-requires c =
    let facts : PointFacts c.args.layout = points_say c.args.layout c.requires.layout_value.0 in
    let l = c.loop-pair in
    omega (arith, l.invariant.long, c.requires.codes_len.1, eight_fit c.args.layout.bytes (2 * l.pair) c.args.n facts.bytes_least (omega arith))

pub store8-requires-in-loop-pair : goal.store8-requires-in-loop-pair
store8-requires-in-loop-pair c =
    let facts : PointFacts c.args.layout = points_say c.args.layout c.requires.layout_value.0 in
    omega (arith, (first (goal.at.store8-requires-in-loop-pair c).After-store8).long, c.requires.codes_len.1, eight_fit c.args.layout.bytes (2 * c.loop-pair.pair + 1) c.args.n facts.bytes_least (omega arith))

pub loop-pair-preserved : goal.loop-pair-preserved
loop-pair-preserved c =
    let facts : PointFacts c.args.layout = points_say c.args.layout c.requires.layout_value.0 in
    let i = 2 * c.loop-pair.pair + 1 in
    let v = c.joined-in-loop-pair in
    bytes_more c.args.layout c.args.codes.now c.args.out.now _ _ i v.result 8 (omega arith) v.ensures facts.bytes_most
    (omega (arith, c.requires.codes_len.1, eight_fit c.args.layout.bytes i c.args.n facts.bytes_least (omega arith))) (first (goal.at.loop-pair-preserved c).After-store8) c.store8-in-loop-pair.ensures

pub store_low-requires : goal.store_low-requires
store_low-requires c =
    let l = c.loop-i in
    omega (arith, l.invariant.0, l.invariant.1.long, point_fits c.args.layout.bytes l.i c.args.n (omega arith))

pub loop-i-preserved : goal.loop-i-preserved
loop-i-preserved c = let l = c.loop-i in
    let v = c.joined-in-loop-i in (
      l.invariant.0,
      bytes_more c.args.layout c.args.codes.now _ _ _ l.i v.result c.args.layout.bytes (omega arith) v.ensures (omega arith)
          (omega (arith, l.invariant.0, point_fits c.args.layout.bytes l.i c.args.n (omega arith))) l.invariant.1 c.store_low.ensures,
    )

pub returns : goal.returns
returns c = let l = c.loop-i in
    bytes-all c.args.layout c.args.codes.now _ _ l.i c.args.n (omega arith) c.requires.codes_len.0 l.invariant.0 l.invariant.1
