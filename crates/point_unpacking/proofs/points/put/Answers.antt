-- `point_unpacking::put` meets its contract. Assumes nothing.
use mathlib.Core.Path.{◌∙◌}
use Prim.Native.Nat.{◌+◌, ◌*◌, ◌^◌, ◌≤◌, ◌<◌}
use native.Mathlib.Omega.{arith}
use lib.Dec.{lit<}
use lib.ListN.{length}
use Rattle.lists.proofs.Lists.{written-three}
use Rattle.field.specs.inner.Read.{read_at}
use Rattle.field.proofs.Line.{reaches, read_here}
use Rattle.point_unpacking.proofs.points.put.Goals as goal

pub code_at-requires : goal.code_at-requires
code_at-requires c =
    let reach0 : c.args.at + c.of-field0.result.first + c.of-field0.result.count ≤ length c.args.packed.now = reaches c.args.layout c.requires.layout_value.0 c.requires.layout_value.1 0 c.args.at (lit< tt) c.of-field0.ensures c.of-field0.ensures _ c.requires.bytes_in_bounds.0 in
    reach0

pub code_at-requires-2 : goal.code_at-requires-2
code_at-requires-2 c =
    let reach1 : c.args.at + c.of-field1.result.first + c.of-field0.result.count ≤ length c.args.packed.now = reaches c.args.layout c.requires.layout_value.0 c.requires.layout_value.1 1 c.args.at (lit< tt) c.of-field1.ensures c.of-field0.ensures _ c.requires.bytes_in_bounds.0 in
    reach1

pub overflow_add-at-3 : goal.overflow_add-at-3
overflow_add-at-3 c =
    let room : (length c.args.packed.now < 2 ^ 63) × (2 * length c.args.codes.now < 2 ^ 63) × (3 * c.args.i + 3 ≤ length c.args.codes.now) = (omega (arith, c.well_formed.1.0.1), omega (arith, c.well_formed.1.1.1.0.1), c.requires.bytes_in_bounds.1) in
    let reach2 : c.args.at + c.of-field2.result.first + c.of-field0.result.count ≤ length c.args.packed.now = reaches c.args.layout c.requires.layout_value.0 c.requires.layout_value.1 2 c.args.at (lit< tt) c.of-field2.ensures c.of-field0.ensures _ c.requires.bytes_in_bounds.0 in
    omega (arith, reach2, room)

pub code_at-requires-3 : goal.code_at-requires-3
code_at-requires-3 c =
    let reach2 : c.args.at + c.of-field2.result.first + c.of-field0.result.count ≤ length c.args.packed.now = reaches c.args.layout c.requires.layout_value.0 c.requires.layout_value.1 2 c.args.at (lit< tt) c.of-field2.ensures c.of-field0.ensures _ c.requires.bytes_in_bounds.0 in
    reach2

pub returns : goal.returns
returns c = let a = c.args in
    let field0 = c.of-field0.ensures in
    written-three a.codes.now (3 * a.i) (read_at a.layout a.packed.now a.at) _ _ _
    (c.code_at.ensures ∙ read_here a.layout c.requires.layout_value.0 c.requires.layout_value.1 0 a.at (lit< tt) field0 field0 a.packed.now)
    (c.code_at-2.ensures ∙ read_here a.layout c.requires.layout_value.0 c.requires.layout_value.1 1 a.at (lit< tt) c.of-field1.ensures field0 a.packed.now)
    (c.code_at-3.ensures ∙ read_here a.layout c.requires.layout_value.0 c.requires.layout_value.1 2 a.at (lit< tt) c.of-field2.ensures field0 a.packed.now)
