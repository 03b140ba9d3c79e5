-- `point_decoding::put` meets its contract. Assumes nothing.
use mathlib.Core.Path.{ap₂, ◌∙◌}
use Prim.Native.Nat.{◌+◌, ◌*◌, ◌^◌, ◌≤◌, ◌<◌}
use native.Mathlib.Omega.{arith}
use lib.Dec.{lit<}
use lib.ListN.{length}
use Rattle.lists.proofs.Lists.{written-three}
use Rattle.scale.specs.Value.{value_of}
use Rattle.field.proofs.Line.{reaches, read_here}
use Rattle.point_decoding.specs.inner.Read.{read_value}
use Rattle.point_decoding.proofs.points.put.Goals as goal

pub value_at-requires : goal.value_at-requires
value_at-requires c =
    let reach0 : c.args.at + c.of-field0.result.first + c.of-field0.result.count ≤ length c.args.packed.now = reaches c.args.layout c.requires.layout_value.0 c.requires.layout_value.1 0 c.args.at (lit< tt) c.of-field0.ensures c.of-field0.ensures _ c.requires.bytes_in_bounds.0 in
    reach0

pub value_at-requires-2 : goal.value_at-requires-2
value_at-requires-2 c =
    let reach1 : c.args.at + c.of-field1.result.first + c.of-field0.result.count ≤ length c.args.packed.now = reaches c.args.layout c.requires.layout_value.0 c.requires.layout_value.1 1 c.args.at (lit< tt) c.of-field1.ensures c.of-field0.ensures _ c.requires.bytes_in_bounds.0 in
    reach1

pub overflow_add-at-3 : goal.overflow_add-at-3
overflow_add-at-3 c =
    let room : (length c.args.packed.now < 2 ^ 63) × (4 * length c.args.out.now < 2 ^ 63) × (3 * c.args.i + 3 ≤ length c.args.out.now) = (omega (arith, c.well_formed.1.1.0.1), omega (arith, c.well_formed.1.1.1.1.0.1), c.requires.bytes_in_bounds.1) in
    let reach2 : c.args.at + c.of-field2.result.first + c.of-field0.result.count ≤ length c.args.packed.now = reaches c.args.layout c.requires.layout_value.0 c.requires.layout_value.1 2 c.args.at (lit< tt) c.of-field2.ensures c.of-field0.ensures _ c.requires.bytes_in_bounds.0 in
    omega (arith, reach2, room)

pub value_at-requires-3 : goal.value_at-requires-3
value_at-requires-3 c =
    let reach2 : c.args.at + c.of-field2.result.first + c.of-field0.result.count ≤ length c.args.packed.now = reaches c.args.layout c.requires.layout_value.0 c.requires.layout_value.1 2 c.args.at (lit< tt) c.of-field2.ensures c.of-field0.ensures _ c.requires.bytes_in_bounds.0 in
    reach2

pub returns : goal.returns
returns c = let a = c.args in
    let field0 = c.of-field0.ensures in
    written-three a.out.now (3 * a.i) (read_value a.layout a.packed.now a.at) _ _ _
    (c.value_at.ensures ∙ ap₂ value_of c.requires.layout_value.2.fitted0 (read_here a.layout c.requires.layout_value.0 c.requires.layout_value.1 0 a.at (lit< tt) field0 field0 a.packed.now))
    (c.value_at-2.ensures ∙ ap₂ value_of c.requires.layout_value.2.fitted1 (read_here a.layout c.requires.layout_value.0 c.requires.layout_value.1 1 a.at (lit< tt) c.of-field1.ensures field0 a.packed.now))
    (c.value_at-3.ensures ∙ ap₂ value_of c.requires.layout_value.2.fitted2 (read_here a.layout c.requires.layout_value.0 c.requires.layout_value.1 2 a.at (lit< tt) c.of-field2.ensures field0 a.packed.now))
