-- `point_unpacking::one_channel` meets its contract: each turn stores one code. Assumes nothing.
use mathlib.Core.Path.{refl, ◌∙◌}
use native.Mathlib.Omega.{arith}
use Rattle.lists.proofs.Bytes.{are_bytes_lem}
use Rattle.layout.proofs.Facts.{points_say}
use Rattle.line.specs.Line.{point_code}
use Rattle.line.proofs.Channels.{channel_none, channel_more}
use Rattle.field.proofs.Line.{field_reaches, field_read, next_point}
use Rattle.point_unpacking.proofs.points.one_channel.Goals as goal

pub loop-i-init : goal.loop-i-init
loop-i-init c = let a = c.args in
    (omega arith, channel_none (point_code a.layout a.packed.now) a.codes.now a.channel)

pub code_at-requires : goal.code_at-requires
code_at-requires c = let l = c.loop-i in
    field_reaches c.args.layout c.requires.layout_value.0 c.args.n _ c.requires.packed_len.0 c.args.channel l.i l.at c.of-field.ensures c.loop-i-test.true l.invariant.0

pub overflow_add-at : goal.overflow_add-at
overflow_add-at c = let l = c.loop-i in
    omega (arith, field_reaches c.args.layout c.requires.layout_value.0 c.args.n _ c.requires.packed_len.0 c.args.channel l.i l.at c.of-field.ensures c.loop-i-test.true l.invariant.0, c.step-at.ensures, c.well_formed.1.1.0.1, (points_say c.args.layout c.requires.layout_value.0).bytes_most)

pub loop-i-preserved : goal.loop-i-preserved
loop-i-preserved c = let l = c.loop-i in
    let a = c.args in
    let h = c.loop-i-test.true in
    let are = are_bytes_lem a.packed.now (λ i. (c.type_inv.packed i).fits) in (
      next_point a.layout l.i c.of-field.result.first l.at c.step-at.ensures l.invariant.0,
      channel_more (point_code a.layout a.packed.now) a.codes.now l.codes a.channel l.i _ l.invariant.1
          (c.code_at.ensures ∙ field_read a.layout c.requires.layout_value.0 a.n _ c.requires.packed_len.0 a.packed.now a.channel l.i l.at refl are c.of-field.ensures c.requires.layout_value.1 h l.invariant.0),
    )
