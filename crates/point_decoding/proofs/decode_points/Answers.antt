-- `point_decoding::decode_points` meets its contract, row by row. Assumes nothing.
use mathlib.Core.Path.{◌≡◌, sym, ap, ◌∙◌}
use mathlib.Core.Bool.{true, false}
use native.Mathlib.Omega.{arith}
use lib.ListN.{length}
use Rattle.layout.specs.Layout.{grouped, valid_points}
use Rattle.lists.proofs.Results.{none_of_err, some_of_ok, handed_on}
use Rattle.layout.proofs.Facts.{Points as PointFacts, points_say, not_grouped}
use Rattle.scales.proofs.OfLayouts.{scales_told, scales_unknown}
use Rattle.line.proofs.Own.{own_answer, own_other}
use Rattle.line.proofs.Answers.{refuses, counts, triple_le, unpack_outside, unpack_unfit, unpack_points_lem}
use Rattle.std.specs.Prelude.{Err}
use Rattle.refusal.specs.declared.Refusal.TheVariants.{Outside}
use Rattle.point_decoding.proofs.Own.{own_values}
use Rattle.point_decoding.proofs.decode_points.Goals as goal

pub returns-in_err-scales : goal.returns-in_err-scales
returns-in_err-scales c =
    let l = c.args.layout in
    let none = none_of_err c.of_points.result Outside (sym c.ok_or.ensures.value ∙ c.in_err-scales.was) in
    let done =
    own_other l _ _ _ _ (λ own. refuses _ _ (unpack_outside l own _ _ (scales_unknown l _ (sym c.of_points.ensures ∙ none.0)))) in
    record { answer = handed_on c.from_residual.result c.in_err-scales.field-0.0 c.from_residual.ensures ∙ ap Err (sym none.1) ∙ done.0; memory = done.1 }

pub nonzero_div-n : goal.nonzero_div-n
nonzero_div-n c =
    let told = scales_told c.args.layout _ (sym c.of_points.ensures ∙ some_of_ok c.of_points.result Outside (sym c.ok_or.ensures.value ∙ c.in_ok-scales.was)) in
    let facts : PointFacts c.args.layout = points_say c.args.layout told.0 in
    omega (arith, facts)

pub nonzero_rem-packed : goal.nonzero_rem-packed
nonzero_rem-packed c =
    let told = scales_told c.args.layout _ (sym c.of_points.ensures ∙ some_of_ok c.of_points.result Outside (sym c.ok_or.ensures.value ∙ c.in_ok-scales.was)) in
    let facts : PointFacts c.args.layout = points_say c.args.layout told.0 in
    omega (arith, facts)

pub overflow_mul-n : goal.overflow_mul-n
overflow_mul-n c =
    let told = scales_told c.args.layout _ (sym c.of_points.ensures ∙ some_of_ok c.of_points.result Outside (sym c.ok_or.ensures.value ∙ c.in_ok-scales.was)) in
    let facts : PointFacts c.args.layout = points_say c.args.layout told.0 in
    let a = c.args in
    omega (arith, triple_le (length a.packed.now) a.layout.bytes facts.bytes_least)

pub returns-then-not-packed-size : goal.returns-then-not-packed-size
returns-then-not-packed-size c =
    let told = scales_told c.args.layout _ (sym c.of_points.ensures ∙ some_of_ok c.of_points.result Outside (sym c.ok_or.ensures.value ∙ c.in_ok-scales.was)) in
    let own : grouped c.args.layout ≡ false = not_grouped c.args.layout told.0 in
    let done =
    own_answer _ _ _ _ _ told.0 (refuses _ _ (unpack_unfit _ own _ _ told.0 (c.if-not-packed-size.true))) in
    record { answer = done.0; memory = done.1 }

pub returns : goal.returns
returns c =
    let told = scales_told c.args.layout _ (sym c.of_points.ensures ∙ some_of_ok c.of_points.result Outside (sym c.ok_or.ensures.value ∙ c.in_ok-scales.was)) in
    let own : grouped c.args.layout ≡ false = not_grouped c.args.layout told.0 in
    let done =
    own_answer _ _ _ _ _ told.0 (counts _ (unpack_points_lem _ own _ _ told.0 (c.if-not-packed-size.false)) (c.all.ensures ∙ sym (own_values _ own _))) in
    record { answer = done.0; memory = done.1 }
