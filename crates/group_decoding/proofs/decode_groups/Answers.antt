-- `group_decoding::decode_groups` meets its contract, row by row. Assumes nothing.
use mathlib.Core.Path.{sym, ap, ◌∙◌}
use native.Mathlib.Omega.{arith}
use Rattle.lists.proofs.Results.{none_of_err, some_of_ok, handed_on}
use Rattle.layout.proofs.Facts.{groups_valid, no_groups_lem}
use Rattle.scales.proofs.OfLayouts.{scales_told, scales_unknown}
use Rattle.line.proofs.Grouped.{of_groups_lem}
use Rattle.line.proofs.GroupAnswers.{unpack_outside, unpack_unfit, unpack_points_lem}
use Rattle.line.proofs.Answers.{refuses, counts}
use Rattle.refusal.specs.declared.Refusal.TheVariants.{Outside}
use Rattle.std.specs.Prelude.{Ok, Err}
use Rattle.group_decoding.proofs.decode_groups.Goals as goal

pub returns-in_err-scales : goal.returns-in_err-scales
returns-in_err-scales c =
    let l = c.args.layout in
    let none = none_of_err c.of_groups.result Outside (sym c.ok_or.ensures.value ∙ c.in_err-scales.was) in
    let g = sym c.grouped.ensures ∙ c.if-not-grouped.false in
    let done = of_groups_lem l _ _ _ _ g (refuses _ _ (unpack_outside _ _ _ (no_groups_lem l g (scales_unknown l _ (sym c.of_groups.ensures ∙ none.0))))) in
    record { answer = handed_on c.from_residual.result c.in_err-scales.field-0.0 c.from_residual.ensures ∙ ap Err (sym none.1) ∙ done.0; memory = done.1 }

pub returns-then-not-packed-n : goal.returns-then-not-packed-n
returns-then-not-packed-n c =
    let l = c.args.layout in
    let g = sym c.grouped.ensures ∙ c.if-not-grouped.false in
    let t = scales_told l _ (sym c.of_groups.ensures ∙ some_of_ok c.of_groups.result Outside (sym c.ok_or.ensures.value ∙ c.in_ok-scales.was)) in
    let done = of_groups_lem l _ _ _ _ g (refuses _ _ (unpack_unfit _ _ _ (groups_valid l t.0) g c.if-not-packed-n.true)) in
    record { answer = done.0; memory = done.1 }

pub returns : goal.returns
returns c =
    let l = c.args.layout in
    let g = sym c.grouped.ensures ∙ c.if-not-grouped.false in
    let t = scales_told l _ (sym c.of_groups.ensures ∙ some_of_ok c.of_groups.result Outside (sym c.ok_or.ensures.value ∙ c.in_ok-scales.was)) in
    let done =
    of_groups_lem l _ _ _ _ g (counts _ (unpack_points_lem _ _ _ (groups_valid l t.0) g c.if-not-packed-n.false ∙ ap Ok (omega arith)) c.all.ensures) in
    record { answer = done.0; memory = done.1 }
