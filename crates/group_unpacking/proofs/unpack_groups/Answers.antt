-- `group_unpacking::unpack_groups` meets its contract, row by row. Assumes nothing.
use mathlib.Core.Path.{sym, ◌∙◌}
use Rattle.line.proofs.Grouped.{group_codes_lem, of_groups_lem, of_neither, two_tests, group_layout}
use Rattle.line.proofs.GroupAnswers.{unpack_outside, unpack_unfit, unpack_points_lem}
use Rattle.line.proofs.Answers.{refuses, counts}
use Rattle.group_unpacking.proofs.unpack_groups.Goals as goal

pub returns-then-not-grouped-valid : goal.returns-then-not-grouped-valid
returns-then-not-grouped-valid c = let l = c.args.layout in
    let done = of_neither l _ _ _ _ (two_tests l c.grouped.ensures c.valid.ensures c.if-not-grouped-valid.true) (λ v. refuses _ _ (unpack_outside _ _ _ v)) in
    record { answer = done.0; memory = done.1 }

pub returns-then-not-packed-points : goal.returns-then-not-packed-points
returns-then-not-packed-points c = let l = c.args.layout in
    let k = group_layout l c.grouped.ensures c.valid.ensures c.if-not-grouped-valid.false in
    let done = of_groups_lem l _ _ _ _ k.own (refuses _ _ (unpack_unfit _ _ _ k.ok k.own c.if-not-packed-points.true)) in
    record { answer = done.0; memory = done.1 }

pub returns : goal.returns
returns c = let l = c.args.layout in
    let k = group_layout l c.grouped.ensures c.valid.ensures c.if-not-grouped-valid.false in
    let done =
    of_groups_lem l _ _ _ _ k.own
    (counts _ (unpack_points_lem _ _ _ k.ok k.own c.if-not-packed-points.false) (c.groups.ensures ∙ sym (group_codes_lem l k.valid c.args.packed.now))) in
    record { answer = done.0; memory = done.1 }
