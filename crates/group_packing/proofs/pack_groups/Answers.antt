-- `group_packing::pack_groups` meets its contract, row by row. Assumes nothing.
use mathlib.Core.Path.{sym, ◌∙◌}
use Rattle.line.proofs.Grouped.{group_packed, of_groups_lem, of_neither, two_tests, group_layout}
use Rattle.line.proofs.Answers.{refuses, counts}
use Rattle.group_packing.proofs.Answers.{pack_outside, pack_odd, pack_unfit, pack_too_high, pack_points_lem}
use Rattle.group_packing.proofs.pack_groups.Goals as goal

pub returns-then-not-grouped-valid : goal.returns-then-not-grouped-valid
returns-then-not-grouped-valid c = let l = c.args.layout in
    let done = of_neither l _ _ _ _ (two_tests l c.grouped.ensures c.valid.ensures c.if-not-grouped-valid.true) (λ v. refuses _ _ (pack_outside _ _ _ v)) in
    record { answer = done.0; memory = done.1 }

pub returns-then-codes-points : goal.returns-then-codes-points
returns-then-codes-points c = let l = c.args.layout in
    let k = group_layout l c.grouped.ensures c.valid.ensures c.if-not-grouped-valid.false in
    let done = of_groups_lem l _ _ _ _ k.own (refuses _ _ (pack_odd _ _ _ k.ok k.own c.if-codes-points.true)) in
    record { answer = done.0; memory = done.1 }

pub returns-then-not-codes-points : goal.returns-then-not-codes-points
returns-then-not-codes-points c = let l = c.args.layout in
    let k = group_layout l c.grouped.ensures c.valid.ensures c.if-not-grouped-valid.false in
    let done = of_groups_lem l _ _ _ _ k.own (refuses _ _ (pack_unfit _ _ _ k.ok k.own c.if-codes-points.false c.if-not-codes-points.true)) in
    record { answer = done.0; memory = done.1 }

pub returns-then-not-all_within : goal.returns-then-not-all_within
returns-then-not-all_within c = let l = c.args.layout in
    let k = group_layout l c.grouped.ensures c.valid.ensures c.if-not-grouped-valid.false in
    let done =
    of_groups_lem l _ _ _ _ k.own
    (refuses _ _ (pack_too_high _ _ _ k.ok k.own c.if-codes-points.false c.if-not-codes-points.false (sym c.all_within.ensures ∙ c.if-not-all_within.true))) in
    record { answer = done.0; memory = done.1 }

pub returns : goal.returns
returns c = let l = c.args.layout in
    let k = group_layout l c.grouped.ensures c.valid.ensures c.if-not-grouped-valid.false in
    let done =
    of_groups_lem l _ _ _ _ k.own
    (counts _ (pack_points_lem _ _ _ k.ok k.own c.if-codes-points.false c.if-not-codes-points.false (sym c.all_within.ensures ∙ c.if-not-all_within.false))
    (c.groups.ensures ∙ sym (group_packed l k.valid c.args.codes.now))) in
    record { answer = done.0; memory = done.1 }
