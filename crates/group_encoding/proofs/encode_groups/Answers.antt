-- `group_encoding::encode_groups` meets its contract, row by row. Assumes nothing.
use mathlib.Core.Path.{◌≡◌, sym, ap, ap₂, ◌∙◌}
use Prim.Native.Nat.{ℕ, ◌*◌, ◌/◌, ◌≤◌}
use native.Mathlib.Omega.{arith}
use lib.ListN.{length}
use Rattle.lists.proofs.Results.{none_of_err, some_of_ok, handed_on}
use Rattle.layout.proofs.Facts.{valid_groups_lem, groups_valid, no_groups_lem}
use Rattle.scales.proofs.OfLayouts.{scales_told, scales_unknown}
use Rattle.line.specs.inner.Cuts.{cuts_told}
use Rattle.line.proofs.Grouped.{group_packed, of_groups_lem}
use Rattle.line.proofs.GroupAnswers.{pack_sizes}
use Rattle.line.proofs.Answers.{refuses, counts, all_told}
use Rattle.line_values.specs.Encode.{cuts_of}
use Rattle.line_values.proofs.Encodes.{cuts_most}
use Rattle.group_encoding.proofs.Answers.{encode_outside, encode_odd, encode_unfit, encode_not_number, encode_points_lem}
use Rattle.std.specs.Prelude.{Ok, Err}
use Rattle.refusal.specs.declared.Refusal.TheVariants.{Outside}
use Rattle.group_encoding.proofs.encode_groups.Goals as goal

pub returns-in_err-scales : goal.returns-in_err-scales
returns-in_err-scales c =
    let l = c.args.layout in
    let none = none_of_err c.of_groups.result Outside (sym c.ok_or.ensures.value ∙ c.in_err-scales.was) in
    let done =
    of_groups_lem l _ _ _ _ (sym c.grouped.ensures ∙ c.if-not-grouped.false) (refuses _ _ (encode_outside _ _ _ (no_groups_lem l (sym c.grouped.ensures ∙ c.if-not-grouped.false) (scales_unknown l _ (sym c.of_groups.ensures ∙ none.0))))) in
    record { answer = handed_on c.from_residual.result c.in_err-scales.field-0.0 c.from_residual.ensures ∙ ap Err (sym none.1) ∙ done.0; memory = done.1 }

pub returns-then-values-points : goal.returns-then-values-points
returns-then-values-points c =
    let l = c.args.layout in
    let g = sym c.grouped.ensures ∙ c.if-not-grouped.false in
    let told = scales_told l _ (sym c.of_groups.ensures ∙ some_of_ok c.of_groups.result Outside (sym c.ok_or.ensures.value ∙ c.in_ok-scales.was)) in
    let valid = groups_valid l told.0 in
    let done =
    of_groups_lem l _ _ _ _ g (refuses _ _ (encode_odd l _ _ valid g c.if-values-points.true)) in
    record { answer = done.0; memory = done.1 }

pub returns-then-not-values-points : goal.returns-then-not-values-points
returns-then-not-values-points c =
    let l = c.args.layout in
    let g = sym c.grouped.ensures ∙ c.if-not-grouped.false in
    let told = scales_told l _ (sym c.of_groups.ensures ∙ some_of_ok c.of_groups.result Outside (sym c.ok_or.ensures.value ∙ c.in_ok-scales.was)) in
    let valid = groups_valid l told.0 in
    let done =
    of_groups_lem l _ _ _ _ g (refuses _ _ (encode_unfit l _ _ valid g c.if-values-points.false (c.if-not-values-points.true))) in
    record { answer = done.0; memory = done.1 }

pub returns-then-not-all_numbers : goal.returns-then-not-all_numbers
returns-then-not-all_numbers c =
    let l = c.args.layout in
    let g = sym c.grouped.ensures ∙ c.if-not-grouped.false in
    let told = scales_told l _ (sym c.of_groups.ensures ∙ some_of_ok c.of_groups.result Outside (sym c.ok_or.ensures.value ∙ c.in_ok-scales.was)) in
    let valid = groups_valid l told.0 in
    let done =
    of_groups_lem l _ _ _ _ g (refuses _ _ (encode_not_number l _ _ valid g c.if-values-points.false (c.if-not-values-points.false) (sym c.all_numbers.ensures ∙ c.if-not-all_numbers.true))) in
    record { answer = done.0; memory = done.1 }

pub returns : goal.returns
returns c =
    let l = c.args.layout in
    let g = sym c.grouped.ensures ∙ c.if-not-grouped.false in
    let told = scales_told l _ (sym c.of_groups.ensures ∙ some_of_ok c.of_groups.result Outside (sym c.ok_or.ensures.value ∙ c.in_ok-scales.was)) in
    let valid = groups_valid l told.0 in
    let fit : let a = c.args in
    let n = length a.values.now / 3 / 2 in
    (length a.values.now ≡ 6 * n) × (length a.out.now ≡ 4 * n) × (n ≤ 2048) = let a = c.args in
    pack_sizes (length a.values.now) (length a.out.now) c.if-values-points.false (c.if-not-values-points.false) in
    let a = c.args in
    let p = c.encode-cuts in
    let points = length a.values.now / 3 in
    let told-all = all_told (length a.values.now) points (cuts_of a.layout a.values.now) (omega (arith, fit)) (omega (arith, fit)) (cuts_most a.layout a.values.now) in
    let done =
    of_groups_lem a.layout _ _ _ _ g
    (counts _
    (encode_points_lem a.layout _ _ valid g c.if-values-points.false (c.if-not-values-points.false) (sym c.all_numbers.ensures ∙ c.if-not-all_numbers.false)
    ∙ ap₂ (λ (n k : ℕ). Ok (n, k)) (omega (arith, fit)) (sym (c.cuts_told.ensures ∙ ap cuts_told p.ensures.cuts ∙ told-all)))
    (p.ensures.memory ∙ sym (group_packed a.layout (valid_groups_lem a.layout valid g) _))) in
    record { answer = done.0; memory = done.1 }
