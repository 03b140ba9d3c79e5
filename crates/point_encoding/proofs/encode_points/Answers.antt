-- `point_encoding::encode_points` meets its contract, row by row. Assumes nothing.
use mathlib.Core.Path.{◌≡◌, sym, ap, ◌∙◌}
use mathlib.Core.Bool.{true, false}
use Prim.Native.Nat.{ℕ, ◌/◌}
use native.Mathlib.Nat.{mul-le-mul_right}
use native.Mathlib.Omega.{arith}
use lib.ListN.{length}
use Rattle.layout.specs.Layout.{grouped, valid_layout}
use Rattle.lists.proofs.Results.{none_of_err, some_of_ok, handed_on}
use Rattle.layout.proofs.Facts.{valid_says, not_grouped, points-valid, no_points}
use Rattle.scales.proofs.OfLayouts.{scales_told, scales_unknown}
use Rattle.line.specs.inner.Cuts.{cuts_told}
use Rattle.line.proofs.Own.{own_packed, own_answer, own_other}
use Rattle.line.proofs.Answers.{refuses, counts, fits, all_told}
use Rattle.line_values.specs.Encode.{cuts_of}
use Rattle.line_values.proofs.Encodes.{cuts_most}
use Rattle.point_encoding.proofs.Answers.{encode_outside, encode_unfit, encode_not_number, encode_points_lem}
use Rattle.std.specs.Prelude.{Ok, Err}
use Rattle.refusal.specs.declared.Refusal.TheVariants.{Outside}
use Rattle.point_encoding.proofs.encode_points.Goals as goal

pub returns-in_err-scales : goal.returns-in_err-scales
returns-in_err-scales c =
    let l = c.args.layout in
    let none = none_of_err c.of_points.result Outside (sym c.ok_or.ensures.value ∙ c.in_err-scales.was) in
    let done =
    own_other l _ _ _ _ (λ own. refuses _ _ (encode_outside l own _ _ (no_points l own (scales_unknown l _ (sym c.of_points.ensures ∙ none.0))))) in
    record { answer = handed_on c.from_residual.result c.in_err-scales.field-0.0 c.from_residual.ensures ∙ ap Err (sym none.1) ∙ done.0; memory = done.1 }

pub overflow_mul-size : goal.overflow_mul-size
overflow_mul-size c =
    let told = scales_told c.args.layout _ (sym c.of_points.ensures ∙ some_of_ok c.of_points.result Outside (sym c.ok_or.ensures.value ∙ c.in_ok-scales.was)) in
    let valid : valid_layout c.args.layout ≡ true = points-valid c.args.layout told.0 in
    let a = c.args in
    omega (arith, mul-le-mul_right (length a.values.now / 3) (valid_says a.layout valid).bytes_most)

pub returns-then-not-values-n : goal.returns-then-not-values-n
returns-then-not-values-n c =
    let told = scales_told c.args.layout _ (sym c.of_points.ensures ∙ some_of_ok c.of_points.result Outside (sym c.ok_or.ensures.value ∙ c.in_ok-scales.was)) in
    let own : grouped c.args.layout ≡ false = not_grouped c.args.layout told.0 in
    let valid : valid_layout c.args.layout ≡ true = points-valid c.args.layout told.0 in
    let done =
    own_answer _ _ _ _ _ told.0 (refuses _ _ (encode_unfit _ own _ _ valid (c.if-not-values-n.true))) in
    record { answer = done.0; memory = done.1 }

pub returns-then-not-all_numbers : goal.returns-then-not-all_numbers
returns-then-not-all_numbers c =
    let told = scales_told c.args.layout _ (sym c.of_points.ensures ∙ some_of_ok c.of_points.result Outside (sym c.ok_or.ensures.value ∙ c.in_ok-scales.was)) in
    let own : grouped c.args.layout ≡ false = not_grouped c.args.layout told.0 in
    let valid : valid_layout c.args.layout ≡ true = points-valid c.args.layout told.0 in
    let done =
    own_answer _ _ _ _ _ told.0 (refuses _ _ (encode_not_number _ own _ _ valid (c.if-not-values-n.false) (sym c.all_numbers.ensures ∙ c.if-not-all_numbers.true))) in
    record { answer = done.0; memory = done.1 }

pub returns : goal.returns
returns c =
    let told = scales_told c.args.layout _ (sym c.of_points.ensures ∙ some_of_ok c.of_points.result Outside (sym c.ok_or.ensures.value ∙ c.in_ok-scales.was)) in
    let own : grouped c.args.layout ≡ false = not_grouped c.args.layout told.0 in
    let valid : valid_layout c.args.layout ≡ true = points-valid c.args.layout told.0 in
    let a = c.args in
    let p = c.encode-cuts in
    let fit = c.if-not-values-n.false in
    let h = fits (length a.values.now) 3 (length a.out.now) a.layout.bytes fit in
    let told-all = all_told (length a.values.now) (length a.values.now / 3) (cuts_of a.layout a.values.now) h.0 h.1 (cuts_most a.layout a.values.now) in
    let done =
    own_answer _ _ _ _ _ told.0
    (counts _
    (encode_points_lem _ own _ _ valid fit (sym c.all_numbers.ensures ∙ c.if-not-all_numbers.false) ∙ ap (λ (k : ℕ). Ok (length a.values.now / 3, k)) (sym (c.cuts_told.ensures ∙ ap cuts_told p.ensures.cuts ∙ told-all)))
    (p.ensures.memory ∙ sym (own_packed _ own _))) in
    record { answer = done.0; memory = done.1 }
