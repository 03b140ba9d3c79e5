-- The answers of encoding points of their own, by the tests that lead to them. Assumes nothing.
use mathlib.Core.Path.{◌≡◌, ap, ◌∙◌}
use mathlib.Core.Bool.{Bool, true, false, not}
use mathlib.Core.List.{List}
use Prim.Native.Nat.{ℕ, ◌/◌}
use lib.Ieee.{Float, nan}
use lib.ListN.{length}
use Rattle.lists.proofs.Tests.{pass, stop}
use Rattle.layout.specs.declared.Layout.{Layout}
use Rattle.layout.specs.Layout.{grouped, valid_layout}
use Rattle.layout.proofs.Facts.{valid_says}
use Rattle.line.specs.Line.{shared}
use Rattle.line.specs.Answer.{fitting, packable}
use Rattle.line.proofs.Own.{own_points, own_odd, own_packable, own_shared}
use Rattle.line.proofs.Answers.{packed-count}
use Rattle.std.specs.Prelude.{Ok, Err}
use Rattle.refusal.specs.declared.Refusal.TheVariants.{NotANumber, Outside, WrongLineOrOutput}
use Rattle.line_values.specs.Encode.{cuts_of, all_numbers, encode_answer}

module _ (l : Layout) (own : grouped l ≡ false) (vs : List Float) (bytes : ℕ) where
  fits-so : {t : Bool} → fitting (length vs) 3 bytes l.bytes ≡ t → not (packable l (length vs) bytes) ≡ not t
  fits-so f = ap not (own_packable l own (length vs) bytes ∙ f)

  numbers-so : {t : Bool} → all_numbers vs ≡ t → not (all_numbers (shared l nan vs)) ≡ not t
  numbers-so g = ap not (ap all_numbers (own_shared l own nan vs) ∙ g)

  pub encode_outside : valid_layout l ≡ false → encode_answer l vs bytes ≡ Err Outside
  unfolding encode_answer
  encode_outside e = stop _ (ap not e)

  pub encode_unfit : valid_layout l ≡ true → fitting (length vs) 3 bytes l.bytes ≡ false → encode_answer l vs bytes ≡ Err WrongLineOrOutput
  unfolding encode_answer
  encode_unfit e f = pass _ (ap not e) (pass _ (own_odd l own (length vs)) (stop _ (fits-so f)))

  pub encode_not_number : valid_layout l ≡ true → fitting (length vs) 3 bytes l.bytes ≡ true → all_numbers vs ≡ false → encode_answer l vs bytes ≡ Err NotANumber
  unfolding encode_answer
  encode_not_number e f g = pass _ (ap not e) (pass _ (own_odd l own (length vs)) (pass _ (fits-so f) (stop _ (numbers-so g))))

  pub encode_points_lem : valid_layout l ≡ true → fitting (length vs) 3 bytes l.bytes ≡ true → all_numbers vs ≡ true → encode_answer l vs bytes ≡ Ok (length vs / 3, cuts_of l vs)
  unfolding encode_answer
  encode_points_lem e f g =
      pass _ (ap not e) (pass _ (own_odd l own (length vs)) (pass _ (fits-so f) (pass _ (numbers-so g)
      (ap (λ (n : ℕ). (Ok (n, cuts_of l vs))) (own_points l own bytes ∙ packed-count l (length vs) bytes (valid_says l e).bytes_least f)))))
