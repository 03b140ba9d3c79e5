-- The answers of encoding groups, by the tests that lead to them. Assumes nothing.
use mathlib.Core.Path.{◌≡◌, ap, ◌∙◌}
use mathlib.Core.Bool.{Bool, true, false, not}
use mathlib.Core.List.{List}
use Prim.Native.Nat.{ℕ, ◌/◌}
use native.Mathlib.Omega.{arith}
use lib.Ieee.{Float, nan}
use lib.ListN.{length}
use Rattle.lists.proofs.Tests.{pass, stop}
use Rattle.layout.specs.declared.Layout.{Layout}
use Rattle.layout.specs.Layout.{grouped, valid_groups, valid_layout}
use Rattle.layout.proofs.Facts.{valid_groups_lem}
use Rattle.line.specs.Line.{shared}
use Rattle.line.specs.inner.Groups.{group_shared}
use Rattle.line.proofs.Grouped.{group_points, group_shared_lem}
use Rattle.line.proofs.GroupAnswers.{odd_groups, pack_fits, pack_sizes, odd_so, fits-so}
use Rattle.std.specs.Prelude.{Ok, Err}
use Rattle.refusal.specs.declared.Refusal.TheVariants.{NotANumber, OddCount, Outside, WrongLineOrOutput}
use Rattle.line_values.specs.Encode.{cuts_of, all_numbers, encode_answer}

module _ (l : Layout) (vs : List Float) (bytes : ℕ) where
  pub encode_outside : valid_layout l ≡ false → encode_answer l vs bytes ≡ Err Outside
  unfolding encode_answer
  encode_outside e = stop _ (ap not e)

  module _ (e : valid_layout l ≡ true) (g : grouped l ≡ true) where
    ok : valid_groups l ≡ true
    ok = valid_groups_lem l e g

    numbers-so : {t : Bool} → all_numbers (group_shared nan vs) ≡ t → not (all_numbers (shared l nan vs)) ≡ not t
    numbers-so n = ap not (ap all_numbers (group_shared_lem l ok nan vs) ∙ n)

    pub encode_odd : odd_groups (length vs) ≡ true → encode_answer l vs bytes ≡ Err OddCount
    unfolding encode_answer
    encode_odd o = pass _ (ap not e) (stop _ (odd_so l ok (length vs) o))

    pub encode_unfit : odd_groups (length vs) ≡ false → pack_fits (length vs) bytes ≡ false → encode_answer l vs bytes ≡ Err WrongLineOrOutput
    unfolding encode_answer
    encode_unfit o f = pass _ (ap not e) (pass _ (odd_so l ok (length vs) o) (stop _ (fits-so l ok (length vs) bytes f)))

    pub encode_not_number : odd_groups (length vs) ≡ false → pack_fits (length vs) bytes ≡ true → all_numbers (group_shared nan vs) ≡ false → encode_answer l vs bytes ≡ Err NotANumber
    unfolding encode_answer
    encode_not_number o f n = pass _ (ap not e) (pass _ (odd_so l ok (length vs) o) (pass _ (fits-so l ok (length vs) bytes f) (stop _ (numbers-so n))))

    pub encode_points_lem : odd_groups (length vs) ≡ false → pack_fits (length vs) bytes ≡ true → all_numbers (group_shared nan vs) ≡ true → encode_answer l vs bytes ≡ Ok (length vs / 3, cuts_of l vs)
    unfolding encode_answer
    encode_points_lem o f n =
        pass _ (ap not e) (pass _ (odd_so l ok (length vs) o) (pass _ (fits-so l ok (length vs) bytes f) (pass _ (numbers-so n)
        (ap (λ (m : ℕ). (Ok (m, cuts_of l vs))) (omega (arith, group_points l ok bytes, pack_sizes (length vs) bytes o f))))))
