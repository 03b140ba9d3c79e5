-- The loop over the rewrites: what is done, before what is left to do, is always the whole. Assumes nothing.
use mathlib.Core.Path.{◌≡◌, refl, sym, ap, ◌∙◌}
use mathlib.Core.List.{List, [], ◌∷◌, ◌++◌, append_assoc, append-nil}
use Prim.Native.Nat.{ℕ, suc, ◌+◌, ◌≤◌, ◌<◌}
use native.Mathlib.Nat.{zero-add}
use native.Mathlib.Numerals.{add-one}
use native.Mathlib.Omega.{arith}
use borrow.Rule.Slice.PartMut.{put_mid, same_len_mid}
use lib.ListN.{length, length-drop, get_or, set, take, drop, length-set, length-append, drop_of_length-le}
use lib.Seq.{take_all, drop-cons, take-suc-set, append_snoc, take_at, drop_at, length-take-le}
use Rattle.card_table.specs.Table.{card_size}
use Rattle.custody_book.specs.History.{Rewrite}
use Rattle.custody_rewrites.specs.Lists.{sum, rewrites_of}
use Rattle.custody_rewrites.specs.Rewriting.{card_after_all, outputs_after_all, answers_after_all}
use Rattle.custody_rewrites.proofs.OneRewrite.{Left}

-- the rewrites that are left, k of them and `at` bytes of the outputs being done
abbrev pub rest : (editions lengths outputs : List ℕ) (at k : ℕ) → List Rewrite
rest editions lengths outputs at k = rewrites_of (drop k editions) (drop k lengths) (drop at outputs)

pub record Going (editions lengths outputs₀ card₀ answers₀ outputs answers card : List ℕ) (at k : ℕ) : Type 0 where
  pub card-long : length card ≡ card_size
  pub outputs-long : length outputs ≡ length outputs₀
  pub answers-long : length answers ≡ length answers₀
  pub done : k ≤ length editions
  pub bytes : at + sum (drop k lengths) ≡ length outputs₀
  pub card_is : card_after_all card (rest editions lengths outputs at k) ≡ card_after_all card₀ (rewrites_of editions lengths outputs₀)
  pub outputs_are : take at outputs ++ outputs_after_all card (rest editions lengths outputs at k) ≡ outputs_after_all card₀ (rewrites_of editions lengths outputs₀)
  pub answers_are : take k answers ++ answers_after_all card (rest editions lengths outputs at k) ≡ answers_after_all card₀ (rewrites_of editions lengths outputs₀)

-- it holds at the start
pub going_start : (editions lengths outputs card answers : List ℕ) → length card ≡ card_size → sum lengths ≡ length outputs
    → Going editions lengths outputs card answers outputs answers card 0 0
going_start editions lengths outputs card answers h s =
    record {
      card-long = h;
      outputs-long = refl;
      answers-long = refl;
      done = omega arith;
      bytes = zero-add (sum lengths) ∙ s;
      card_is = refl;
      outputs_are = refl;
      answers_are = refl;
    }

-- at the end nothing is left
pub going_end : (editions lengths outputs₀ card₀ answers₀ outputs answers card : List ℕ) (at k : ℕ)
    → Going editions lengths outputs₀ card₀ answers₀ outputs answers card at k → length editions ≤ k → length lengths ≤ k → length answers₀ ≤ k
    → (card ≡ card_after_all card₀ (rewrites_of editions lengths outputs₀))
    × (outputs ≡ outputs_after_all card₀ (rewrites_of editions lengths outputs₀))
    × (answers ≡ answers_after_all card₀ (rewrites_of editions lengths outputs₀))
going_end editions lengths outputs₀ card₀ answers₀ outputs answers card at k g he hl ha =
    let e : drop k editions ≡ [] = drop_of_length-le editions he in
    let s : sum (drop k lengths) ≡ 0 = ap sum (drop_of_length-le lengths hl) in (
      (rw e at g.card_is),
      sym (append-nil outputs) ∙ (rw (e, take_all at outputs (omega (arith, g.outputs-long, g.bytes))) at g.outputs_are),
      sym (append-nil answers) ∙ (rw (e, take_all k answers (omega (arith, g.answers-long))) at g.answers_are),
    )

-- one rewrite
module _ (editions lengths outputs₀ card₀ answers₀ outputs answers card : List ℕ) (at k : ℕ)
    (g : Going editions lengths outputs₀ card₀ answers₀ outputs answers card at k)
    (h : k < length editions) (hl : k < length lengths) (ha : k < length answers) where
  pub fits : at + get_or lengths k 0 ≤ length outputs
  fits = omega (arith, ap sum (drop-cons lengths k 0 hl), g.bytes, g.outputs-long)

  module _ (answer : ℕ) (output' card' : List ℕ)
      (l : Left card (get_or editions k 0) (take (get_or lengths k 0) (drop at outputs)) answer output' card')
      (long : length output' ≡ length (take (get_or lengths k 0) (drop at outputs)))
      (kept : length card' ≡ length card) where
    abbrev n : ℕ
    n = get_or lengths k 0

    -- the rewrites after it
    abbrev later : List Rewrite
    later = rewrites_of (drop (suc k) editions) (drop (suc k) lengths) (drop n (drop at outputs))

    now_is : rest editions lengths outputs at k ≡ record { edition = get_or editions k 0; output = take n (drop at outputs) } ∷ later
    now_is = rw (drop-cons editions k 0 h, drop-cons lengths k 0 hl) refl

    card_now : card_after_all card (rest editions lengths outputs at k) ≡ card_after_all card' later
    card_now = rw (now_is, l.2) refl

    outputs_now : outputs_after_all card (rest editions lengths outputs at k) ≡ output' ++ outputs_after_all card' later
    outputs_now = rw (now_is, l.1, l.2) refl

    answers_now : answers_after_all card (rest editions lengths outputs at k) ≡ answer ∷ answers_after_all card' later
    answers_now = rw (now_is, l.0, l.2) refl

    output-long : length output' ≡ n
    output-long = long ∙ length-take-le n (drop at outputs) (simp length-drop (omega (arith, fits)))

    front : length (take at outputs ++ output') ≡ at + n
    front = simp (length-append, output-long, length-take-le at outputs (omega (arith, fits)))

    abbrev outputs' : List ℕ
    outputs' = put_mid at n outputs output'

    done_is : take (at + n) outputs' ≡ take at outputs ++ output'
    done_is =
        ap (take (at + n)) (sym (append_assoc (take at outputs) output' (drop n (drop at outputs))))
        ∙ take_at (take at outputs ++ output') (drop n (drop at outputs)) (at + n) front

    left_is : drop (at + n) outputs' ≡ drop n (drop at outputs)
    left_is =
        ap (drop (at + n)) (sym (append_assoc (take at outputs) output' (drop n (drop at outputs))))
        ∙ drop_at (take at outputs ++ output') (drop n (drop at outputs)) (at + n) front

    later_is : rest editions lengths outputs' (at + n) (k + 1) ≡ later
    later_is = rw (add-one, left_is)

    answers_done : take (k + 1) (set answers k answer) ≡ take k answers ++ (answer ∷ [])
    answers_done = rw add-one (take-suc-set answers k answer ha)

    going_next : Going editions lengths outputs₀ card₀ answers₀ outputs' (set answers k answer) card' (at + n) (k + 1)
    going_next =
        record {
          card-long = kept ∙ g.card-long;
          outputs-long = same_len_mid at n outputs output' long ∙ g.outputs-long;
          answers-long = length-set answers k answer ∙ g.answers-long;
          done = omega arith;
          bytes = rw add-one (omega (arith, ap sum (drop-cons lengths k 0 hl), g.bytes));
          card_is = ap (card_after_all card') later_is ∙ sym card_now ∙ g.card_is;
          outputs_are =
              rw (later_is, done_is)
              (append_assoc (take at outputs) output' (outputs_after_all card' later)
              ∙ sym (ap (λ (o : List ℕ). take at outputs ++ o) outputs_now)
              ∙ g.outputs_are);
          answers_are =
              rw (later_is, answers_done)
              (append_snoc (take k answers) answer (answers_after_all card' later)
              ∙ sym (ap (λ (o : List ℕ). take k answers ++ o) answers_now)
              ∙ g.answers_are);
        }

  -- m is the length as the code has it: end - at
  pub going_next_at : (m : ℕ) → get_or lengths k 0 ≡ m → (answer : ℕ) (output' card' : List ℕ)
      → Left card (get_or editions k 0) (take m (drop at outputs)) answer output' card'
      → length output' ≡ length (take m (drop at outputs)) → length card' ≡ length card
      → Going editions lengths outputs₀ card₀ answers₀ (put_mid at m outputs output') (set answers k answer) card' (at + get_or lengths k 0) (k + 1)
  going_next_at m e answer output' card' l long kept = rw (← e) (going_next answer output' card' (rw (← e) at l) (rw (← e) at long) kept)
