-- The lines of all cards, and the whole list with its answer. Assumes nothing.
use mathlib.Core.Path.{◌≡◌, refl, sym, ap, ◌∙◌}
use mathlib.Core.Bool.{Bool, true, false, cond}
use mathlib.Core.List.{List, ◌++◌, append-nil}
use Prim.Native.Nat.{ℕ, zero, suc, ◌+◌, ◌*◌, ◌%◌, ◌≤◌, ◌<◌}
use native.Mathlib.Numerals.{add-one}
use native.Mathlib.Omega.{arith}
use borrow.Author.Tests.{leb-true, lt-ltb, le-ltb}
use lib.Dec.{eqb, leb}
use lib.ListN.{length, length-append, length-drop, take, drop}
use lib.Seq.{take_at, drop_at, drop-drop}
use Rattle.lists.specs.Lists.{new_or_kept}
use Rattle.lists.proofs.Tests.{and_right, pass, stop}
use Rattle.card_table.specs.Table.{card_size}
use Rattle.stack.specs.Stack.{cards_in, whole_stack, card_at}
use Rattle.listing.specs.List.{card_line, first_line, card_lines, list_text}
use Rattle.listing.specs.Text.{longest_list, text_answer, text_output}
use Rattle.text_writer.specs.declared.TextWriter.{TextWriter}
use Rattle.text_writer.specs.Put.{Put, Wrote}
use Rattle.text_writer.proofs.Puts.{wrote_join, wrote_as, front}
use Rattle.std.specs.Prelude.{Result, Ok, Err, IsOk, is_ok}
use Rattle.refusal.specs.declared.Refusal.{Refusal}
use Rattle.refusal.specs.declared.Refusal.TheVariants.{WrongLineOrOutput}
use Rattle.listing.proofs.Longest.{card_longest, first_longest}

-- ---- the lines of the cards

pub cards_none : (s : List ℕ) (w : TextWriter) → w.at ≤ length w.out.now → Wrote (card_lines s 0) w w
unfolding card_lines
cards_none s w h = record { stored = record { holds = refl; ends = omega arith }; lent = refl }

-- the card that the loop takes off what is left of the stack
module _ (s : List ℕ) (k : ℕ) {rest : List ℕ} (card left : List ℕ) (at : rest ≡ drop (32 * k) s) (parts : rest ≡ card ++ left) (long : length card ≡ 32) where
  pub card_is : card ≡ card_at s k
  card_is = sym (take_at card left 32 long) ∙ ap (take 32) (sym parts ∙ at)

  pub left_is : left ≡ drop (32 * (k + 1)) s
  left_is =
      let e : 32 * k + 32 ≡ 32 * (k + 1) = omega arith in
      sym (drop_at card left 32 long) ∙ ap (drop 32) (sym parts ∙ at) ∙ drop-drop 32 (32 * k) s ∙ ap (λ (n : ℕ). drop n s) e

  pub so_many : 32 * k ≤ length s → 32 * (k + 1) ≤ length s
  so_many h = omega (arith, ap length at, ap length parts, length-append card left, length-drop (32 * k) s)

next_lines : (s : List ℕ) (i : ℕ) → card_lines s i ++ card_line (card_at s i) ≡ card_lines s (i + 1)
unfolding card_lines
next_lines s i = sym (ap (card_lines s) (add-one i))

pub cards_next : (s : List ℕ) (i : ℕ) {w₀ w₁ w₂ : TextWriter} {card : List ℕ} → card ≡ card_at s i → Wrote (card_lines s i) w₀ w₁ → Wrote (card_line card) w₁ w₂ → Wrote (card_lines s (i + 1)) w₀ w₂
cards_next s i e a b = wrote_as (ap (λ (c : List ℕ). card_lines s i ++ card_line c) e ∙ next_lines s i) (wrote_join a b)

pub lines_longest : (s : List ℕ) (n : ℕ) → length (card_lines s n) ≤ 41 * n
unfolding card_lines
lines_longest s zero = omega arith
lines_longest s (suc n) = omega (arith, lines_longest s n, card_longest (card_at s n), length-append (card_lines s n) (card_line (card_at s n)))

-- ---- the whole list

few_cards : (bytes : ℕ) → whole_stack bytes ≡ true → cards_in bytes ≤ 1024
few_cards bytes e = leb-true (cards_in bytes) 1024 (and_right (eqb (bytes % card_size) 0) (leb (cards_in bytes) 1024) e)

module _ (s : List ℕ) where
  whole_list : whole_stack (length s) ≡ true → first_line (length s) ++ card_lines s (cards_in (length s)) ≡ list_text s
  unfolding list_text
  whole_list e = ap (λ (t : Bool). first_line (length s) ++ card_lines s (cond t (cards_in (length s)) 0)) (sym e)

  one_line : whole_stack (length s) ≡ false → first_line (length s) ≡ list_text s
  unfolding list_text card_lines
  one_line e = sym (append-nil (first_line (length s))) ∙ ap (λ (t : Bool). first_line (length s) ++ card_lines s (cond t (cards_in (length s)) 0)) (sym e)

  -- no stack has a longer list
  pub list_longest : length (list_text s) ≤ 42000
  list_longest = by (whole_stack (length s)) refl
    where
      by : (t : Bool) → whole_stack (length s) ≡ t → length (list_text s) ≤ 42000
      by true e =
          omega (
            arith,
            sym (ap length (whole_list e)),
            length-append (first_line (length s)) (card_lines s (cards_in (length s))),
            first_longest (length s),
            lines_longest s (cards_in (length s)),
            few_cards (length s) e,
          )
      by false e = omega (arith, sym (ap length (one_line e)), first_longest (length s))

  -- ---- the answer

  pub refused : (out : List ℕ) → length out < 42000 → (Err WrongLineOrOutput ≡ text_answer (list_text s) (length out)) × (out ≡ text_output (list_text s) out)
  unfolding text_answer text_output
  refused out h =
      let e = sym (stop _ (lt-ltb (length out) longest_list h)) in
      (e, ap (λ (a : Result ℕ Refusal). new_or_kept (is_ok a) (list_text s ++ drop (length (list_text s)) out) out) e)

  pub written : {out ys : List ℕ} {next : ℕ} → 42000 ≤ length out → Put (list_text s) 0 out ys next
      → (Ok next ≡ text_answer (list_text s) (length out)) × (ys ≡ text_output (list_text s) out)
  unfolding text_answer text_output
  written {out} {ys} {next} h p =
      let f = front (omega (arith, list_longest)) p in
      let e = ap Ok f.0 ∙ sym (pass (Err WrongLineOrOutput) (le-ltb (length out) longest_list h) refl) in
      (e, f.1 ∙ ap (λ (n : ℕ). list_text s ++ drop n out) f.0 ∙ ap (λ (a : Result ℕ Refusal). new_or_kept (is_ok a) (list_text s ++ drop (length (list_text s)) out) out) e)

  -- the list that was written, which is all or one line
  pub wrote_list : {w₀ w₁ w₂ : TextWriter} → whole_stack (length s) ≡ true → Wrote (first_line (length s)) w₀ w₁ → Wrote (card_lines s (cards_in (length s))) w₁ w₂ → Wrote (list_text s) w₀ w₂
  wrote_list e a b = wrote_as (whole_list e) (wrote_join a b)

  pub wrote_line : {w₀ w₁ : TextWriter} → whole_stack (length s) ≡ false → Wrote (first_line (length s)) w₀ w₁ → Wrote (list_text s) w₀ w₁
  wrote_line e a = wrote_as (one_line e) a

  -- an output that every list fits in is not refused, and its front is then the text
  module _ (before : List ℕ) (h : 42000 ≤ length before) where
    answer_is : text_answer (list_text s) (length before) ≡ Ok (length (list_text s))
    unfolding text_answer
    answer_is = pass (Err WrongLineOrOutput) (le-ltb (length before) longest_list h) refl

    pub not_refused : {r : Result ℕ Refusal} → r ≡ text_answer (list_text s) (length before) → IsOk r
    not_refused e = rw (e ∙ answer_is) refl

    pub leaves : (n : ℕ) {after : List ℕ} → Ok n ≡ text_answer (list_text s) (length before) → after ≡ text_output (list_text s) before
        → (n ≡ length (list_text s)) × (n ≤ length before) × (after ≡ list_text s ++ drop n before)
    unfolding text_output
    leaves n {after} e o =
        let f : Ok n ≡ Ok (length (list_text s)) = e ∙ answer_is in
        let z : n ≡ length (list_text s) = cc in
        (z, omega (arith, list_longest), o ∙ ap (λ (a : Result ℕ Refusal). new_or_kept (is_ok a) (list_text s ++ drop (length (list_text s)) before) before) (sym e) ∙ ap (λ (k : ℕ). list_text s ++ drop k before) (sym z))
