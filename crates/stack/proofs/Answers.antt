-- Finding an item, row by row. Assumes nothing.
use Prim.Native.Nat.{ℕ, ◌+◌, ◌*◌, ◌%◌, ◌≤◌, ◌<◌}
use mathlib.Core.Bool.{Bool, true, false, not, cond}
use mathlib.Core.Path.{◌≡◌, refl, sym, ap, ◌∙◌}
use mathlib.Core.List.{List}
use native.Mathlib.Omega.{arith}
use borrow.Author.Tests.{leb-true}
use lib.Dec.{eqb, leb}
use lib.ListN.{length}
use Rattle.lists.proofs.Tests.{and_right, pass, stop}
use Rattle.card_edition.specs.Edition.{edition_known}
use Rattle.card_table.specs.Table.{card_size}
use Rattle.stack.specs.Stack.{stack_limit, cards_in, whole_stack, card_at}
use Rattle.card_reader.specs.Reading.{read_card, shows_item}
use Rattle.stack.specs.Finding.{has_item, first, located}
use Rattle.std.specs.Prelude.{Result, Ok, Err}
use Rattle.refusal.specs.declared.Refusal.TheVariants.{UnknownEdition, WrongLength}
use Rattle.refusal.specs.declared.Refusal.{Refusal}
use Rattle.stack.proofs.First.{not_at, first_is}

module _ (s : List ℕ) (e item : ℕ) where
  -- what a turn asks of card i
  pub seen : (i : ℕ) {card : List ℕ} {b : Bool} → card ≡ card_at s i → b ≡ shows_item item (read_card card e) → has_item s e item i ≡ b
  unfolding has_item
  seen i p h = sym (h ∙ ap (λ (c : List ℕ). shows_item item (read_card c e)) p)

  pub located_1 : not (whole_stack (length s)) ≡ true → located s e item ≡ Err WrongLength
  unfolding located
  located_1 w = stop _ w

  pub located_7 : not (whole_stack (length s)) ≡ false → not (edition_known e) ≡ true → located s e item ≡ Err UnknownEdition
  unfolding located
  located_7 w k = pass _ w (stop _ k)

  pub located-first : not (whole_stack (length s)) ≡ false → not (edition_known e) ≡ false → located s e item ≡ first (has_item s e item) 0 (cards_in (length s))
  unfolding located
  located-first w k = pass _ w (pass _ k refl)

-- an answer that is neither 1 nor 7 is the search's, the stack being one and the edition known
pub record Searched (s : List ℕ) (e item : ℕ) (r : Result ℕ Refusal) : Type 0 where
  pub whole : whole_stack (length s) ≡ true
  pub known : edition_known e ≡ true
  pub search : first (has_item s e item) 0 (cards_in (length s)) ≡ r

pub searched : (s : List ℕ) (e item : ℕ) (r : Result ℕ Refusal) → located s e item ≡ r → (Err WrongLength ≡ r → ⊥) → (Err UnknownEdition ≡ r → ⊥) → Searched s e item r
unfolding located
searched s e item r h not1 not7 = go (whole_stack (length s)) (edition_known e) refl refl h
  where
    go :
        (w d : Bool) → whole_stack (length s) ≡ w → edition_known e ≡ d
        → cond (not w) (Err WrongLength) (cond (not d) (Err UnknownEdition) (first (has_item s e item) 0 (cards_in (length s)))) ≡ r
        → Searched s e item r
    go true true p q h = record { whole = p; known = q; search = h }
    go true false p q h = absurd (not7 h)
    go false d p q h = absurd (not1 h)

pub searched_at : (s : List ℕ) (e item k : ℕ) → located s e item ≡ Ok k → Searched s e item (Ok k)
searched_at s e item k h = searched s e item (Ok k) h not_at not_at

-- a card that is located lies within the stack
pub located_in : (s : List ℕ) (e item k : ℕ) → located s e item ≡ Ok k → card_size * k + card_size ≤ length s
located_in s e item k h = omega (arith, (first_is (has_item s e item) 0 (cards_in (length s)) k (searched_at s e item k h).search).high)

-- and is one of 1,024 at most
pub located-few : (s : List ℕ) (e item k : ℕ) → located s e item ≡ Ok k → k < stack_limit
located-few s e item k h =
    let r = searched_at s e item k h in
    let n = cards_in (length s) in
    omega (arith, (first_is (has_item s e item) 0 n k r.search).high, leb-true n stack_limit (and_right (eqb (length s % card_size) 0) (leb n stack_limit) r.whole))
