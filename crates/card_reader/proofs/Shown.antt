-- What an accepted reading says of the bytes: no row applied, and the facts are those that the bytes hold. Assumes nothing.
use mathlib.Core.Path.{◌≡◌, refl, sym, ap, ◌∙◌}
use mathlib.Core.Bool.{Bool, true, false, not, cond}
use mathlib.Core.List.{List}
use Prim.Native.Nat.{ℕ}
use borrow.Author.Tests.{eq-eqb, eqb-true, ne_eqb, not-false}
use lib.Dec.{eqb, ltb}
use lib.ListN.{length, get_or}
use Rattle.lists.specs.Bytes.{number_at}
use Rattle.card_table.specs.declared.facts.Facts.{Facts}
use Rattle.card_edition.specs.Edition.{edition_known}
use Rattle.card_table.specs.Facts.{odd_width}
use Rattle.card_table.specs.Table.{card_size}
use Rattle.card_edition.specs.Access.{access_unknown}
use Rattle.std.specs.Prelude.{Result, Ok, Err, is_ok}
use Rattle.refusal.specs.declared.Refusal.{Refusal}
use Rattle.refusal.specs.declared.Refusal.TheVariants.{LaterEdition, OddCount, Outside, UnknownAccess, UnknownEdition, WrongLength}
use Rattle.card_reader.specs.Reading.{writer_of, facts_in, front_right, end_wrong, read_card, shows_item}

-- a row that did not apply
pub passed : (t : Bool) (n : Refusal) (rest : Result Facts Refusal) (f : Facts) → cond t (Err n) rest ≡ Ok f → (t ≡ false) × (rest ≡ Ok f)
passed true n rest f h = cc
passed false n rest f h = (refl, h)

pub same_facts : (g f : Facts) → ◌≡◌ {A = Result Facts Refusal} (Ok g) (Ok f) → g ≡ f
same_facts g f h = cc

pub record Accepted (b : List ℕ) (e : ℕ) (f : Facts) : Type 0 where
  pub size : length b ≡ card_size
  pub edition : edition_known e ≡ true
  pub readable : ltb e (get_or b 0 0) ≡ false
  pub front : front_right b (facts_in b e) ≡ true
  pub even : odd_width (facts_in b e) ≡ false
  pub access : access_unknown (writer_of b) (get_or b 24 0) e ≡ false
  pub end : end_wrong b e ≡ false
  pub is : facts_in b e ≡ f

pub accepted : (b : List ℕ) (e : ℕ) (f : Facts) → read_card b e ≡ Ok f → Accepted b e f
unfolding read_card
accepted b e f h =
    let r₈ : (Result Facts Refusal) = cond (end_wrong b e) (Err Outside) (Ok (facts_in b e)) in
    let r₇ : (Result Facts Refusal) = cond (access_unknown (writer_of b) (get_or b 24 0) e) (Err UnknownAccess) r₈ in
    let r₆ : (Result Facts Refusal) = cond (odd_width (facts_in b e)) (Err OddCount) r₇ in
    let r₅ : (Result Facts Refusal) = cond (not (front_right b (facts_in b e))) (Err Outside) r₆ in
    let r₄ : (Result Facts Refusal) = cond (ltb e (get_or b 0 0)) (Err LaterEdition) r₅ in
    let r₃ : (Result Facts Refusal) = cond (eqb (get_or b 0 0) 0) (Err Outside) r₄ in
    let r₂ : (Result Facts Refusal) = cond (not (edition_known e)) (Err UnknownEdition) r₃ in
    let h₂ = passed (not (eqb (length b) card_size)) WrongLength r₂ f h in
    let h₃ = passed (not (edition_known e)) UnknownEdition r₃ f h₂.1 in
    let h₄ = passed (eqb (get_or b 0 0) 0) Outside r₄ f h₃.1 in
    let h₅ = passed (ltb e (get_or b 0 0)) LaterEdition r₅ f h₄.1 in
    let h₆ = passed (not (front_right b (facts_in b e))) Outside r₆ f h₅.1 in
    let h₇ = passed (odd_width (facts_in b e)) OddCount r₇ f h₆.1 in
    let h₈ = passed (access_unknown (writer_of b) (get_or b 24 0) e) UnknownAccess r₈ f h₇.1 in
    let h₉ = passed (end_wrong b e) Outside (Ok (facts_in b e)) f h₈.1 in
    record {
      size = eqb-true (length b) card_size (not-false (eqb (length b) card_size) h₂.0);
      edition = not-false (edition_known e) h₃.0;
      readable = h₅.0;
      front = not-false (front_right b (facts_in b e)) h₆.0;
      even = h₇.0;
      access = h₈.0;
      end = h₉.0;
      is = same_facts (facts_in b e) f h₉.1;
    }

-- an item that is shown is the number in bytes 16 to 23 of 32
module _ (b : List ℕ) (e item : ℕ) (h : length b ≡ card_size → number_at b 16 8 ≡ item → ⊥) where
  pub other_item : shows_item item (read_card b e) ≡ false
  unfolding facts_in
  other_item = go (read_card b e) refl
    where
      go : (r : Result Facts Refusal) → read_card b e ≡ r → shows_item item r ≡ false
      go (Err k) p = refl
      go (Ok f) p =
          let a = accepted b e f p in
          ne_eqb f.item item (λ q. h a.size (ap (λ (g : Facts). g.item) a.is ∙ q))

-- and where the bytes hold that number, every reading that is accepted shows the item
pub this_item : (b : List ℕ) (e item : ℕ) → number_at b 16 8 ≡ item → is_ok (read_card b e) ≡ shows_item item (read_card b e)
unfolding facts_in
this_item b e item h = go (read_card b e) refl
  where
    go : (r : Result Facts Refusal) → read_card b e ≡ r → is_ok r ≡ shows_item item r
    go (Err k) p = refl
    go (Ok f) p = sym (eq-eqb f.item item (sym (ap (λ (g : Facts). g.item) (accepted b e f p).is) ∙ h))
