-- What is answered for a card whose bytes 0 to 23 are the table's and whose others are any: an odd width is refused, and what was written later than it is read is shown. Assumes nothing.
use Prim.Native.Nat.{ℕ, ◌≤◌, ◌<◌}
use mathlib.Core.Bool.{Bool, true, false, not, cond, ◌&&◌, ◌||◌}
use mathlib.Core.Path.{◌≡◌, refl, sym, ap, ◌∙◌}
use mathlib.Core.List.{List, ◌++◌}
use native.Mathlib.Omega.{arith}
use borrow.Author.Tests.{leb-true, eq-eqb, le-leb, lt-leb, le-ltb}
use lib.Dec.{eqb, leb}
use lib.ListN.{length, get_or, take}
use Rattle.lists.specs.Bytes.{bytes_of, number_at}
use Rattle.lists.proofs.Tests.{and_left, pass, stop}
use Rattle.card_table.specs.declared.facts.Facts.{Facts}
use Rattle.card_edition.specs.Edition.{newest, edition_known, has_access}
use Rattle.card_table.specs.Facts.{least_edition, facts_valid, odd_width, with_access}
use Rattle.card_edition.specs.Access.{closed, access_known, access_of, access_unknown}
use Rattle.card_table.specs.Table.{card_size, card_bytes}
use Rattle.card_table.proofs.Least.{least_with, least_some}
use Rattle.card_reader.specs.Reading.{layout_in, facts_in, front_right, end_wrong, read_card}
use Rattle.card_reader.proofs.Answers.{shown}
use Rattle.card_laws.proofs.Valid.{sizes, valid_with}
use Rattle.std.specs.Prelude.{Ok, Err}
use Rattle.refusal.specs.declared.Refusal.TheVariants.{OddCount}
use Rattle.card_laws.proofs.Written.{width_is, height_is, item_is}

-- bytes 0 to 23 of the table's card, and any others, at an edition that is not below the least
module _ (w e : ℕ) (f : Facts) (others : List ℕ) (v : facts_valid f ≡ true) (n : length others ≡ 8) (k : edition_known e ≡ true) (l : least_edition f ≤ e) (lw : least_edition f ≤ w) where
  abbrev pub card : List ℕ
  unfolding card_bytes bytes_of
  card = take 24 (card_bytes w f) ++ others

  abbrev shown_access : ℕ
  shown_access = access_of w (get_or others 0 0) e

  abbrev seen : Facts
  seen = with_access f shown_access

  fits : access_known shown_access ≡ true
  unfolding access_of
  fits = go (has_access w && has_access e) (access_known (get_or others 0 0)) refl
    where
      go : (t u : Bool) → access_known (get_or others 0 0) ≡ u → access_known (cond (t && u) (get_or others 0 0) closed) ≡ true
      go true true p = p
      go true false p = refl
      go false u p = refl

  facts_is : facts_in card e ≡ seen
  unfolding facts_in layout_in card
  facts_is =
      let z = sizes f v in
      λ i. record {
        layout = f.layout;
        width = width_is w f z i;
        height = height_is w f z i;
        item = item_is w f z i;
        access = shown_access;
      }

  front_is : front_right card (facts_in card e) ≡ true
  unfolding front_right card
  front_is =
      let s = least_edition f in
      let t = eq-eqb s (least_edition seen) (sym (least_with f shown_access)) in
      let z = valid_with f shown_access v fits in
      ap (front_right card) facts_is ∙ (λ i. t i && le-leb s w lw i && z i && true)

  long_is : eqb (length card) card_size ≡ true
  unfolding card
  long_is = let z : length card ≡ card_size = omega (arith, n) in ap (λ (x : ℕ). eqb x card_size) z

  -- an odd width is refused, whatever the others are
  pub odd_refused : odd_width f ≡ true → read_card card e ≡ Err OddCount
  unfolding read_card card
  odd_refused o =
      pass _ (ap not long_is) (pass _ (ap not k) (pass _ (least_some f) (pass _ (le-ltb e (least_edition f) l) (pass _ (ap not front_is) (stop _ (ap odd_width facts_is ∙ o))))))

  -- an even one is shown, where the card was written later than it is read
  module _ (o : odd_width f ≡ false) (m : e < w) where
    -- the writer has access, and is later
    has : has_access w ≡ true
    has = le-leb 2 w (omega (arith, leb-true 1 e (and_left (leb 1 e) (leb e newest) k), m))

    later : leb w e ≡ false
    later = lt-leb w e m

    access_is : access_unknown w (get_or others 0 0) e ≡ false
    unfolding access_unknown
    access_is = λ i. has i && later i && not (access_known (get_or others 0 0))

    end_is : end_wrong card e ≡ false
    unfolding end_wrong card
    end_is = λ i. not (has i) && not (eqb (number_at card 24 8) 0) || has i && later i && not (eqb (number_at card 25 7) 0)

    pub later_shown : read_card card e ≡ Ok (with_access f (cond (has_access e && access_known (get_or others 0 0)) (get_or others 0 0) closed))
    unfolding card access_of
    later_shown =
        sym (shown card e long_is k (least_some f) (le-ltb e (least_edition f) l) front_is (ap odd_width facts_is ∙ o) access_is end_is)
        ∙ ap Ok facts_is ∙ (λ i. Ok (with_access f (cond (has i && has_access e && access_known (get_or others 0 0)) (get_or others 0 0) closed)))
