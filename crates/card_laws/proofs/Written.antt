-- What a card that was written from valid facts shows at every edition. Assumes nothing.
use mathlib.Core.Path.{◌≡◌, refl, sym, ap, ap₂, ◌∙◌}
use mathlib.Core.Bool.{Bool, true, false, not, cond, ◌&&◌, ◌||◌, and-false}
use Prim.Native.Nat.{ℕ}
use native.Mathlib.Omega.{arith}
use borrow.Author.Tests.{ltb-false, eqb-true, eq-eqb, le-leb, not-false}
use lib.Dec.{eqb, ltb}
use lib.ListN.{length}
use Rattle.lists.specs.Bytes.{bytes_of, number_at}
use Rattle.lists.proofs.Tests.{pass, stop}
use Rattle.lists.proofs.Bytes.{little-bytes_of, number_is}
use Rattle.card_table.specs.declared.facts.Facts.{Facts}
use Rattle.card_edition.specs.Edition.{edition_known, has_access}
use Rattle.card_table.specs.Facts.{least_edition, odd_width, with_access}
use Rattle.card_edition.specs.Access.{closed, access_known, access_of, table_holds, access_unknown}
use Rattle.card_table.specs.Table.{card_size, card_bytes}
use Rattle.card_table.proofs.Least.{least_with, least_some}
use Rattle.card_table.proofs.Table.{length-card}
use Rattle.card_reader.specs.Reading.{layout_in, facts_in, front_right, end_wrong, read_card}
use Rattle.card_reader.proofs.Answers.{refused_7, refused_8, shown}
use Rattle.card_laws.specs.Claims.{shows}
use Rattle.std.specs.Prelude.{Ok}
use Rattle.card_laws.proofs.Valid.{Sizes, sizes, valid_with, At}

-- the access that is shown of a card of valid facts
access-shown : (e e' a : ℕ) → access_known a ≡ true → not (has_access e) && not (eqb a closed) ≡ false → access_of e a e' ≡ cond (has_access e') a closed
unfolding access_of
access-shown e e' a k s = go (has_access e) (has_access e') s
  where
    go : (t u : Bool) → not t && not (eqb a closed) ≡ false → cond (t && u && access_known a) a closed ≡ cond u a closed
    go true true s = stop _ k
    go true false s = refl
    go false true s = sym (eqb-true a 0 (not-false (eqb a 0) s))
    go false false s = refl

access-fits : (a : ℕ) (t : Bool) → access_known a ≡ true → access_known (cond t a closed) ≡ true
access-fits a true k = k
access-fits a false k = refl

-- what the bytes of a card hold
module _ (e : ℕ) (f : Facts) (z : Sizes f) where
  pub width_is : number_at (card_bytes e f) 12 2 ≡ f.width
  unfolding card_bytes bytes_of
  width_is = number_is (card_bytes e f) 12 2 (omega (arith, length-card e f)) ∙ little-bytes_of f.width 2 z.width

  pub height_is : number_at (card_bytes e f) 14 2 ≡ f.height
  unfolding card_bytes bytes_of
  height_is = number_is (card_bytes e f) 14 2 (omega (arith, length-card e f)) ∙ little-bytes_of f.height 2 z.height

  pub item_is : number_at (card_bytes e f) 16 8 ≡ f.item
  unfolding card_bytes bytes_of
  item_is = number_is (card_bytes e f) 16 8 (omega (arith, length-card e f)) ∙ little-bytes_of f.item 8 z.item

  end_is : number_at (card_bytes e f) 24 8 ≡ f.access
  unfolding card_bytes bytes_of
  end_is = omega arith

  rest_is : number_at (card_bytes e f) 25 7 ≡ 0
  unfolding card_bytes bytes_of
  rest_is = refl

module _ (e e' : ℕ) (f : Facts) (v : At e f) where
  -- the facts, as an edition shows them
  abbrev seen : Facts
  seen = with_access f (cond (has_access e') f.access closed)

  facts_is : facts_in (card_bytes e f) e' ≡ seen
  unfolding facts_in layout_in card_bytes bytes_of
  facts_is =
      let z = sizes f v.facts in
      λ i. record {
        layout = f.layout;
        width = width_is e f z i;
        height = height_is e f z i;
        item = item_is e f z i;
        access = access-shown e e' f.access z.access v.silent i;
      }

  front_seen : front_right (card_bytes e f) seen ≡ true
  unfolding front_right card_bytes
  front_seen =
      let l = least_edition f in
      let s = eq-eqb l (least_edition seen) (sym (least_with f (cond (has_access e') f.access closed))) in
      let z = valid_with f (cond (has_access e') f.access closed) v.facts (access-fits f.access (has_access e') (sizes f v.facts).access) in
      λ i. s i && le-leb l e (ltb-false e l v.readable) i && z i && true

  front_is : front_right (card_bytes e f) (facts_in (card_bytes e f) e') ≡ true
  front_is = ap (front_right (card_bytes e f)) facts_is ∙ front_seen

  even_is : odd_width (facts_in (card_bytes e f) e') ≡ false
  even_is = ap odd_width facts_is ∙ v.even

  access_is : access_unknown e f.access e' ≡ false
  unfolding access_unknown
  access_is = ap (λ (t : Bool). table_holds e e' && not t) (sizes f v.facts).access ∙ and-false (table_holds e e')

  rest_right : end_wrong (card_bytes e f) e' ≡ false
  unfolding end_wrong card_bytes
  rest_right =
      let z = sizes f v.facts in
      (λ i. not (has_access e) && not (eqb (end_is e f z i) 0) || table_holds e e' && not (eqb (rest_is e f z i) 0))
      ∙ ap₂ ◌||◌ v.silent (and-false (table_holds e e'))

  long_is : eqb (length (card_bytes e f)) card_size ≡ true
  long_is = ap (λ (n : ℕ). eqb n card_size) (length-card e f)

  -- no row applies
  read_shown : edition_known e' ≡ true → ltb e' (least_edition f) ≡ false → read_card (card_bytes e f) e' ≡ Ok seen
  unfolding card_bytes bytes_of
  read_shown k h = sym (shown (card_bytes e f) e' long_is k (least_some f) h front_is even_is access_is rest_right) ∙ ap Ok facts_is

  by_rows : (k h : Bool) → edition_known e' ≡ k → ltb e' (least_edition f) ≡ h → read_card (card_bytes e f) e' ≡ shows f e'
  unfolding shows card_bytes
  by_rows false h p q = sym (refused_7 (card_bytes e f) e' long_is p) ∙ sym (stop _ (ap not p))
  by_rows true true p q = sym (refused_8 (card_bytes e f) e' long_is p (least_some f) q) ∙ sym (pass _ (ap not p) (stop _ q))
  by_rows true false p q = read_shown p q ∙ sym (pass _ (ap not p) (pass _ q refl))

  pub read_card_lem : read_card (card_bytes e f) e' ≡ shows f e'
  read_card_lem = by_rows (edition_known e') (ltb e' (least_edition f)) refl refl
