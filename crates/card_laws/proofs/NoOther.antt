-- Bytes that are shown, and were not written later than they are read, are the table's card. Assumes nothing.
use Prim.Native.Nat.{ℕ, zero, suc, ◌+◌, ◌*◌, ◌/◌, ◌%◌, ◌≤◌, ◌<◌}
use mathlib.Core.Bool.{Bool, true, false, not, cond, ◌&&◌, ◌||◌}
use mathlib.Core.Path.{◌≡◌, refl, sym, ap, ◌∙◌}
use mathlib.Core.List.{List, [], ◌∷◌, ◌++◌}
use native.Mathlib.Omega.{arith}
use borrow.Author.Tests.{eqb-true, leb-true, ltb-true, le-leb, not-false}
use lib.Dec.{eqb, leb, ltb}
use lib.ListN.{get_or}
use Rattle.lists.specs.Lists.{tabulate, every}
use Rattle.lists.specs.Bytes.{are_bytes, bytes_of, number_at}
use Rattle.lists.proofs.Lists.{is_tabulate}
use Rattle.lists.proofs.Tests.{and_left, and_right, and3}
use Rattle.card_table.specs.declared.facts.Facts.{Facts}
use Rattle.card_edition.specs.Edition.{has_access}
use Rattle.card_table.specs.Facts.{least_edition, facts_valid}
use Rattle.card_edition.specs.Access.{closed, access_known, access_of, access_unknown}
use Rattle.card_table.specs.Table.{card_size, card_bytes}
use Rattle.card_reader.specs.Reading.{writer_of, layout_in, facts_in, front_right, end_wrong}
use Rattle.card_reader.proofs.Shown.{Accepted}
use Rattle.card_laws.proofs.Valid.{or_left}

-- the k bytes of s from index at on
abbrev from : List ℕ → ℕ → ℕ → List ℕ
from s at zero = []
from s at (suc k) = get_or s at 0 ∷ from s (at + 1) k

-- the bytes of their number
bytes_of_number : (s : List ℕ) → ((i : ℕ) → get_or s i 0 < 256) → (at k : ℕ) → bytes_of (number_at s at k) k ≡ from s at k
unfolding bytes_of
bytes_of_number s h at zero = refl
bytes_of_number s h at (suc k) =
    let g = get_or s at 0 in
    let v = number_at s (at + 1) k in
    let low : (g + 256 * v) % 256 ≡ g = omega (arith, h at) in
    let high : (g + 256 * v) / 256 ≡ v = omega (arith, h at) in
    (λ i. low i ∷ bytes_of (high i) k) ∙ ap (λ (r : List ℕ). g ∷ r) (bytes_of_number s h (at + 1) k)

-- every byte is below 256, and so is what is read past the end
below : (b : List ℕ) → are_bytes b ≡ true → (i : ℕ) → get_or b i 0 < 256
unfolding every
below [] h i = omega arith
below (x ∷ xs) h zero = ltb-true x 256 (and_left (ltb x 256) (are_bytes xs) h)
below (x ∷ xs) h (suc i) = below xs (and_right (ltb x 256) (are_bytes xs) h) i

module _ (b : List ℕ) (e : ℕ) (a : Accepted b e (facts_in b e)) (le : writer_of b ≤ e) where
  -- bytes 24 to 31 are the access that is shown, and zeros
  abbrev EndIs : Type 0
  EndIs = (get_or b 24 0 ≡ access_of (writer_of b) (get_or b 24 0) e) × (number_at b 25 7 ≡ 0)

  -- where the table holds for them
  with_access_lem : has_access (writer_of b) ≡ true → EndIs
  unfolding access_of access_unknown end_wrong
  with_access_lem p =
      let w = writer_of b in
      let l : leb w e ≡ true = le-leb w e le in
      let q : has_access e ≡ true = le-leb 2 e (omega (arith, leb-true 2 w p, le)) in
      let k = not-false (access_known (get_or b 24 0)) (sym (λ i. p i && l i && not (access_known (get_or b 24 0))) ∙ a.access) in
      let z = not-false (eqb (number_at b 25 7) 0) (sym (λ i. not (p i) && not (eqb (number_at b 24 8) 0) || p i && l i && not (eqb (number_at b 25 7) 0)) ∙ a.end) in
      (sym (λ i. cond (p i && q i && k i) (get_or b 24 0) closed), eqb-true (number_at b 25 7) 0 z)

  -- where all are zero
  without : has_access (writer_of b) ≡ false → EndIs
  unfolding access_of end_wrong
  without p =
      let w = writer_of b in
      let z = sym (λ i. not (p i) && not (eqb (number_at b 24 8) 0) || p i && leb w e && not (eqb (number_at b 25 7) 0)) ∙ a.end in
      let n = eqb-true (number_at b 24 8) 0 (not-false (eqb (number_at b 24 8) 0) (or_left (not (eqb (number_at b 24 8) 0)) false z)) in
      let x : get_or b 24 0 ≡ 0 = omega (arith, n) in
      (x ∙ sym (λ i. cond (p i && has_access e && access_known (get_or b 24 0)) (get_or b 24 0) closed), omega (arith, n))

  end_is : EndIs
  end_is = go (has_access (writer_of b)) refl
    where
      go : (t : Bool) → has_access (writer_of b) ≡ t → EndIs
      go true p = with_access_lem p
      go false p = without p

  -- bytes 0 and 11
  front_is : (get_or b 0 0 ≡ least_edition (facts_in b e)) × (get_or b 11 0 ≡ 0)
  unfolding front_right facts_in
  front_is =
      let s = eqb (get_or b 0 0) (least_edition (facts_in b e)) in
      let t = leb (get_or b 0 0) (writer_of b) in
      let u = facts_valid (facts_in b e) in
      let x = eqb (get_or b 11 0) 0 in
      let r = and3 s t u (and_left (s && t && u) x a.front) in
      (eqb-true (get_or b 0 0) (least_edition (facts_in b e)) r.0, eqb-true (get_or b 11 0) 0 (and_right (s && t && u) x a.front))

  module _ (h : (i : ℕ) → get_or b i 0 < 256) where
    -- byte by byte
    by_bytes : tabulate card_size (λ i. get_or b i 0) ≡ card_bytes (writer_of b) (facts_in b e)
    unfolding tabulate card_bytes facts_in layout_in
    by_bytes =
        let z = end_is.1 in
        let z25 : get_or b 25 0 ≡ 0 = omega (arith, z) in
        let z26 : get_or b 26 0 ≡ 0 = omega (arith, z) in
        let z27 : get_or b 27 0 ≡ 0 = omega (arith, z) in
        let z28 : get_or b 28 0 ≡ 0 = omega (arith, z) in
        let z29 : get_or b 29 0 ≡ 0 = omega (arith, z) in
        let z30 : get_or b 30 0 ≡ 0 = omega (arith, z) in
        let z31 : get_or b 31 0 ≡ 0 = omega (arith, z) in
        let width = sym (bytes_of_number b h 12 2) in
        let height = sym (bytes_of_number b h 14 2) in
        let item = sym (bytes_of_number b h 16 8) in
        λ i. front_is.0 i ∷ get_or b 1 0
        ∷ get_or b 2 0 ∷ get_or b 3 0 ∷ get_or b 4 0 ∷ get_or b 5 0 ∷ get_or b 6 0 ∷ get_or b 7 0
        ∷ get_or b 8 0 ∷ get_or b 9 0 ∷ get_or b 10 0 ∷ front_is.1 i
        ∷ (width i ++ (height i ++ (item i ++ (end_is.0 i ∷ z25 i ∷ z26 i ∷ z27 i ∷ z28 i ∷ z29 i ∷ z30 i ∷ z31 i ∷ []))))

    card_is : b ≡ card_bytes (writer_of b) (facts_in b e)
    card_is = is_tabulate 0 b card_size (λ i. get_or b i 0) a.size (λ k l. refl) ∙ by_bytes

pub no_other : (b : List ℕ) (e : ℕ) (f : Facts) → are_bytes b ≡ true → Accepted b e f → writer_of b ≤ e → b ≡ card_bytes (writer_of b) f
no_other b e f h a le =
    let a' : Accepted b e (facts_in b e) = record { size = a.size; edition = a.edition; readable = a.readable; front = a.front; even = a.even; access = a.access; end = a.end; is = refl } in
    card_is b e a' le (below b h) ∙ ap (card_bytes (writer_of b)) a.is
