-- The rows, and the claims on access, in the numbers of editions 1 to 4. Assumes nothing.
use mathlib.Core.Path.{◌≡◌, refl, sym, ap, ap₂, ◌∙◌}
use mathlib.Core.Bool.{Bool, true, false, not, cond, ◌&&◌, ◌||◌, and-false, false≢true}
use mathlib.Core.Logic.{◌⊎◌, inl, inr, ⊎_elim}
use mathlib.Core.List.{◌∷◌}
use Prim.Native.Nat.{ℕ, zero, suc, ◌≤◌}
use native.Mathlib.Omega.{arith}
use borrow.Author.Tests.{leb-true, leb-false, le-leb, lt-leb, lt-ltb, le-ltb, eq-eqb, ne_eqb}
use lib.Dec.{eqb, leb, ltb}
use lib.ListN.{length, get_or}
use Rattle.lists.specs.Bytes.{number_at}
use Rattle.lists.proofs.Tests.{and_left, and_right}
use Rattle.layout.specs.Layout.{grouped}
use Rattle.layout.proofs.Facts.{odd_of_groups}
use Rattle.card_edition.specs.Edition.{newest, edition_known, has_access}
use Rattle.card_table.specs.Facts.{least_edition, facts_valid, odd_width}
use Rattle.card_edition.specs.Access.{closed, access_known, access_of, table_holds, access_unknown}
use Rattle.card_table.specs.Table.{card_size, card_bytes}
use Rattle.card_reader.specs.Reading.{writer_of, layout_in, facts_in, front_right, end_wrong, read_card}
use Rattle.card_writer.specs.Writing.{unwritable, write_answer}
use Rattle.card_laws.proofs.Valid.{at}
use Rattle.card_laws.specs.Printed.{Row7, Row8, from_two_to_reader, Row9OfTheEnd, Row10, Row11, Row16, AccessShown, ClosedOrAsItStandsFrom2, ClosedToEdition1, ClosedFromEdition1, ClosedOrShownFrom2, ReadsAsEdition3, ReadsItsOwnAsEdition3, WritesAsEdition3, WritesBytesOfEdition3}
use Rattle.std.specs.Prelude.{Result, Ok, Err}
use Rattle.refusal.specs.declared.Refusal.{Refusal}
use Rattle.card_table.specs.declared.facts.Facts.{Facts}
use Rattle.refusal.specs.declared.Refusal.TheVariants.{LaterEdition, OddCount, Outside, UnknownAccess, Unwritable, WrongLength, WrongLineOrOutput}
use Rattle.card_laws.proofs.Claims.{closed_or_as_it_stands, shows-valid-facts, rewrites_never_open}

-- ---- tests of numbers

between : (e : ℕ) → leb 1 e && leb e 4 ≡ eqb e 1 || eqb e 2 || eqb e 3 || eqb e 4
between zero = refl
between (suc zero) = refl
between (suc (suc zero)) = refl
between (suc (suc (suc zero))) = refl
between (suc (suc (suc (suc zero)))) = refl
between (suc (suc (suc (suc (suc e))))) =
    let n : ℕ = suc (suc (suc (suc (suc e)))) in
    let no : (k : ℕ) → k ≤ 4 → false ≡ eqb n k = λ k l. sym (ne_eqb n k (λ q. omega arith)) in
    ap (λ (t : Bool). leb 1 n && t) (lt-leb n 4 (omega arith)) ∙ and-false (leb 1 n)
    ∙ (λ i. no 1 (omega arith) i || no 2 (omega arith) i || no 3 (omega arith) i || no 4 (omega arith) i)

known_least : (e : ℕ) → edition_known e ≡ true → 1 ≤ e
known_least e k = leb-true 1 e (and_left (leb 1 e) (leb e newest) k)

known_most : (e : ℕ) → edition_known e ≡ true → e ≤ newest
known_most e k = leb-true e newest (and_right (leb 1 e) (leb e newest) k)

-- an edition that there is, is 1, 2, 3 or 4
pub by-edition : (P : ℕ → Type 0) → P 1 → P 2 → P 3 → P 4 → (e : ℕ) → edition_known e ≡ true → P e
by-edition P p q r s zero k = absurd (false≢true k)
by-edition P p q r s (suc zero) k = p
by-edition P p q r s (suc (suc zero)) k = q
by-edition P p q r s (suc (suc (suc zero))) k = r
by-edition P p q r s (suc (suc (suc (suc zero)))) k = s
by-edition P p q r s (suc (suc (suc (suc (suc e))))) k = let l = known_most (suc (suc (suc (suc (suc e))))) k in absurd (omega arith)

-- where the table holds
holds : (w e : ℕ) → edition_known e ≡ true → table_holds w e ≡ from_two_to_reader w e
holds zero e k = by-edition (λ e. table_holds 0 e ≡ from_two_to_reader 0 e) refl refl refl refl e k
holds (suc zero) e k = by-edition (λ e. table_holds 1 e ≡ from_two_to_reader 1 e) refl refl refl refl e k
holds (suc (suc zero)) e k = by-edition (λ e. table_holds 2 e ≡ from_two_to_reader 2 e) refl refl refl refl e k
holds (suc (suc (suc zero))) e k = by-edition (λ e. table_holds 3 e ≡ from_two_to_reader 3 e) refl refl refl refl e k
holds (suc (suc (suc (suc zero)))) e k = by-edition (λ e. table_holds 4 e ≡ from_two_to_reader 4 e) refl refl refl refl e k
holds (suc (suc (suc (suc (suc n))))) e k =
    let w : ℕ = suc (suc (suc (suc (suc n)))) in
    let l = known_most e k in
    let no : (k : ℕ) → k ≤ 4 → false ≡ eqb w k = λ k l. sym (ne_eqb w k (λ q. omega arith)) in
    ap (λ (t : Bool). leb 2 w && t) (lt-leb w e (omega arith)) ∙ and-false (leb 2 w)
    ∙ (λ i. no 2 (omega arith) i && (eqb e 2 || eqb e 3 || eqb e 4) || no 3 (omega arith) i && (eqb e 3 || eqb e 4) || no 4 (omega arith) i && eqb e 4)

-- an edition without access is 1
at_one : (w : ℕ) → 1 ≤ w → not (has_access w) ≡ eqb w 1
at_one w h = go (leb 2 w) refl
  where
    go : (t : Bool) → leb 2 w ≡ t → not (leb 2 w) ≡ eqb w 1
    go true p = let l = leb-true 2 w p in ap not p ∙ sym (ne_eqb w 1 (λ z. omega arith))
    go false p = let l = leb-false 2 w p in ap not p ∙ sym (eq-eqb w 1 (omega arith))

-- what is no access is above 2
above : (a : ℕ) → not (access_known a) ≡ ltb 2 a
above a = go (leb a 2) refl
  where
    go : (t : Bool) → leb a 2 ≡ t → not (leb a 2) ≡ ltb 2 a
    go true p = ap not p ∙ sym (le-ltb 2 a (leb-true a 2 p))
    go false p = ap not p ∙ sym (lt-ltb 2 a (leb-false a 2 p))

-- ---- the rows

and_swap : (a b : Bool) → a && b ≡ b && a
and_swap true true = refl
and_swap true false = refl
and_swap false true = refl
and_swap false false = refl

pub row_7 : Row7
row_7 = between

pub row_8 : Row8
unfolding least_edition
row_8 e f k = go (grouped f.layout) (eqb f.layout.range 3) (eqb f.layout.depth 12)
  where
    lacks : ℕ → (g r d : Bool) → Bool
    lacks e g r d = eqb e 1 && (g || r || d) || eqb e 2 && (g || r) || eqb e 3 && g

    go : (g r d : Bool) → ltb e (cond g 4 (cond r 3 (cond d 2 1))) ≡ lacks e g r d
    go true r d = by-edition (λ e. ltb e 4 ≡ lacks e true r d) refl refl refl refl e k
    go false true d = by-edition (λ e. ltb e 3 ≡ lacks e false true d) refl refl refl refl e k
    go false false true = by-edition (λ e. ltb e 2 ≡ lacks e false false true) refl refl refl refl e k
    go false false false = by-edition (λ e. ltb e 1 ≡ lacks e false false false) refl refl refl refl e k

pub row_10 : Row10
unfolding access_unknown
row_10 w a e k = ap₂ ◌&&◌ (holds w e k) (above a) ∙ and_swap (from_two_to_reader w e) (ltb 2 a)

pub row_11 : Row11
unfolding unwritable
row_11 e f k = λ i. row_8 e f k i || at_one e (known_least e k) i && not (eqb f.access closed)

pub row_16 : Row16
row_16 f = odd_of_groups f.layout f.width

pub row_9_of_the_end : Row9OfTheEnd
unfolding end_wrong
row_9_of_the_end b e k h = λ i. at_one (writer_of b) h i && not (eqb (number_at b 24 8) 0) || holds (writer_of b) e k i && not (eqb (number_at b 25 7) 0)

pub access-shown : AccessShown
unfolding access_of
access-shown w a e k h = go (has_access w) (has_access e) ∙ (λ i. cond (at_one w h i || at_one e (known_least e k) i) closed (cond (leb a 2) a closed))
  where
    go : (t u : Bool) → cond (t && u && access_known a) a closed ≡ cond (not t || not u) closed (cond (leb a 2) a closed)
    go true true = refl
    go true false = refl
    go false u = refl

-- ---- the claims on access

pub closed_or_as_it_stands_from_2 : ClosedOrAsItStandsFrom2
closed_or_as_it_stands_from_2 b e f h = ⊎_elim inl (λ p. inr (p.0, leb-true 2 e p.1, leb-true 2 (get_or b 1 0) p.2)) (closed_or_as_it_stands b e f h)

pub closed_to_edition_1 : ClosedToEdition1
closed_to_edition_1 b f h = ⊎_elim (λ p. p) (λ p. absurd (false≢true p.1)) (closed_or_as_it_stands b 1 f h)

pub closed_from_edition_1 : ClosedFromEdition1
closed_from_edition_1 b e f h w = ⊎_elim (λ p. p) (λ p. absurd (false≢true (sym (ap has_access w) ∙ p.2))) (closed_or_as_it_stands b e f h)

-- an edition that has access is 2, 3 or 4
from_two : (e : ℕ) → edition_known e ≡ true → has_access e ≡ true → (e ≡ 2) ⊎ ((e ≡ 3) ⊎ (e ≡ 4))
from_two = by-edition (λ e. has_access e ≡ true → (e ≡ 2) ⊎ ((e ≡ 3) ⊎ (e ≡ 4))) (λ h. absurd (false≢true h)) (λ h. inl refl) (λ h. inr (inl refl)) (λ h. inr (inr refl))

pub closed_or_shown_from_2 : ClosedOrShownFrom2
closed_or_shown_from_2 b e e' g out d s =
    ⊎_elim inl (λ p. inr (from_two e (at e g (shows-valid-facts b e g p.1)).edition p.0, p.1)) (rewrites_never_open b e e' g out d s)

-- ---- edition 4 beside 3

pub reads_as_edition_3 : ReadsAsEdition3
unfolding read_card facts_in access_of access_unknown end_wrong
reads_as_edition_3 b h0 h1 =
    let w = get_or b 1 0 in
    let answer : Bool → Bool → (Result Facts Refusal) = λ t u.
    cond (not (eqb (length b) card_size)) (Err WrongLength)
    (cond (eqb (get_or b 0 0) 0) (Err Outside)
    (cond t (Err LaterEdition)
    (cond (not (front_right b (facts_in b 3))) (Err Outside)
    (cond (odd_width (facts_in b 3)) (Err OddCount)
    (cond (has_access w && u && not (access_known (get_or b 24 0))) (Err UnknownAccess)
    (cond (not (has_access w) && not (eqb (number_at b 24 8) 0) || has_access w && u && not (eqb (number_at b 25 7) 0)) (Err Outside)
    (Ok (facts_in b 3)))))))) in
    ap₂ answer (le-ltb 4 (get_or b 0 0) (omega arith) ∙ sym (le-ltb 3 (get_or b 0 0) h0)) (le-leb w 4 (omega arith) ∙ sym (le-leb w 3 h1))

pub writes_as_edition_3 : WritesAsEdition3
unfolding write_answer unwritable least_edition
writes_as_edition_3 f bytes g =
    let l = f.layout in
    let least : ℕ → Bool → Bool = λ e t. ltb e (cond t 4 (cond (eqb l.range 3) 3 (cond (eqb l.depth 12) 2 1))) in
    let same : ltb 4 (least_edition f) ≡ ltb 3 (least_edition f) = ap (least 4) g ∙ go (eqb l.range 3) (eqb l.depth 12) ∙ sym (ap (least 3) g) in
    ap (λ (t : Bool). cond (not (facts_valid f)) (Err Outside) (cond (odd_width f) (Err OddCount) (cond (t || false) (Err Unwritable) (cond (not (eqb bytes card_size)) (Err WrongLineOrOutput) (Ok tt))))) same
  where
    go : (r d : Bool) → ltb 4 (cond r 3 (cond d 2 1)) ≡ ltb 3 (cond r 3 (cond d 2 1))
    go true d = refl
    go false true = refl
    go false false = refl

pub reads_its_own_as_edition_3 : ReadsItsOwnAsEdition3
unfolding read_card layout_in facts_in front_right least_edition access_of access_unknown end_wrong
reads_its_own_as_edition_3 least others h =
    let b = least ∷ 3 ∷ others in
    let f = facts_in b 3 in
    let answer : Bool → Bool → (Result Facts Refusal) = λ t u.
    cond (not (eqb (length b) card_size)) (Err WrongLength)
    (cond (eqb least 0) (Err Outside)
    (cond t (Err LaterEdition)
    (cond (not (eqb least (least_edition f) && u && facts_valid f && eqb (get_or b 11 0) 0)) (Err Outside)
    (cond (odd_width f) (Err OddCount)
    (cond (not (access_known (get_or b 24 0))) (Err UnknownAccess)
    (cond (not (eqb (number_at b 25 7) 0)) (Err Outside)
    (Ok f))))))) in
    ap₂ answer (le-ltb 4 least (omega arith) ∙ sym (le-ltb 3 least h)) (le-leb least 4 (omega arith) ∙ sym (le-leb least 3 h))

pub writes_bytes_of_edition_3 : WritesBytesOfEdition3
unfolding card_bytes
writes_bytes_of_edition_3 f = refl
