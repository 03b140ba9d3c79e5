-- How long a line can be, and which line it is. Assumes nothing.
use mathlib.Core.Path.{◌≡◌, refl, sym, ap, subst}
use mathlib.Core.Bool.{Bool, true, false, cond, ◌&&◌}
use mathlib.Core.List.{List}
use Prim.Native.Nat.{ℕ, ◌%◌, ◌^◌, ◌≤◌}
use native.Mathlib.Omega.{arith}
use borrow.Author.Tests.{leb-true, ltb-true}
use lib.Dec.{eqb, leb, ltb, lit≤, lit<}
use lib.ListN.{length, length-append, get_or}
use Rattle.lists.proofs.Tests.{and_left, and_right, and3, pass, stop}
use Rattle.layout.specs.Layout.{valid_layout}
use Rattle.card_table.specs.declared.facts.Facts.{Facts}
use Rattle.card_table.specs.Facts.{largest_side, side_known, facts_valid, least_edition}
use Rattle.card_edition.specs.Access.{access_known}
use Rattle.card_edition.specs.Edition.{newest}
use Rattle.card_table.specs.Table.{card_size}
use Rattle.card_reader.specs.Reading.{writer_of, facts_in, front_right, read_card}
use Rattle.card_reader.proofs.Shown.{accepted}
use Rattle.stack.specs.Stack.{cards_in, whole_stack}
use Rattle.text_writer.specs.Decimal.{decimal}
use Rattle.listing.specs.Words.{closed_word, community_word, open_word, cards_word, stack_refused, card_refused, access_word}
use Rattle.listing.specs.List.{item_text, size_text, number_line, reading_line, card_line, first_line}
use Rattle.text_writer.proofs.Decimal.{length-decimal}
use Rattle.std.specs.Prelude.{Result, Ok, Err}
use Rattle.refusal.specs.declared.Refusal.{Refusal}
use Rattle.refusal.specs.Refusal.{number_of}
use Rattle.refusal.proofs.Small.{number_small}
use Rattle.listing.proofs.Lines.{length_item, length_size, length_line}

-- ---- facts

length_word : (access : ℕ) → length (access_word access) ≤ 9
unfolding access_word
length_word access = by (eqb access 2) (eqb access 1)
  where
    by : (o c : Bool) → length (cond o open_word (cond c community_word closed_word)) ≤ 9
    by true c = lit≤ tt
    by false true = lit≤ tt
    by false false = lit≤ tt

side_most : (side : ℕ) → side_known side ≡ true → length (decimal side) ≤ 4
side_most side h = length-decimal 3 side (omega (arith, leb-true side largest_side (and_right (leb 1 side) (leb side largest_side) h)))

facts_longest : (f : Facts) → facts_valid f ≡ true → length (reading_line (Ok f)) ≤ 41
unfolding facts_valid
facts_longest f v =
    let l = valid_layout f.layout in
    let w = side_known f.width in
    let h = side_known f.height in
    let i = leb 1 f.item in
    let t = ltb f.item (2 ^ 64) in
    let front = and_left (l && w && h && i && t) (access_known f.access) v in
    let sides = and3 l w h (and_left (l && w && h) i (and_left (l && w && h && i) t front)) in
    let item : length (decimal f.item) ≤ 20 = length-decimal 19 f.item (omega (arith, ltb-true f.item (2 ^ 64) (and_right (l && w && h && i) t front))) in
    omega (
      arith,
      item,
      side_most f.width sides.1,
      side_most f.height sides.2,
      length_word f.access,
      length-append (item_text f.item f.access) (size_text f.width f.height),
      length_item f.item f.access,
      length_size f.width f.height,
    )

front-valid : (b : List ℕ) (f : Facts) → front_right b f ≡ true → facts_valid f ≡ true
unfolding front_right
front-valid b f h =
    let a = eqb (get_or b 0 0) (least_edition f) && leb (get_or b 0 0) (writer_of b) in
    and_right a (facts_valid f) (and_left (a && facts_valid f) (eqb (get_or b 11 0) 0) h)

-- ---- a card's line

pub shown_line : (b : List ℕ) (f : Facts) → read_card b newest ≡ Ok f → reading_line (Ok f) ≡ card_line b
unfolding card_line
shown_line b f h = ap reading_line (sym h)

pub refused_line : (b : List ℕ) (k : Refusal) → read_card b newest ≡ Err k → number_line card_refused (number_of k) ≡ card_line b
unfolding card_line
refused_line b k h = ap reading_line (sym h)

-- no row's number has more than two digits
number_short : (k : Refusal) → length (decimal (number_of k)) ≤ 2
number_short k = length-decimal 1 (number_of k) (omega (arith, number_small k))

longest : (b : List ℕ) (r : Result Facts Refusal) → read_card b newest ≡ r → length (reading_line r) ≤ 41
longest b (Ok f) h =
    let a = accepted b newest f h in
    facts_longest f (subst (λ (g : Facts). facts_valid g ≡ true) a.is (front-valid b (facts_in b newest) a.front))
longest b (Err k) h = omega (arith, length_line card_refused (number_of k), number_short k)

-- no bytes have a longer line
pub card_longest : (b : List ℕ) → length (card_line b) ≤ 41
unfolding card_line
card_longest b = longest b (read_card b newest) refl

-- ---- the first line

pub whole_line : (bytes : ℕ) → whole_stack bytes ≡ true → number_line cards_word (cards_in bytes) ≡ first_line bytes
unfolding first_line
whole_line bytes e = sym (stop _ e)

pub not_whole_line : (bytes : ℕ) → whole_stack bytes ≡ false → number_line stack_refused 1 ≡ first_line bytes
unfolding first_line
not_whole_line bytes e = sym (pass _ e refl)

pub first_longest : (bytes : ℕ) → length (first_line bytes) ≤ 16
first_longest bytes = by (whole_stack bytes) refl
  where
    by : (t : Bool) → whole_stack bytes ≡ t → length (first_line bytes) ≤ 16
    by true e =
        let h : cards_in bytes ≤ 1024 = leb-true (cards_in bytes) 1024 (and_right (eqb (bytes % card_size) 0) (leb (cards_in bytes) 1024) e) in
        omega (arith, ap length (whole_line bytes e), length_line cards_word (cards_in bytes), length-decimal 3 (cards_in bytes) (omega arith))
    by false e = omega (arith, ap length (not_whole_line bytes e), length_line stack_refused 1, length-decimal 0 1 (lit< tt))
