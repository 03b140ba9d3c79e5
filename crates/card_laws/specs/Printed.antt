-- What is printed of editions 1 to 4 in document 01, "Card" and "Numbers on the refusal slip", with requests A1 and A6, beside the definitions and the claims, which are stated for any editions. proofs/Printed.antt proves each. Assumes nothing.
use Rattle.std.specs.Prelude.{ℕ, ◌%◌, ◌≤◌, Bool, true, false, not, cond, ◌&&◌, ◌||◌, ◌≡◌, ◌⊎◌, List, ◌∷◌, eqb, leb, ltb, length, get_or, set, Ok}
use Rattle.lists.specs.Bytes.{number_at}
use Rattle.layout.specs.declared.Layout.{Layout}
use Rattle.card_table.specs.declared.facts.Facts.{Facts}
use Rattle.card_edition.specs.Edition.{edition_known}
use Rattle.card_table.specs.Facts.{least_edition, odd_width}
use Rattle.card_edition.specs.Access.{closed, access_of, access_unknown}
use Rattle.card_table.specs.Table.{card_bytes}
use Rattle.card_reader.specs.Reading.{writer_of, end_wrong, read_card}
use Rattle.card_writer.specs.Writing.{unwritable, write_answer}
use Rattle.card.specs.Rewriting.{rewrite_answer, rewrite_output}

-- ---- the rows

-- row 7: edition asked is not 1 to 4
abbrev pub Row7 : Type 0
Row7 = (e : ℕ) → edition_known e ≡ eqb e 1 || eqb e 2 || eqb e 3 || eqb e 4

-- the edition lacks the layout: edition 1 has none of groups, range 3 and 12 bits, edition 2 has neither groups nor range 3, edition 3 has no groups
abbrev pub lacks_layout : ℕ → Layout → Bool
lacks_layout e l =
    eqb e 1 && (eqb l.sampling 1 || eqb l.range 3 || eqb l.depth 12)
    || eqb e 2 && (eqb l.sampling 1 || eqb l.range 3)
    || eqb e 3 && eqb l.sampling 1

-- row 8: byte 0, which the table gives, is above the edition asked exactly where the edition lacks the layout
abbrev pub Row8 : Type 0
Row8 = (e : ℕ) (f : Facts) → edition_known e ≡ true → ltb e (least_edition f) ≡ lacks_layout e f.layout

-- the writer is at 2 or later and not later than the reader: written at 2 and read at 2, 3 or 4, written at 3 and read at 3 or 4, or written at 4 and read at 4
abbrev pub from_two_to_reader : ℕ → ℕ → Bool
from_two_to_reader writer e = eqb writer 2 && (eqb e 2 || eqb e 3 || eqb e 4) || eqb writer 3 && (eqb e 3 || eqb e 4) || eqb writer 4 && eqb e 4

-- row 10: access above 2 there
abbrev pub Row10 : Type 0
Row10 = (writer access e : ℕ) → edition_known e ≡ true → access_unknown writer access e ≡ ltb 2 access && from_two_to_reader writer e

-- row 11: the edition lacks the layout, or the access, which is edition 1 asked to write any but closed
abbrev pub Row11 : Type 0
Row11 = (e : ℕ) (f : Facts) → edition_known e ≡ true → unwritable e f ≡ lacks_layout e f.layout || eqb e 1 && not (eqb f.access closed)

-- row 16: an odd width, of groups
abbrev pub Row16 : Type 0
Row16 = (f : Facts) → odd_width f ≡ eqb f.layout.sampling 1 && eqb (f.width % 2) 1

-- row 9 for bytes 24 to 31, which are looked at only where 1 ≤ byte 0 ≤ byte 1: written at 1, all must be zero; written at 2 or later and not later than read, all but the first
abbrev pub Row9OfTheEnd : Type 0
Row9OfTheEnd =
    (b : List ℕ) (e : ℕ) → edition_known e ≡ true → 1 ≤ writer_of b
    → end_wrong b e ≡ eqb (writer_of b) 1 && not (eqb (number_at b 24 8) 0) || from_two_to_reader (writer_of b) e && not (eqb (number_at b 25 7) 0)

-- the access that is shown, likewise: closed where the card was written at 1 or is read at 1; else 0, 1, 2 as they stand, and any other number closed
abbrev pub AccessShown : Type 0
AccessShown =
    (writer access e : ℕ) → edition_known e ≡ true → 1 ≤ writer
    → access_of writer access e ≡ cond (eqb writer 1 || eqb e 1) closed (cond (leb access 2) access closed)

-- ---- the claims on access, in numbers

-- it is closed, or byte 24 as it stands; that only where the reader and the writer are at 2 or later
abbrev pub ClosedOrAsItStandsFrom2 : Type 0
ClosedOrAsItStandsFrom2 =
    (b : List ℕ) (e : ℕ) (f : Facts) → read_card b e ≡ Ok f → (f.access ≡ closed) ⊎ ((f.access ≡ get_or b 24 0) × (2 ≤ e) × (2 ≤ get_or b 1 0))

-- it is closed where the reader is at 1
abbrev pub ClosedToEdition1 : Type 0
ClosedToEdition1 = (b : List ℕ) (f : Facts) → read_card b 1 ≡ Ok f → f.access ≡ closed

-- and where the writer was
abbrev pub ClosedFromEdition1 : Type 0
ClosedFromEdition1 = (b : List ℕ) (e : ℕ) (f : Facts) → read_card b e ≡ Ok f → get_or b 1 0 ≡ 1 → f.access ≡ closed

-- a rewrite never opens: what any edition shows of its result is closed, or was shown before at the rewrite's own edition, which is 2, 3 or 4
abbrev pub ClosedOrShownFrom2 : Type 0
ClosedOrShownFrom2 =
    (b : List ℕ) (e e' : ℕ) (g : Facts) (out : List ℕ) → rewrite_answer b e (length out) ≡ (Ok tt)
    → read_card (rewrite_output b e out) e' ≡ Ok g → (g.access ≡ closed) ⊎ (((e ≡ 2) ⊎ ((e ≡ 3) ⊎ (e ≡ 4))) × (read_card b e ≡ Ok g))

-- ---- edition 4 is otherwise as 3 (A6)

-- it reads cards that were written before it as 3 does
abbrev pub ReadsAsEdition3 : Type 0
ReadsAsEdition3 = (b : List ℕ) → get_or b 0 0 ≤ 3 → get_or b 1 0 ≤ 3 → read_card b 4 ≡ read_card b 3

-- and its own, but those of groups, as 3 reads 3's
abbrev pub ReadsItsOwnAsEdition3 : Type 0
ReadsItsOwnAsEdition3 = (least : ℕ) (others : List ℕ) → least ≤ 3 → read_card (least ∷ 4 ∷ others) 4 ≡ read_card (least ∷ 3 ∷ others) 3

-- it writes what is not of groups where 3 does
abbrev pub WritesAsEdition3 : Type 0
WritesAsEdition3 = (f : Facts) (bytes : ℕ) → eqb f.layout.sampling 1 ≡ false → write_answer 4 f bytes ≡ write_answer 3 f bytes

-- and the same bytes but for its number
abbrev pub WritesBytesOfEdition3 : Type 0
WritesBytesOfEdition3 = (f : Facts) → card_bytes 4 f ≡ set (card_bytes 3 f) 1 4
