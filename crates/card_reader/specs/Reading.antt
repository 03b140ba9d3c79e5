-- Document 01, "Card" and "Numbers on the refusal slip", with request A6: what reading a card at an edition answers. Assumes nothing.
use Rattle.std.specs.Prelude.{ℕ, Bool, false, not, cond, ◌&&◌, ◌||◌, List, eqb, leb, ltb, length, get_or, Result, Ok, Err}
use Rattle.lists.specs.Bytes.{number_at}
use Rattle.layout.specs.declared.Layout.{Layout}
use Rattle.card_table.specs.declared.facts.Facts.{Facts}
use Rattle.card_edition.specs.Edition.{edition_known, has_access}
use Rattle.card_table.specs.Facts.{least_edition, facts_valid, odd_width}
use Rattle.card_edition.specs.Access.{access_of, table_holds, access_unknown}
use Rattle.refusal.specs.declared.Refusal.TheVariants.{LaterEdition, OddCount, Outside, UnknownAccess, UnknownEdition, WrongLength}
use Rattle.refusal.specs.declared.Refusal.{Refusal}
use Rattle.card_table.specs.Table.{card_size}

-- ---- what the bytes hold

-- the edition that wrote the card
abbrev pub writer_of : List ℕ → ℕ
writer_of b = get_or b 1 0

-- the layout
unfoldable pub layout_in : List ℕ → Layout
layout_in b =
    record {
      model = get_or b 2 0;
      primaries = get_or b 3 0;
      range = get_or b 4 0;
      depth = get_or b 5 0;
      bytes = get_or b 6 0;
      offset0 = get_or b 8 0;
      offset1 = get_or b 9 0;
      offset2 = get_or b 10 0;
      sampling = get_or b 7 0;
    }

-- all facts, as an edition shows them
unfoldable pub facts_in : List ℕ → ℕ → Facts
facts_in b e =
    record {
      layout = layout_in b;
      width = number_at b 12 2;
      height = number_at b 14 2;
      item = number_at b 16 8;
      access = access_of (writer_of b) (get_or b 24 0) e;
    }

-- ---- which bytes are right

-- bytes 0 to 23, which every edition reads, are as the table has them, but for an odd width, f being the facts that they hold (the access in f is always one of the three)
unfoldable pub front_right : List ℕ → Facts → Bool
front_right b f =
    eqb (get_or b 0 0) (least_edition f)
    && leb (get_or b 0 0) (writer_of b)
    && facts_valid f
    && eqb (get_or b 11 0) 0

-- row 9 for bytes 24 to 31: not all of those are zero that must be. Written at 1, that is all of them, whoever reads; where the table holds, bytes 25 to 31; of a card written later than it is read, none
unfoldable pub end_wrong : List ℕ → ℕ → Bool
end_wrong b e =
    not (has_access (writer_of b)) && not (eqb (number_at b 24 8) 0)
    || table_holds (writer_of b) e && not (eqb (number_at b 25 7) 0)

-- ---- the answer

-- in the order 1, 7, 9 if byte 0 is 0, 8, 9 for bytes 1 to 23 and byte 0 too high or low for the layout, 16 (A6), 10, 9 for bytes 24 to 31
unfoldable pub read_card : List ℕ → ℕ → Result Facts Refusal
read_card b e =
    cond (not (eqb (length b) card_size)) (Err WrongLength)
    (cond (not (edition_known e)) (Err UnknownEdition)
    (cond (eqb (get_or b 0 0) 0) (Err Outside)
    (cond (ltb e (get_or b 0 0)) (Err LaterEdition)
    (cond (not (front_right b (facts_in b e))) (Err Outside)
    (cond (odd_width (facts_in b e)) (Err OddCount)
    (cond (access_unknown (writer_of b) (get_or b 24 0) e) (Err UnknownAccess)
    (cond (end_wrong b e) (Err Outside)
    (Ok (facts_in b e)))))))))

-- a reading shows the item; one that is refused shows none
abbrev pub shows_item : ℕ → Result Facts Refusal → Bool
shows_item item (Ok f) = eqb f.item item
shows_item item (Err k) = false
