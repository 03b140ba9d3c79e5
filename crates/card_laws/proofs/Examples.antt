-- Worked examples: the bytes of a card, what each edition shows of it, and of bytes changed from it, and what is written. Assumes nothing.
use Prim.Native.Nat.{ℕ}
use mathlib.Core.Path.{◌≡◌, refl}
use mathlib.Core.List.{List, [], ◌∷◌, ◌++◌}
use lib.ListN.{replicate, set, take}
use Rattle.lists.specs.Bytes.{bytes_of}
use Rattle.layout.specs.Layout.{valid_layout}
use Rattle.card_table.specs.declared.facts.Facts.{Facts}
use Rattle.card_table.specs.Facts.{least_edition, facts_valid, with_access}
use Rattle.card_table.specs.Table.{card_bytes}
use Rattle.card_edition.specs.Access.{access_of, access_unknown}
use Rattle.card_reader.specs.Reading.{layout_in, facts_in, front_right, end_wrong, read_card}
use Rattle.card_writer.specs.Writing.{unwritable, write_answer, write_output}
use Rattle.std.specs.Prelude.{Ok, Err}
use Rattle.refusal.specs.declared.Refusal.TheVariants.{LaterEdition, OddCount, Outside, UnknownAccess, UnknownEdition, Unwritable, WrongLength, WrongLineOrOutput}
use Rattle.card.specs.Rewriting.{rewrite_answer, rewrite_output}

-- item 7 of the paper's stack, open, 720 by 576: Y'CbCr, BT.709, narrow, 10 bits in four bytes
abbrev seven : Facts
seven =
    record {
      layout = record { model = 2; primaries = 1; range = 1; depth = 10; bytes = 4; offset0 = 0; offset1 = 10; offset2 = 20; sampling = 0 };
      width = 720;
      height = 576;
      item = 7;
      access = 2;
    }

abbrev seven_bytes : List ℕ
seven_bytes =
    1 ∷ 2 ∷ 2 ∷ 1 ∷ 1 ∷ 10 ∷ 4 ∷ 0 ∷ 0 ∷ 10 ∷ 20 ∷ 0 ∷ 208 ∷ 2 ∷ 64 ∷ 2
    ∷ 7 ∷ (replicate 7 0 ++ (2 ∷ replicate 7 0))

-- the same of 12 bits, in five
abbrev twelve : Facts
twelve =
    record {
      layout = record { model = 2; primaries = 1; range = 1; depth = 12; bytes = 5; offset0 = 0; offset1 = 12; offset2 = 24; sampling = 0 };
      width = 720;
      height = 576;
      item = 7;
      access = 0;
    }

-- early captures in range 3: item 9, by the old JFIF rule, Y'CbCr, BT.601 EBU, 8 bits in three bytes; and item 10, by BT.2100-0, R'G'B', BT.2020, 12 bits in five
abbrev nine : Facts
nine =
    record {
      layout = record { model = 2; primaries = 2; range = 3; depth = 8; bytes = 3; offset0 = 0; offset1 = 8; offset2 = 16; sampling = 0 };
      width = 352;
      height = 288;
      item = 9;
      access = 1;
    }

abbrev ten : Facts
ten =
    record {
      layout = record { model = 1; primaries = 4; range = 3; depth = 12; bytes = 5; offset0 = 0; offset1 = 12; offset2 = 24; sampling = 0 };
      width = 1920;
      height = 1080;
      item = 10;
      access = 0;
    }

-- item 11, from the old tape deck: Y'CbCr, BT.601 EBU, narrow, 8 bits in groups of four bytes
abbrev eleven : Facts
eleven =
    record {
      layout = record { model = 2; primaries = 2; range = 1; depth = 8; bytes = 4; offset0 = 0; offset1 = 0; offset2 = 0; sampling = 1 };
      width = 720;
      height = 576;
      item = 11;
      access = 1;
    }

abbrev eleven_bytes : List ℕ
eleven_bytes =
    4 ∷ 4 ∷ 2 ∷ 2 ∷ 1 ∷ 8 ∷ 4 ∷ 1 ∷ 0 ∷ 0 ∷ 0 ∷ 0 ∷ 208 ∷ 2 ∷ 64 ∷ 2
    ∷ 11 ∷ (replicate 7 0 ++ (1 ∷ replicate 7 0))

-- the same facts with another width, and the bytes of a card with the width 721
abbrev with_width : Facts → ℕ → Facts
with_width f width = record { layout = f.layout; width = width; height = f.height; item = f.item; access = f.access }

abbrev widened : List ℕ → List ℕ
widened b = set b 12 209

-- the bytes, and what each edition shows of them
written : (card_bytes 2 seven ≡ seven_bytes)
    × (read_card seven_bytes 2 ≡ Ok seven)
    × (read_card seven_bytes 1 ≡ Ok (with_access seven 0))
    × (read_card (card_bytes 2 twelve) 1 ≡ Err LaterEdition)
    × (read_card (card_bytes 2 twelve) 2 ≡ Ok twelve)
unfolding card_bytes bytes_of read_card least_edition facts_valid valid_layout access_of layout_in facts_in front_right access_unknown end_wrong
written = (refl, refl, refl, refl, refl)

-- range 3 needs edition 3 at any depth; other cards that edition 3 wrote are as edition 2 writes them, and earlier editions read them
third : (take 2 (card_bytes 3 nine) ≡ 3 ∷ 3 ∷ [])
    × (read_card (card_bytes 3 nine) 1 ≡ Err LaterEdition)
    × (read_card (card_bytes 3 nine) 2 ≡ Err LaterEdition)
    × (read_card (card_bytes 3 nine) 3 ≡ Ok nine)
    × (take 2 (card_bytes 3 ten) ≡ 3 ∷ 3 ∷ [])
    × (read_card (card_bytes 3 ten) 1 ≡ Err LaterEdition)
    × (read_card (card_bytes 3 ten) 2 ≡ Err LaterEdition)
    × (read_card (card_bytes 3 ten) 3 ≡ Ok ten)
    × (card_bytes 3 seven ≡ set seven_bytes 1 3)
    × (read_card (card_bytes 3 seven) 1 ≡ Ok (with_access seven 0))
    × (read_card (card_bytes 3 seven) 2 ≡ Ok seven)
    × (read_card (card_bytes 3 seven) 3 ≡ Ok seven)
    × (read_card seven_bytes 3 ≡ Ok seven)
    × (read_card (card_bytes 3 twelve) 2 ≡ Ok twelve)
unfolding card_bytes bytes_of read_card least_edition facts_valid valid_layout access_of layout_in facts_in front_right access_unknown end_wrong
third = (refl, refl, refl, refl, refl, refl, refl, refl, refl, refl, refl, refl, refl, refl)

-- groups need edition 4, in range 3 too; other cards that edition 4 wrote are as edition 3 writes them, and earlier editions read them
fourth : (card_bytes 4 eleven ≡ eleven_bytes)
    × (read_card eleven_bytes 1 ≡ Err LaterEdition)
    × (read_card eleven_bytes 2 ≡ Err LaterEdition)
    × (read_card eleven_bytes 3 ≡ Err LaterEdition)
    × (read_card eleven_bytes 4 ≡ Ok eleven)
    × (read_card (set eleven_bytes 4 3) 3 ≡ Err LaterEdition)
    × (read_card (set (set eleven_bytes 4 3) 0 3) 3 ≡ Err Outside)
    × (card_bytes 4 seven ≡ set seven_bytes 1 4)
    × (read_card (card_bytes 4 seven) 1 ≡ Ok (with_access seven 0))
    × (read_card (card_bytes 4 seven) 3 ≡ Ok seven)
    × (read_card (card_bytes 4 seven) 4 ≡ Ok seven)
    × (read_card seven_bytes 4 ≡ Ok seven)
    × (card_bytes 4 nine ≡ set (card_bytes 3 nine) 1 4)
    × (read_card (card_bytes 4 nine) 3 ≡ Ok nine)
unfolding card_bytes bytes_of read_card least_edition facts_valid valid_layout access_of layout_in facts_in front_right access_unknown end_wrong
fourth = (refl, refl, refl, refl, refl, refl, refl, refl, refl, refl, refl, refl, refl, refl)

-- an odd width of groups is 16, after the 9 for bytes 1 to 23 and before 10; points of their own may have it
odd : (read_card (widened eleven_bytes) 4 ≡ Err OddCount)
    × (read_card (widened eleven_bytes) 3 ≡ Err LaterEdition)
    × (read_card (set (widened eleven_bytes) 11 1) 4 ≡ Err Outside)
    × (read_card (set (widened eleven_bytes) 24 3) 4 ≡ Err OddCount)
    × (read_card (set (widened eleven_bytes) 31 1) 4 ≡ Err OddCount)
    × (read_card (widened seven_bytes) 2 ≡ Ok (with_width seven 721))
    × (read_card (widened (card_bytes 4 seven)) 4 ≡ Ok (with_width seven 721))
unfolding card_bytes bytes_of read_card least_edition facts_valid valid_layout access_of layout_in facts_in front_right access_unknown end_wrong
odd = (refl, refl, refl, refl, refl, refl, refl)

-- written later than it is read: an access that nobody knows is closed, one that is known stands, and what follows is not looked at
later : (read_card (set (set seven_bytes 1 3) 24 9) 2 ≡ Ok (with_access seven 0))
    × (read_card (set (set seven_bytes 1 3) 31 9) 2 ≡ Ok seven)
    × (read_card (set (set seven_bytes 24 9) 31 9) 1 ≡ Ok (with_access seven 0))
    × (read_card (set (set seven_bytes 1 4) 24 9) 3 ≡ Ok (with_access seven 0))
    × (read_card (set (set seven_bytes 1 4) 31 9) 3 ≡ Ok seven)
    × (read_card (set (set eleven_bytes 1 5) 24 9) 4 ≡ Ok (with_access eleven 0))
    × (read_card (set (set eleven_bytes 1 5) 31 9) 4 ≡ Ok eleven)
unfolding read_card least_edition facts_valid valid_layout access_of layout_in facts_in front_right access_unknown end_wrong
later = (refl, refl, refl, refl, refl, refl, refl)

-- each row of reading, in its order; byte 0 too high or low; 10 and 9 for the end of a card that is not later than its reader; and what no group is
refusals : (read_card (replicate 31 0) 5 ≡ Err WrongLength)
    × (read_card (replicate 32 0) 5 ≡ Err UnknownEdition)
    × (read_card (replicate 32 0) 2 ≡ Err Outside)
    × (read_card (set seven_bytes 0 2) 1 ≡ Err LaterEdition)
    × (read_card (set seven_bytes 0 2) 2 ≡ Err Outside)
    × (read_card (set (set seven_bytes 7 1) 24 3) 2 ≡ Err Outside)
    × (read_card (set (set seven_bytes 24 3) 25 1) 2 ≡ Err UnknownAccess)
    × (read_card (set seven_bytes 25 1) 2 ≡ Err Outside)
    × (read_card (set seven_bytes 1 1) 2 ≡ Err Outside)
    × (read_card (set (card_bytes 3 twelve) 0 3) 3 ≡ Err Outside)
    × (read_card (set (card_bytes 3 nine) 0 2) 3 ≡ Err Outside)
    × (read_card (set seven_bytes 24 3) 3 ≡ Err UnknownAccess)
    × (read_card (set (set seven_bytes 1 3) 24 3) 3 ≡ Err UnknownAccess)
    × (read_card (set (set seven_bytes 1 3) 31 9) 3 ≡ Err Outside)
    × (read_card (set eleven_bytes 24 3) 4 ≡ Err UnknownAccess)
    × (read_card (set eleven_bytes 31 1) 4 ≡ Err Outside)
    × (read_card (set eleven_bytes 7 0) 4 ≡ Err Outside)
    × (read_card (set eleven_bytes 7 2) 4 ≡ Err Outside)
    × (read_card (set eleven_bytes 2 1) 4 ≡ Err Outside)
    × (read_card (set eleven_bytes 5 10) 4 ≡ Err Outside)
    × (read_card (set eleven_bytes 6 3) 4 ≡ Err Outside)
    × (read_card (set eleven_bytes 9 8) 4 ≡ Err Outside)
unfolding card_bytes bytes_of read_card least_edition facts_valid valid_layout access_of layout_in facts_in front_right access_unknown end_wrong
refusals = (refl, refl, refl, refl, refl, refl, refl, refl, refl, refl, refl, refl, refl, refl, refl, refl, refl, refl, refl, refl, refl, refl)

-- each row of writing, and a rewrite at 1, which closes
written_again : (write_answer 5 (with_access seven 3) 0 ≡ Err UnknownEdition)
    × (write_answer 1 (with_access seven 3) 0 ≡ Err Outside)
    × (write_answer 1 seven 0 ≡ Err Unwritable)
    × (write_answer 1 twelve 0 ≡ Err Unwritable)
    × (write_answer 2 nine 0 ≡ Err Unwritable)
    × (write_answer 2 ten 0 ≡ Err Unwritable)
    × (write_answer 3 nine 32 ≡ (Ok tt))
    × (write_answer 3 eleven 0 ≡ Err Unwritable)
    × (write_answer 4 eleven 32 ≡ (Ok tt))
    × (write_answer 3 (with_access (with_width eleven 721) 3) 0 ≡ Err Outside)
    × (write_answer 3 (with_width eleven 721) 0 ≡ Err OddCount)
    × (write_answer 4 (with_width eleven 721) 0 ≡ Err OddCount)
    × (write_answer 4 (with_width seven 721) 32 ≡ (Ok tt))
    × (write_answer 2 seven 33 ≡ Err WrongLineOrOutput)
    × (write_answer 2 seven 32 ≡ (Ok tt))
    × (write_output 2 seven (replicate 31 9) ≡ replicate 31 9)
    × (write_output 2 seven (replicate 32 9) ≡ seven_bytes)
    × (rewrite_answer seven_bytes 1 31 ≡ Err WrongLineOrOutput)
    × (rewrite_output seven_bytes 1 (replicate 32 9) ≡ set (set seven_bytes 1 1) 24 0)
    × (rewrite_output seven_bytes 2 (replicate 32 9) ≡ seven_bytes)
    × (rewrite_output seven_bytes 3 (replicate 32 9) ≡ set seven_bytes 1 3)
    × (rewrite_answer eleven_bytes 3 32 ≡ Err LaterEdition)
    × (rewrite_answer (widened eleven_bytes) 4 31 ≡ Err OddCount)
    × (rewrite_output eleven_bytes 4 (replicate 32 9) ≡ eleven_bytes)
unfolding card_bytes bytes_of read_card least_edition facts_valid valid_layout access_of layout_in facts_in front_right access_unknown end_wrong unwritable write_answer write_output rewrite_answer rewrite_output
written_again = (refl, refl, refl, refl, refl, refl, refl, refl, refl, refl, refl, refl, refl, refl, refl, refl, refl, refl, refl, refl, refl, refl, refl, refl)
