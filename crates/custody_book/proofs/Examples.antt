-- Worked examples: histories of an open card, of one of 12 bits, of one of range 3 and of one of groups, as the book has them and as the calls have them. Assumes nothing.
use Prim.Native.Nat.{ℕ}
use mathlib.Core.Path.{◌≡◌, refl}
use mathlib.Core.List.{List, [], ◌∷◌}
use lib.Ieee.{nan}
use lib.ListN.{replicate}
use Rattle.lists.specs.Bytes.{bytes_of}
use Rattle.layout.specs.Layout.{valid_points, valid_groups, valid_layout}
use Rattle.card_table.specs.declared.facts.Facts.{Facts}
use Rattle.card_table.specs.Facts.{least_edition, facts_valid, with_access}
use Rattle.card_table.specs.Table.{card_bytes}
use Rattle.card_edition.specs.Access.{access_of, access_unknown}
use Rattle.card_reader.specs.Reading.{layout_in, facts_in, front_right, end_wrong, read_card}
use Rattle.card_writer.specs.Writing.{unwritable, write_answer, write_output}
use Rattle.card.specs.Rewriting.{rewrite_answer, rewrite_output}
use Rattle.custody_book.specs.History.{Rewrite, Asked, Trace, Trace.ended, Trace.rewritten}
use Rattle.custody_book.specs.Book.{book}
use Rattle.custody_book.specs.Calls.{calls}
use Rattle.std.specs.Prelude.{Result, Ok, Err, ⊤}
use Rattle.refusal.specs.declared.Refusal.{Refusal}
use Rattle.refusal.specs.declared.Refusal.TheVariants.{LaterEdition, UnknownEdition, WrongLineOrOutput}
use Rattle.custody_book.specs.Meaning.{reading_of, decoding_of}

-- item 7, open, 720 by 576: Y'CbCr, BT.709, narrow, 10 bits in four bytes; item 8, of 12 bits in five; and item 9, an early capture in range 3, 8 bits in three; and item 10, of a tape deck's groups (A6)
abbrev seven : Facts
seven =
    record {
      layout = record { model = 2; primaries = 1; range = 1; depth = 10; bytes = 4; offset0 = 0; offset1 = 10; offset2 = 20; sampling = 0 };
      width = 720;
      height = 576;
      item = 7;
      access = 2;
    }

abbrev eight : Facts
eight =
    record {
      layout = record { model = 2; primaries = 1; range = 1; depth = 12; bytes = 5; offset0 = 0; offset1 = 12; offset2 = 24; sampling = 0 };
      width = 720;
      height = 576;
      item = 8;
      access = 1;
    }

abbrev nine : Facts
nine =
    record {
      layout = record { model = 2; primaries = 2; range = 3; depth = 8; bytes = 3; offset0 = 0; offset1 = 8; offset2 = 16; sampling = 0 };
      width = 352;
      height = 288;
      item = 9;
      access = 1;
    }

abbrev ten : Facts
ten =
    record {
      layout = record { model = 2; primaries = 2; range = 1; depth = 8; bytes = 4; offset0 = 0; offset1 = 0; offset2 = 0; sampling = 1 };
      width = 720;
      height = 576;
      item = 10;
      access = 2;
    }

-- a rewrite at an edition into so many bytes
abbrev into : ℕ → ℕ → Rewrite
into e bytes = record { edition = e; output = replicate bytes 9 }

-- written at the first edition, rewritten so, read at the last; eight bytes are packed, and there is no place for floats
abbrev asking : ℕ → Facts → List Rewrite → ℕ → Asked
asking first f rs last = record { first = first; facts = f; rewrites = rs; last = last; packed = replicate 8 0; values = [] }

abbrev answers : Trace → List (Result ⊤ Refusal)
answers (ended reading decoding values) = []
answers (rewritten answer output card s) = answer ∷ answers s

-- refused rewrites leave it open, and so do those at 2, 3 and 4; an accepted one at 1 closes it for good
in_the_book : let refused = (book (asking 2 seven (into 5 32 ∷ into 1 31 ∷ into 2 32 ∷ []) 2)).trace in
    let through-3 = (book (asking 2 seven (into 3 32 ∷ into 2 32 ∷ into 4 32 ∷ []) 3)).trace in
    let through-1 = (book (asking 2 seven (into 2 32 ∷ into 1 32 ∷ into 3 32 ∷ []) 3)).trace in
    let twelve = (book (asking 2 eight (into 1 32 ∷ into 1 0 ∷ into 2 32 ∷ []) 1)).trace in
    let early = (book (asking 3 nine (into 1 32 ∷ into 2 32 ∷ into 3 32 ∷ []) 3)).trace in
    let deck = (book (asking 4 ten (into 1 32 ∷ into 3 32 ∷ into 4 32 ∷ []) 4)).trace in
    let line = (book (record { first = 4; facts = ten; rewrites = []; last = 4; packed = replicate 8 128; values = replicate 12 nan })).trace in
    (answers refused ≡ Err UnknownEdition ∷ Err WrongLineOrOutput ∷ (Ok tt) ∷ [])
    × (reading_of refused ≡ Ok seven)
    × (decoding_of refused ≡ Err WrongLineOrOutput)
    × (answers through-3 ≡ (Ok tt) ∷ (Ok tt) ∷ (Ok tt) ∷ [])
    × (reading_of through-3 ≡ Ok seven)
    × (answers through-1 ≡ (Ok tt) ∷ (Ok tt) ∷ (Ok tt) ∷ [])
    × (reading_of through-1 ≡ Ok (with_access seven 0))
    × (answers twelve ≡ Err LaterEdition ∷ Err LaterEdition ∷ (Ok tt) ∷ [])
    × (reading_of twelve ≡ Err LaterEdition)
    × (answers early ≡ Err LaterEdition ∷ Err LaterEdition ∷ (Ok tt) ∷ [])
    × (reading_of early ≡ Ok nine)
    × (reading_of (book (asking 3 nine [] 2)).trace ≡ Err LaterEdition)
    × (answers deck ≡ Err LaterEdition ∷ Err LaterEdition ∷ (Ok tt) ∷ [])
    × (reading_of deck ≡ Ok ten)
    × (decoding_of line ≡ Ok 4)
    × (reading_of (book (asking 4 ten [] 3)).trace ≡ Err LaterEdition)
    × (reading_of (book (asking 2 seven [] 1)).trace ≡ Ok (with_access seven 0))
    × (reading_of (book (asking 2 seven [] 0)).trace ≡ Err UnknownEdition)
unfolding book least_edition
in_the_book = (refl, refl, refl, refl, refl, refl, refl, refl, refl, refl, refl, refl, refl, refl, refl, refl, refl, refl)

-- and the calls do the same
by-calls : let through-1 = calls (asking 2 seven (into 2 32 ∷ into 5 32 ∷ into 1 32 ∷ into 3 32 ∷ []) 2) (replicate 32 9) in
    let early = calls (asking 3 nine (into 2 32 ∷ into 3 32 ∷ []) 3) (replicate 32 9) in
    let deck = calls (asking 4 ten (into 3 32 ∷ into 4 32 ∷ []) 4) (replicate 32 9) in
    (through-1.answer ≡ (Ok tt))
    × (answers through-1.trace ≡ (Ok tt) ∷ Err UnknownEdition ∷ (Ok tt) ∷ (Ok tt) ∷ [])
    × (reading_of through-1.trace ≡ Ok (with_access seven 0))
    × (answers early.trace ≡ Err LaterEdition ∷ (Ok tt) ∷ [])
    × (reading_of early.trace ≡ Ok nine)
    × (answers deck.trace ≡ Err LaterEdition ∷ (Ok tt) ∷ [])
    × (reading_of deck.trace ≡ Ok ten)
unfolding calls card_bytes bytes_of read_card least_edition facts_valid valid_points valid_groups valid_layout access_of layout_in facts_in front_right access_unknown end_wrong unwritable write_answer write_output rewrite_answer rewrite_output
by-calls = (refl, refl, refl, refl, refl, refl, refl)
