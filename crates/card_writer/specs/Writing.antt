-- Document 01, "Card" and "Numbers on the refusal slip", with request A6: what writing a card answers and leaves in the output. Assumes nothing.
use Rattle.std.specs.Prelude.{ℕ, Bool, not, cond, ◌&&◌, ◌||◌, List, eqb, ltb, length, Result, Ok, Err, is_ok, ⊤}
use Rattle.lists.specs.Lists.{new_or_kept}
use Rattle.card_table.specs.declared.facts.Facts.{Facts}
use Rattle.card_edition.specs.Edition.{edition_known, has_access}
use Rattle.card_table.specs.Facts.{least_edition, facts_valid, odd_width}
use Rattle.card_edition.specs.Access.{closed}
use Rattle.refusal.specs.declared.Refusal.TheVariants.{OddCount, Outside, UnknownEdition, Unwritable, WrongLineOrOutput}
use Rattle.refusal.specs.declared.Refusal.{Refusal}
use Rattle.card_table.specs.Table.{card_size, card_bytes}

-- the edition lacks the layout (editions 1 to 3: groups; 1 and 2: range 3; 1: 12 bits) or the access (edition 1: any but closed)
unfoldable pub unwritable : ℕ → Facts → Bool
unwritable e f = ltb e (least_edition f) || not (has_access e) && not (eqb f.access closed)

-- facts are valid at an edition if no row of the writer's order but 13 applies
unfoldable pub valid_at : ℕ → Facts → Bool
valid_at e f = edition_known e && facts_valid f && not (odd_width f) && not (unwritable e f)

-- writing into so many bytes: 7, 9, 16 (A6), 11, 13
unfoldable pub write_answer : ℕ → Facts → ℕ → Result ⊤ Refusal
write_answer e f bytes =
    cond (not (edition_known e)) (Err UnknownEdition)
    (cond (not (facts_valid f)) (Err Outside)
    (cond (odd_width f) (Err OddCount)
    (cond (unwritable e f) (Err Unwritable)
    (cond (not (eqb bytes card_size)) (Err WrongLineOrOutput)
    (Ok tt)))))

-- the output after writing
unfoldable pub write_output : ℕ → Facts → List ℕ → List ℕ
write_output e f before = new_or_kept (is_ok (write_answer e f (length before))) (card_bytes e f) before
