-- Document 01, "Numbers on the refusal slip": finding an item in a stack at an edition. Assumes nothing.
use Rattle.std.specs.Prelude.{ℕ, zero, suc, ◌+◌, ◌*◌, Bool, not, cond, List, [], length, Result, Ok, Err}
use Rattle.card_edition.specs.Edition.{edition_known}
use Rattle.card_table.specs.Table.{card_size}
use Rattle.card_reader.specs.Reading.{read_card, shows_item}
use Rattle.refusal.specs.declared.Refusal.TheVariants.{NoItem, UnknownEdition, WrongLength}
use Rattle.refusal.specs.declared.Refusal.{Refusal}
use Rattle.stack.specs.Stack.{cards_in, whole_stack, card_at}

-- the edition reads card k, and it has the number
unfoldable pub has_item : List ℕ → ℕ → ℕ → ℕ → Bool
has_item s e item k = shows_item item (read_card (card_at s k) e)

-- the first index that passes the test, of n from i on; 15 where none does
unfoldable pub first : (ℕ → Bool) → ℕ → ℕ → Result ℕ Refusal
first p i zero = Err NoItem
first p i (suc n) = cond (p i) (Ok i) (first p (i + 1) n)

-- the index of the first card that the edition reads and that has the number: 1, 7, 15
unfoldable pub located : List ℕ → ℕ → ℕ → Result ℕ Refusal
located s e item =
    cond (not (whole_stack (length s))) (Err WrongLength)
    (cond (not (edition_known e)) (Err UnknownEdition)
    (first (has_item s e item) 0 (cards_in (length s))))

-- the part of the stack that an answer names: the card, or the empty part
abbrev pub part : List ℕ → Result ℕ Refusal → List ℕ
part s (Ok k) = card_at s k
part s (Err n) = []

-- and its place, a block of memory and a byte in it: k cards past the stack's own, or at it
abbrev pub placed : ℕ × ℕ → Result ℕ Refusal → ℕ × ℕ
placed start (Ok k) = (start.0, card_size * k + start.1)
placed start (Err n) = start
