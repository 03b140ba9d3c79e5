-- What the first card of an item is, of the definition that the contracts of `stack::locate` and `stack::find` cite. proofs/Finding.antt proves each. Assumes nothing.
use Rattle.std.specs.Prelude.{ℕ, ◌<◌, true, ◌≡◌, List, length, Ok, Err}
use Rattle.card_table.specs.declared.facts.Facts.{Facts}
use Rattle.card_edition.specs.Edition.{edition_known}
use Rattle.card_table.specs.Table.{card_size}
use Rattle.card_reader.specs.Reading.{read_card}
use Rattle.stack.specs.Stack.{cards_in, whole_stack, card_at}
use Rattle.refusal.specs.declared.Refusal.TheVariants.{NoItem}
use Rattle.stack.specs.Finding.{located}

-- the edition reads card k of the stack, and it has the number
pub record Has (s : List ℕ) (e item k : ℕ) : Type 0 where
  pub inside : k < cards_in (length s)
  pub facts : Facts
  pub shown : read_card (card_at s k) e ≡ Ok facts
  pub number : facts.item ≡ item

-- it is the first that does
pub record FirstCard (s : List ℕ) (e item k : ℕ) : Type 0 where
  pub has : Has s e item k
  pub before : (j : ℕ) → j < k → Has s e item j → ⊥

-- what is located is the first card that the edition reads and that has the number
abbrev pub LocatesTheFirst : Type 0
LocatesTheFirst = (s : List ℕ) (e item k : ℕ) → located s e item ≡ Ok k → FirstCard s e item k

-- and it is located wherever it is
abbrev pub LocatesIt : Type 0
LocatesIt = (s : List ℕ) (e item k : ℕ) → whole_stack (length s) ≡ true → edition_known e ≡ true → FirstCard s e item k → located s e item ≡ Ok k

-- 15 says that there is none
abbrev pub NoneWhere15 : Type 0
NoneWhere15 = (s : List ℕ) (e item : ℕ) → located s e item ≡ Err NoItem → (k : ℕ) → Has s e item k → ⊥

-- and is said wherever there is none
abbrev pub FifteenWhereNone : Type 0
FifteenWhereNone = (s : List ℕ) (e item : ℕ) → whole_stack (length s) ≡ true → edition_known e ≡ true → ((k : ℕ) → Has s e item k → ⊥) → located s e item ≡ Err NoItem

-- the part that is found is a whole card
abbrev pub FindsWholeCards : Type 0
FindsWholeCards = (s : List ℕ) (e item k : ℕ) → located s e item ≡ Ok k → length (card_at s k) ≡ card_size
