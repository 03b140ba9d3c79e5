-- Document 01, "The stack list": the whole text. Assumes nothing.
use Rattle.std.specs.Prelude.{ℕ, zero, suc, cond, List, [], ◌++◌, length, Result, Ok, Err}
use Rattle.card_edition.specs.Edition.{newest}
use Rattle.card_reader.specs.Reading.{read_card}
use Rattle.stack.specs.Stack.{cards_in, whole_stack, card_at}
use Rattle.text_writer.specs.Decimal.{decimal}
use Rattle.text_writer.specs.Words.{space, newline}
use Rattle.refusal.specs.declared.Refusal.TheVariants.{WrongLength}
use Rattle.refusal.specs.declared.Refusal.{Refusal}
use Rattle.refusal.specs.Refusal.{number_of}
use Rattle.card_table.specs.declared.facts.Facts.{Facts}
use Rattle.listing.specs.Words.{by, cards_word, stack_refused, card_refused, access_word}

-- `ITEM WORD `, with a space behind each
unfoldable pub item_text : ℕ → ℕ → List ℕ
item_text item access = decimal item ++ space ++ access_word access ++ space

-- `WIDTHxHEIGHT`, and the line's end
unfoldable pub size_text : ℕ → ℕ → List ℕ
size_text width height = decimal width ++ by ++ decimal height ++ newline

-- a line of words and a number
unfoldable pub number_line : List ℕ → ℕ → List ℕ
number_line words n = words ++ decimal n ++ newline

-- the line of what a card shows: `ITEM WORD WIDTHxHEIGHT`, or `- refused N`
abbrev pub reading_line : Result Facts Refusal → List ℕ
reading_line (Ok f) = item_text f.item f.access ++ size_text f.width f.height
reading_line (Err k) = number_line card_refused (number_of k)

-- the line of a card: a stack is listed at the newest edition
unfoldable pub card_line : List ℕ → List ℕ
card_line card = reading_line (read_card card newest)

-- the first line for so many bytes: `cards N`, or `stack refused 1`
unfoldable pub first_line : ℕ → List ℕ
first_line bytes = cond (whole_stack bytes) (number_line cards_word (cards_in bytes)) (number_line stack_refused (number_of WrongLength))

-- the lines of the first n cards, one after the other
unfoldable pub card_lines : List ℕ → ℕ → List ℕ
card_lines stack zero = []
card_lines stack (suc n) = card_lines stack n ++ card_line (card_at stack n)

-- the cards that are listed: all, or none of a stack that is refused
abbrev pub listed : ℕ → ℕ
listed bytes = cond (whole_stack bytes) (cards_in bytes) 0

-- the whole list of a stack
unfoldable pub list_text : List ℕ → List ℕ
list_text stack = first_line (length stack) ++ card_lines stack (listed (length stack))
