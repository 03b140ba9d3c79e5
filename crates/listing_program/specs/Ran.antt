-- What the program that lists a stack did, and what its memory holds afterwards (document 01, "The stack list"). Assumes nothing.
use Rattle.std.specs.Prelude.{ℕ, ◌+◌, ◌*◌, ◌≤◌, Bool, true, false, ◌&&◌, ◌≡◌, List, ◌++◌, eqb, leb, length, take, drop, Result, Ok, Err}
use Rattle.card_table.specs.Table.{card_size}
use Rattle.stack.specs.Stack.{stack_limit}
use Rattle.listing.specs.List.{list_text}
use Rattle.listing.specs.Text.{longest_list}
use Rattle.listing_program.specs.declared.Listed.{Listed}
use Rattle.listing_program.specs.declared.RunError.{RunError}
use Rattle.refusal.specs.declared.Refusal.TheVariants.{WrongLineOrOutput}
use Rattle.listing_program.specs.declared.RunError.TheVariants.{NotRead, Refused}

-- one byte more than the largest stack has
abbrev pub most_read : ℕ
most_read = card_size * stack_limit + 1

-- a buffer of that length, and a text that can hold every list
abbrev pub fits : (buffer text : ℕ) → Bool
fits buffer text = eqb buffer most_read && leb longest_list text

-- a list of n bytes is at the front of the text, and what was behind it stays
pub record ListedAs (n : ℕ) (list before after : List ℕ) : Type 0 where
  pub long : n ≡ length list
  pub within : n ≤ length after
  pub front : after ≡ list ++ drop n before

-- the memory after each answer. What the system gave is in the buffer; the list is that of the bytes which were read
abbrev pub Holds : Result Listed RunError → (buffer buffer' text text' : List ℕ) → Type 0
Holds (Ok done) buffer buffer' text text' = (fits (length buffer) (length text) ≡ true) × (done.read ≤ length buffer') × ListedAs done.bytes (list_text (take done.read buffer')) text text'
Holds (Err NotRead) buffer buffer' text text' = (fits (length buffer) (length text) ≡ true) × (text' ≡ text)
Holds (Err (Refused k)) buffer buffer' text text' = (fits (length buffer) (length text) ≡ false) × (k ≡ WrongLineOrOutput) × (buffer' ≡ buffer) × (text' ≡ text)
