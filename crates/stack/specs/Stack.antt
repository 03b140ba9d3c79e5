-- Document 01, "Card" and "Numbers on the refusal slip": a stack of cards. Assumes nothing.
use Rattle.std.specs.Prelude.{ℕ, ◌*◌, ◌/◌, ◌%◌, Bool, ◌&&◌, List, eqb, leb, take, drop}
use Rattle.card_table.specs.Table.{card_size}

-- the most cards in a stack
abbrev pub stack_limit : ℕ
stack_limit = 1024

-- the cards that so many bytes hold
abbrev pub cards_in : ℕ → ℕ
cards_in bytes = bytes / card_size

-- so many bytes are a stack: whole cards, and no more than 1,024
abbrev pub whole_stack : ℕ → Bool
whole_stack bytes = eqb (bytes % card_size) 0 && leb (cards_in bytes) stack_limit

-- card k of a stack, the first being card 0: its 32 bytes
abbrev pub card_at : List ℕ → ℕ → List ℕ
card_at s k = take card_size (drop (card_size * k) s)
