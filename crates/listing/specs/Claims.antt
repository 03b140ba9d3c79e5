-- How long a list can be; each claim is proved in proofs/Claims.antt. Assumes nothing.
use Rattle.std.specs.Prelude.{ℕ, ◌≤◌, List, length}
use Rattle.listing.specs.List.{card_line, list_text}
use Rattle.listing.specs.Text.{longest_line, longest_list}

-- no bytes have a longer line, as a card
abbrev pub NoLongerLine : Type 0
NoLongerLine = (card : List ℕ) → length (card_line card) ≤ longest_line

-- and none a longer list, as a stack
abbrev pub NoLongerList : Type 0
NoLongerList = (stack : List ℕ) → length (list_text stack) ≤ longest_list
