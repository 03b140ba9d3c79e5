-- The book's trace of a card in flat lists, as a replay leaves it. Assumes nothing.
use Rattle.std.specs.Prelude.{ℕ, List, [], ◌∷◌, ◌++◌}
use Rattle.custody_book.specs.History.{Trace, Trace.ended, Trace.rewritten}
use Rattle.custody_rewrites.specs.Lists.{number_of}

-- the answers of all rewrites
abbrev pub answers_of : Trace → List ℕ
answers_of (ended reading decoding values) = []
answers_of (rewritten answer output card s) = number_of answer ∷ answers_of s

-- the outputs after them, one after the other
abbrev pub outputs_of : Trace → List ℕ
outputs_of (ended reading decoding values) = []
outputs_of (rewritten answer output card s) = output ++ outputs_of s

-- the card after them, from the first card on
abbrev pub card_of : List ℕ → Trace → List ℕ
card_of first (ended reading decoding values) = first
card_of first (rewritten answer output card s) = card_of card s
