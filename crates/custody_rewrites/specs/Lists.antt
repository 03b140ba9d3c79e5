-- The rewrites of a card in flat lists, as they are asked for, and whether the lists fit together. Assumes nothing.
use Rattle.std.specs.Prelude.{ℕ, ◌+◌, Bool, ◌&&◌, List, [], ◌∷◌, eqb, length, take, drop, Result, Ok, Err, ⊤}
use Rattle.card_table.specs.Table.{card_size}
use Rattle.refusal.specs.Refusal as slip
use Rattle.refusal.specs.declared.Refusal.{Refusal}
use Rattle.custody_book.specs.History.{Rewrite}

abbrev pub sum : List ℕ → ℕ
sum [] = 0
sum (n ∷ ns) = n + sum ns

-- the rewrites that are asked for: one for each edition, its output so many bytes of what is left of the outputs
abbrev pub rewrites_of : (editions lengths outputs : List ℕ) → List Rewrite
rewrites_of [] ns outputs = []
rewrites_of (e ∷ es) [] outputs = []
rewrites_of (e ∷ es) (n ∷ ns) outputs = record { edition = e; output = take n outputs } ∷ rewrites_of es ns (drop n outputs)

-- the lists fit together: a place of a card's length, a length and an answer for each edition, and outputs as long as all lengths together
abbrev pub fitting : (card : ℕ) (editions lengths : List ℕ) (outputs answers : ℕ) → Bool
fitting card editions lengths outputs answers =
    eqb card card_size
    && eqb (length lengths) (length editions)
    && eqb answers (length editions)
    && eqb (sum lengths) outputs

-- an answer as a number: 0 where the card was written, else the refusal's
abbrev pub number_of : Result ⊤ Refusal → ℕ
number_of (Ok tt) = 0
number_of (Err refusal) = slip.number_of refusal
