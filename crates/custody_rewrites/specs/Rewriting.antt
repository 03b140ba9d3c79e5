-- What the rewrites of a card leave, one after the other. Assumes nothing.
use Rattle.std.specs.Prelude.{ℕ, List, [], ◌∷◌, ◌++◌, length}
use Rattle.card.specs.Rewriting.{rewrite_answer, rewrite_output}
use Rattle.custody_book.specs.History.{Rewrite}
use Rattle.custody_book.specs.Calls.{card_after}
use Rattle.custody_rewrites.specs.Lists.{number_of}

abbrev pub card_after_all : List ℕ → List Rewrite → List ℕ
card_after_all card [] = card
card_after_all card (r ∷ rs) = card_after_all (card_after card r) rs

abbrev pub outputs_after_all : List ℕ → List Rewrite → List ℕ
outputs_after_all card [] = []
outputs_after_all card (r ∷ rs) = rewrite_output card r.edition r.output ++ outputs_after_all (card_after card r) rs

abbrev pub answers_after_all : List ℕ → List Rewrite → List ℕ
answers_after_all card [] = []
answers_after_all card (r ∷ rs) = number_of (rewrite_answer card r.edition (length r.output)) ∷ answers_after_all (card_after card r) rs
