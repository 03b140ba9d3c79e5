-- The answers of cards and stacks as C sees them: a number of 0 or more is the answer, and a refusal is minus its number (include/imurraqi.h). Assumes nothing.
use Rattle.std.specs.Prelude.{ℕ, List, [], ◌∷◌, ℤ, pos, neg_ℤ, Result, Ok, Err}
use Rattle.refusal.specs.declared.Refusal.{Refusal}
use Rattle.refusal.specs.Refusal.{number_of}
use Rattle.card_table.specs.declared.facts.Facts.{Facts}
use Rattle.c_types.specs.Layouts.{layout_bytes}

-- 0 for a card that is shown
abbrev pub shown_number : Result Facts Refusal → ℤ
shown_number (Ok f) = pos 0
shown_number (Err k) = neg_ℤ (pos (number_of k))

-- the nine bytes behind the first output's pointer: the layout's, or what stood there before where the card is refused
abbrev pub shown_layout : Result Facts Refusal → List ℕ → List ℕ
shown_layout (Ok f) before = layout_bytes f.layout
shown_layout (Err k) before = before

-- the four numbers behind the second's: width, height, item and access, or what stood there before
abbrev pub shown_facts : Result Facts Refusal → List ℕ → List ℕ
shown_facts (Ok f) before = f.width ∷ f.height ∷ f.item ∷ f.access ∷ []
shown_facts (Err k) before = before

-- the index of a card that is found
abbrev pub found_number : Result ℕ Refusal → ℤ
found_number (Ok k) = pos k
found_number (Err k) = neg_ℤ (pos (number_of k))
