-- What a replay amounts to; proofs/Claims.antt proves each claim. Assumes nothing.
use Rattle.std.specs.Prelude.{ℕ, true, ◌≡◌, List, [], ◌∷◌, ◌++◌, length, Ok}
use Rattle.card_table.specs.Table.{card_size}
use Rattle.custody_book.specs.History.{Rewrite}
use Rattle.custody_book.specs.Meaning.{Meaning}
use Rattle.custody_rewrites.specs.Lists.{rewrites_of, fitting}
use Rattle.custody.specs.Replay.{Given, asked_by, beginning, history}

-- ---- any list of rewrites, as flat lists

abbrev pub editions_in : List Rewrite → List ℕ
editions_in [] = []
editions_in (r ∷ rs) = r.edition ∷ editions_in rs

abbrev pub lengths_in : List Rewrite → List ℕ
lengths_in [] = []
lengths_in (r ∷ rs) = length r.output ∷ lengths_in rs

abbrev pub outputs_in : List Rewrite → List ℕ
outputs_in [] = []
outputs_in (r ∷ rs) = r.output ++ outputs_in rs

-- every list of rewrites can be asked of a replay
abbrev pub AsksAnyList : Type 0
AsksAnyList = (rs : List Rewrite) → rewrites_of (editions_in rs) (lengths_in rs) (outputs_in rs) ≡ rs

-- and fits together, with a place of a card's length and an answer for each
abbrev pub FitsAnyList : Type 0
FitsAnyList = (rs : List Rewrite) → fitting card_size (editions_in rs) (lengths_in rs) (length (outputs_in rs)) (length (editions_in rs)) ≡ true

-- ---- demand 3, of a replay

-- what a replay that begins leaves to be seen is what demand 3 asks for
abbrev pub ReplaysAsMeant : Type 0
ReplaysAsMeant = (g : Given) → beginning g ≡ (Ok tt) → Meaning (asked_by g) (history g)
