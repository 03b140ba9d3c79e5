-- What storing a text in an output leaves there. Assumes nothing.
use Rattle.std.specs.Prelude.{ℕ, ◌+◌, min, ◌≡◌, List, length}
use Rattle.std.proofs.lemmas.List.Edits.{sets}
use Rattle.text_writer.specs.declared.TextWriter.{TextWriter}

-- a text was stored from index at on, one element after the other, as far as the output goes, and ends before index next
pub record Put (text : List ℕ) (at : ℕ) (before after : List ℕ) (next : ℕ) : Type 0 where
  pub holds : after ≡ sets before at text
  pub ends : next ≡ min (at + length text) (length before)

-- a writer stored a text where it was, in the output that it was lent, and is behind it
pub record Wrote (text : List ℕ) (before after : TextWriter) : Type 0 where
  pub stored : Put text before.at before.out.now after.out.now after.at
  pub lent : after.out.ghost_name ≡ before.out.ghost_name
