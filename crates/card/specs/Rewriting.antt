-- Document 01, "Card": a rewrite at an edition is a reading at that edition followed by a writing at it. Assumes nothing.
use Rattle.std.specs.Prelude.{ℕ, List, Result, Ok, Err, ⊤}
use Rattle.card_reader.specs.Reading.{read_card}
use Rattle.refusal.specs.declared.Refusal.{Refusal}
use Rattle.card_table.specs.declared.facts.Facts.{Facts}
use Rattle.card_writer.specs.Writing.{write_answer, write_output}

-- the answer after a reading: its number, or what writing the facts that it shows answers
abbrev pub then_write : Result Facts Refusal → ℕ → ℕ → Result ⊤ Refusal
then_write (Err k) e bytes = Err k
then_write (Ok f) e bytes = write_answer e f bytes

-- rewriting into so many bytes
unfoldable pub rewrite_answer : List ℕ → ℕ → ℕ → Result ⊤ Refusal
rewrite_answer b e bytes = then_write (read_card b e) e bytes

-- the output after a reading: as before, or what writing the facts that it shows leaves there
abbrev pub then_output : Result Facts Refusal → ℕ → List ℕ → List ℕ
then_output (Err k) e before = before
then_output (Ok f) e before = write_output e f before

-- the output after rewriting
unfoldable pub rewrite_output : List ℕ → ℕ → List ℕ → List ℕ
rewrite_output b e before = then_output (read_card b e) e before
