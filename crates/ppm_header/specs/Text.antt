-- Request A7: the text of a header, three lines of decimal numbers without zeros in front. Assumes nothing.
use Rattle.std.specs.Prelude.{ℕ, List, ◌∷◌, ◌++◌}
use Rattle.text_writer.specs.Decimal.{decimal}
use Rattle.text_writer.specs.Words.{space, newline}

-- the first line: `P6`
abbrev pub magic : List ℕ
magic = 80 ∷ 54 ∷ newline

-- the second: the sides, with one space between them
unfoldable pub sides_text : ℕ → ℕ → List ℕ
sides_text width height = decimal width ++ space ++ decimal height ++ newline

-- all three, the last of which is the largest code
unfoldable pub header_text : ℕ → ℕ → ℕ → List ℕ
header_text width height top = magic ++ sides_text width height ++ decimal top ++ newline
