-- What stands between the words and the numbers of a text, in ASCII. Assumes nothing.
use Rattle.std.specs.Prelude.{ℕ, List, [], ◌∷◌}

-- a space
abbrev pub space : List ℕ
space = 32 ∷ []

-- a line's end: one newline
abbrev pub newline : List ℕ
newline = 10 ∷ []
