-- A number of cuts, at most as many as a line has values. Assumes nothing.
use Rattle.std.specs.Prelude.{ℕ, ◌*◌, cond, leb}
use Rattle.line.specs.Answer.{most_points}

-- three values a point
abbrev pub cuts_told : ℕ → ℕ
cuts_told cuts = cond (leb cuts (3 * most_points)) cuts (3 * most_points)
