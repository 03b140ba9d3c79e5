-- What the paper's numbers stand for. Assumes nothing.
use Rattle.std.specs.Prelude.{ℕ, cond, Option, Some, None}
use Rattle.parameters.specs.Parameters.{depth_of, range_of}
use Rattle.color_equations.specs.Weights.{weights_of}
use Rattle.color_equations.specs.Line.{convertible}
use Rattle.color_numbers.specs.declared.Numbers.{Numbers}
use Rattle.color_numbers.specs.inner.Green.{green_terms}

-- the weights, the terms of G', the depth, and the ranges of what goes in and comes out
abbrev pub numbers_of : ℕ → ℕ → ℕ → ℕ → Numbers
numbers_of primaries n from to = record { weights = weights_of primaries; green = green_terms primaries; depth = depth_of n; from = range_of from; to = range_of to }

-- the same, or that the paper has no such conversion
abbrev pub known_numbers : ℕ → ℕ → ℕ → ℕ → Option Numbers
known_numbers primaries n from to = cond (convertible primaries n from to) (Some (numbers_of primaries n from to)) None
