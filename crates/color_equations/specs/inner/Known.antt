-- The weights by the number of the primaries, whatever it is. Only the code that works out a conversion cites it: the definitions have `weights_of`. Assumes nothing.
use Rattle.std.specs.Prelude.{ℕ, cond, Option, Some, None}
use Rattle.parameters.specs.Parameters.{primaries_known}
use Rattle.color_equations.specs.declared.weights.Weights.{Weights}
use Rattle.color_equations.specs.Weights.{weights_of}

-- the row of known primaries, or that the paper has none
abbrev pub known_weights : ℕ → Option Weights
known_weights primaries = cond (primaries_known primaries) (Some (weights_of primaries)) None
