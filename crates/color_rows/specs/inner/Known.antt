-- The rows of the conversion that the paper's numbers stand for. Assumes nothing.
use Rattle.std.specs.Prelude.{ℕ, cond, Option, Some, None}
use Rattle.parameters.specs.Parameters.{top_of}
use Rattle.color_equations.specs.Line.{convertible}
use Rattle.color_numbers.specs.inner.Numbers.{numbers_of}
use Rattle.color_rows.specs.declared.Conversion.{Conversion}
use Rattle.color_rows.specs.inner.Rows.{ycbcr_rows, rgb_rows}

-- the rows of a conversion, and the highest code that it takes; or that the paper has no such conversion
abbrev pub ycbcr_conversion : ℕ → ℕ → ℕ → ℕ → Conversion
ycbcr_conversion primaries n from to = record { rows = ycbcr_rows (numbers_of primaries n from to); top = top_of n }

abbrev pub known_to_ycbcr : ℕ → ℕ → ℕ → ℕ → Option Conversion
known_to_ycbcr primaries n from to = cond (convertible primaries n from to) (Some (ycbcr_conversion primaries n from to)) None

abbrev pub rgb_conversion : ℕ → ℕ → ℕ → ℕ → Conversion
rgb_conversion primaries n from to = record { rows = rgb_rows (numbers_of primaries n from to); top = top_of n }

abbrev pub known_to_rgb : ℕ → ℕ → ℕ → ℕ → Option Conversion
known_to_rgb primaries n from to = cond (convertible primaries n from to) (Some (rgb_conversion primaries n from to)) None
