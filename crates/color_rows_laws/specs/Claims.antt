-- Claims about the rows of a conversion, as crates/color_rows gives them and crates/color_line converts by them: their code is the paper's. proofs/Claims.antt proves each. Assumes nothing.
use Rattle.std.specs.Prelude.{ℕ, ◌≤◌, true, ◌≡◌}
use Rattle.parameters.specs.Parameters.{range_of, top_of}
use Rattle.color_equations.specs.Weights.{weights_of}
use Rattle.color_equations.specs.Conversion.{ycbcr_of, rgb_of}
use Rattle.color_equations.specs.Line.{convertible}
use Rattle.color_line.specs.inner.Rows.{rows_code}
use Rattle.color_rows.specs.inner.Known.{ycbcr_conversion, rgb_conversion}

-- at every point x, y, z of n bits, in every channel j
abbrev pub ToYcbcrExact : Type 0
ToYcbcrExact =
    (primaries n from to : ℕ) → convertible primaries n from to ≡ true → (x y z j : ℕ) → x ≤ top_of n → y ≤ top_of n → z ≤ top_of n
    → rows_code (ycbcr_conversion primaries n from to).rows x y z j ≡ ycbcr_of (weights_of primaries) n (range_of from) (range_of to) x y z j

abbrev pub ToRgbExact : Type 0
ToRgbExact =
    (primaries n from to : ℕ) → convertible primaries n from to ≡ true → (x y z j : ℕ) → x ≤ top_of n → y ≤ top_of n → z ≤ top_of n
    → rows_code (rgb_conversion primaries n from to).rows x y z j ≡ rgb_of (weights_of primaries) n (range_of from) (range_of to) x y z j
