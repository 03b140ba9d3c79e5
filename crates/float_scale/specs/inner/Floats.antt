-- The code of a number as the code works it out, in f64. A reader need not believe it: crates/quantization/proofs/Codes.antt shows that of an f32, on a scale of the paper, it is `code_of`. Assumes nothing.
use Rattle.std.specs.Prelude.{◌+◌, ◌*◌, ◌≤◌, ◌<◌, pos, negsuc, Float, Bool, true, false, ◌≡◌}
use Rattle.std.specs.Float.{fin, binary64}
use Rattle.std.specs.Float.Ieee.{mul, add, of_int}
use Rattle.fractions.specs.declared.Clamped.{Clamped}
use Rattle.floats.specs.declared.Ends.{Ends}
use Rattle.floats.specs.inner.Floor.{in_floats, clamped_by}
use Rattle.scale.specs.declared.Scale.{Scale}
use Rattle.float_scale.specs.declared.FloatScale.{FloatScale}
use Rattle.scale.specs.declared.Rounding.{Rounding}
use Rattle.scale.specs.declared.Rounding.TheVariants.{HalfUp, HalfAway}

-- base + 1/2, and 4096 more: an odd number's half
abbrev pub middle_of : Scale → Float
middle_of sc = mul binary64 (of_int binary64 (pos (2 * sc.base + 8193))) (fin false 1 (negsuc 0))

-- Round takes the half below 0 to -1, and floor(1/2 + x) to 0
abbrev pub strictly : Rounding → Bool
strictly HalfUp = false
strictly HalfAway = true

abbrev pub ends_of : Scale → Ends
ends_of sc = record { low = sc.low; high = sc.high; strict = strictly sc.rounding }

-- the scale in f64
abbrev pub float_scale : Scale → FloatScale
float_scale sc = record { span = of_int binary64 (pos sc.span); middle = middle_of sc; ends = in_floats (ends_of sc) }

-- the whole part of span * x + base + 1/2, within the ends, and whether it lies outside them
unfoldable pub code_in : FloatScale → Float → Clamped
unfolding clamped_by
code_in f x = clamped_by f.ends (add binary64 (mul binary64 x f.span) f.middle)

abbrev pub float_code : Scale → Float → Clamped
float_code sc x = code_in (float_scale sc) x

-- what that takes to be exact
pub record Fine (sc : Scale) : Type 0 where
  pub some : 0 < sc.span
  pub span : sc.span ≤ 4096
  pub base : sc.base ≤ 4095
  pub order : sc.low ≤ sc.high
  pub high : sc.high ≤ 4095
  pub zero : strictly sc.rounding ≡ true → sc.low ≡ 0
