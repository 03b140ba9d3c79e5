-- Document 01, "Layout", with request A1's range 3: the numbers by which the paper names models, primaries, channels, ranges and depths. Assumes nothing.
use Rattle.std.specs.Prelude.{ℕ, ◌-◌, ◌^◌, Bool, cond, ◌&&◌, ◌||◌, eqb, leb, ltb, Option, Some, None}
use Rattle.parameters.specs.declared.range.Range.{Range}
use Rattle.parameters.specs.declared.range.Range.TheVariants.{Narrow, Full, LegacyFull}
use Rattle.parameters.specs.declared.depth.Depth.{Depth}
use Rattle.parameters.specs.declared.depth.Depth.TheVariants.{Eight, Ten, Twelve}
use Rattle.parameters.specs.declared.kind.Kind.{Kind}
use Rattle.parameters.specs.declared.kind.Kind.TheVariants.{Brightness, Difference}

-- model 1 is R'G'B', 2 is Y'CbCr
abbrev pub model_known : ℕ → Bool
model_known model = eqb model 1 || eqb model 2

-- primaries 1 to 4
abbrev pub primaries_known : ℕ → Bool
primaries_known primaries = leb 1 primaries && leb primaries 4

-- channels 0, 1, 2
abbrev pub channel_known : ℕ → Bool
channel_known channel = ltb channel 3

-- range 1 is narrow, 2 is full, 3 is the older full range of BT.2100-0 and JFIF (A1)
abbrev pub range_number : Range → ℕ
range_number Narrow = 1
range_number Full = 2
range_number LegacyFull = 3

abbrev pub range_known : ℕ → Bool
range_known range = eqb range (range_number Narrow) || eqb range (range_number Full) || eqb range (range_number LegacyFull)

-- the range of a number that is known (any other is taken for the older full range)
abbrev pub range_of : ℕ → Range
range_of range = cond (eqb range (range_number Narrow)) Narrow (cond (eqb range (range_number Full)) Full LegacyFull)

-- the range of any number, or that it has none
abbrev pub known_range : ℕ → Option Range
known_range range = cond (range_known range) (Some (range_of range)) None

-- a depth n of 8, 10 or 12
abbrev pub depth_known : ℕ → Bool
depth_known n = eqb n 8 || eqb n 10 || eqb n 12

-- the depth of a number that is known (any other is taken for 12)
abbrev pub depth_of : ℕ → Depth
depth_of n = cond (eqb n 8) Eight (cond (eqb n 10) Ten Twelve)

-- and its number
abbrev pub bits_of : Depth → ℕ
bits_of Eight = 8
bits_of Ten = 10
bits_of Twelve = 12

-- the depth of any number, or that it has none
abbrev pub known_depth : ℕ → Option Depth
known_depth n = cond (depth_known n) (Some (depth_of n)) None

-- s = 2^(n-8), and the highest code 2^n - 1
abbrev pub step_of : ℕ → ℕ
step_of n = 2 ^ (n - 8)

abbrev pub top_of : ℕ → ℕ
top_of n = 2 ^ n - 1

-- channels 1 and 2 of Y'CbCr, Cb and Cr, are differences, and all others brightness
abbrev pub kind_of : ℕ → ℕ → Kind
kind_of model channel = cond (eqb model 2 && (eqb channel 1 || eqb channel 2)) Difference Brightness
