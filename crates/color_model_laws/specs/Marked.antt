-- Document 01, "Marked examples", M1 to M12, points of request A1's range 3, request A2's ends, and what request A4 counts as cut, worked out from the equations in exact fractions. Assumes nothing.
use Rattle.std.specs.Prelude.{ℕ, ◌-◌, ◌^◌, true, false, List, [], ◌∷◌, pos, negsuc, Float, Option, Some}
use Rattle.std.specs.Float.{inf, fin}
use Rattle.parameters.specs.declared.range.Range.{Range}
use Rattle.parameters.specs.declared.range.Range.TheVariants.{Narrow, Full, LegacyFull}
use Rattle.parameters.specs.declared.kind.Kind.{Kind}
use Rattle.parameters.specs.declared.kind.Kind.TheVariants.{Brightness, Difference}
use Rattle.fractions.specs.declared.Clamped.{Clamped}
use Rattle.scale.specs.Scale.{scale_of}
use Rattle.quantization.specs.Code.{code_of_value, code_of}
use Rattle.color_equations.specs.Weights.{weights_of}
use Rattle.color_equations.specs.Equations.{luma_of, chroma_of, primary_of, green_from}
use Rattle.color_equations.specs.Conversion.{ycbcr_of, rgb_of}

-- three codes of a point
pub data Codes : Type 0 where
  codes : ℕ → ℕ → ℕ → Codes

-- a code whose number lay within the ends, and one whose number was cut to an end (A4)
abbrev pub kept : ℕ → Clamped
kept c = record { code = c; cut = false }

abbrev pub cut : ℕ → Clamped
cut c = record { code = c; cut = true }

pub data Example : Type 0 where
  -- a range, a depth, a kind, a float and its code. A float is `fin minus m e`, ±m * 2 ^ e; `negsuc k` is -(k + 1).
  float : Range → ℕ → Kind → Float → Clamped → Example
  -- the range in and the range out, a depth, primaries, R'G'B' and its Y', Cb, Cr; and Y'CbCr and its R', G', B'
  to_ycbcr : Range → Range → ℕ → ℕ → Codes → Clamped → Clamped → Clamped → Example
  to_rgb : Range → Range → ℕ → ℕ → Codes → Clamped → Clamped → Clamped → Example

unfoldable pub marked : List Example
marked =
    -- M1: 1.0
    float Narrow 8 Brightness (fin false 1 (pos 0)) (kept 235)
    -- M2: -0.5
    ∷ float Narrow 8 Difference (fin true 1 (negsuc 0)) (kept 16)
    -- M3: 0.5
    ∷ float Narrow 8 Difference (fin false 1 (negsuc 0)) (kept 240)
    -- M4: 0.5 (256, cut)
    ∷ float Full 8 Difference (fin false 1 (negsuc 0)) (cut 255)
    -- M5: -0.5
    ∷ float Full 8 Difference (fin true 1 (negsuc 0)) (kept 1)
    -- M6: -0.25 (-64, cut)
    ∷ float Full 8 Brightness (fin true 1 (negsuc 1)) (cut 0)
    -- M7: 1/8
    ∷ float Narrow 10 Brightness (fin false 1 (negsuc 2)) (kept 174)
    -- M8: 1/8 - 2^-27
    ∷ float Narrow 10 Brightness (fin false (2 ^ 24 - 1) (negsuc 26)) (kept 173)
    -- M9: 0
    ∷ float Full 12 Difference (fin false 0 (pos 0)) (kept 2048)
    -- M10: 0.5
    ∷ float Narrow 8 Brightness (fin false 1 (negsuc 0)) (kept 126)
    -- M11: BT.709 (Cr is 256, cut)
    ∷ to_ycbcr Full Full 8 1 (codes 255 0 0) (kept 54) (kept 99) (cut 255)
    -- M12: that triple back
    ∷ to_rgb Full Full 8 1 (codes 54 99 255) (kept 254) (kept 0) (kept 0)
    ∷ []

-- range 3 beside each range, both ways
unfoldable pub early : List Example
early =
    -- white
    to_ycbcr LegacyFull LegacyFull 8 1 (codes 255 255 255) (kept 255) (kept 128) (kept 128)
    -- black
    ∷ to_ycbcr LegacyFull Narrow 10 2 (codes 0 0 0) (kept 64) (kept 512) (kept 512)
    -- the codes above 4092, which stand for what the formula gives
    ∷ to_ycbcr LegacyFull Full 12 4 (codes 4093 4094 4095) (kept 4093) (kept 2049) (kept 2047)
    -- white (Y' is 4096, cut)
    ∷ to_ycbcr Full LegacyFull 12 1 (codes 4095 4095 4095) (cut 4092) (kept 2048) (kept 2048)
    -- blue (Cb is 256, cut)
    ∷ to_ycbcr Narrow LegacyFull 8 2 (codes 16 16 235) (kept 29) (cut 255) (kept 107)
    -- a point that no R'G'B' has (R' is 400 and B' -38, cut)
    ∷ to_rgb LegacyFull LegacyFull 8 1 (codes 200 0 255) (cut 255) (kept 165) (cut 0)
    -- 4096, 4095 and 4093, cut
    ∷ to_rgb LegacyFull LegacyFull 12 4 (codes 4095 2047 2049) (cut 4092) (cut 4092) (cut 4092)
    ∷ to_rgb LegacyFull Narrow 10 2 (codes 400 300 700) (kept 632) (kept 354) (kept 85)
    -- 7110 and 7941, cut
    ∷ to_rgb LegacyFull Full 12 4 (codes 4095 4093 4094) (cut 4095) (kept 2589) (cut 4095)
    ∷ to_rgb Full LegacyFull 10 1 (codes 800 400 600) (kept 939) (kept 781) (kept 593)
    -- in full range each code is one less
    ∷ to_rgb Narrow LegacyFull 8 1 (codes 172 100 150) (kept 222) (kept 177) (kept 123)
    -- white (4096, cut)
    ∷ to_rgb Narrow LegacyFull 12 4 (codes 3760 2048 2048) (cut 4092) (cut 4092) (cut 4092)
    ∷ []

-- narrow codes at their ends, by a float and by a conversion
unfoldable pub narrow_ends : List Example
narrow_ends =
    -- the infinities
    float Narrow 8 Brightness (inf false) (cut 254)
    ∷ float Narrow 8 Difference (inf true) (cut 1)
    ∷ float Narrow 10 Brightness (inf true) (cut 4)
    ∷ float Narrow 10 Difference (inf false) (cut 1019)
    ∷ float Narrow 12 Brightness (inf false) (cut 4079)
    ∷ float Narrow 12 Difference (inf true) (cut 16)
    -- 9/16
    ∷ float Narrow 8 Difference (fin false 9 (negsuc 3)) (kept 254)
    -- 145/256 (254.875, rounded to 255 and cut)
    ∷ float Narrow 8 Difference (fin false 145 (negsuc 7)) (cut 254)
    -- -5/64 (-4, cut)
    ∷ float Narrow 10 Brightness (fin true 5 (negsuc 5)) (cut 4)
    -- the codes 0, which are taken as they are (Y' is 0, cut)
    ∷ to_ycbcr Narrow Narrow 8 1 (codes 0 0 0) (cut 1) (kept 128) (kept 128)
    -- Cb is -11, cut
    ∷ to_ycbcr Narrow Narrow 10 2 (codes 1023 1023 0) (kept 906) (cut 4) (kept 597)
    -- Cr is 4142, cut
    ∷ to_ycbcr Narrow Narrow 12 4 (codes 4095 0 0) (kept 1076) (kept 1463) (cut 4079)
    -- R' is 407, cut
    ∷ to_rgb Full Narrow 8 1 (codes 255 128 255) (cut 254) (kept 184) (kept 235)
    -- G' is -98 and B' -713, cut
    ∷ to_rgb Full Narrow 10 2 (codes 0 0 1023) (kept 677) (cut 4) (cut 4)
    -- G' is 4472 and B' 7054, cut
    ∷ to_rgb LegacyFull Narrow 12 4 (codes 4095 4095 0) (kept 1176) (cut 4079) (cut 4079)
    ∷ []

-- request A4: numbers on and beside an end
unfoldable pub cut_examples : List Example
cut_examples =
    -- R' is exactly -1/2: Round makes it -1, which is cut,
    to_rgb Full Full 10 2 (codes 350 512 262) (cut 0) (kept 529) (kept 350)
    -- and floor(1/2 + x) of range 3 makes it 0, which is not
    ∷ to_rgb LegacyFull LegacyFull 10 2 (codes 350 512 262) (kept 0) (kept 529) (kept 350)
    -- R' is -49/500, nearer to 0 than to -1
    ∷ to_rgb Full Full 10 2 (codes 349 512 263) (kept 0) (kept 527) (kept 349)
    -- both ends (R' is 328 and B' -110), and the other way round (R' is -74 and B' 364)
    ∷ to_rgb Full Full 8 1 (codes 128 0 255) (cut 255) (kept 93) (cut 0)
    ∷ to_rgb Full Full 8 1 (codes 128 255 0) (cut 0) (kept 164) (cut 255)
    -- white and black are the ends themselves, and not cut
    ∷ to_ycbcr Full Full 8 1 (codes 255 255 255) (kept 255) (kept 128) (kept 128)
    ∷ to_ycbcr Full Full 8 1 (codes 0 0 0) (kept 0) (kept 128) (kept 128)
    -- narrow: Y' is 15 1/2, half a code below the end, and rounded up to it; Y' is 15.386, rounded to 15
    ∷ to_ycbcr Narrow Narrow 12 2 (codes 8 20 12) (kept 16) (kept 2046) (kept 2043)
    ∷ to_ycbcr Narrow Narrow 12 2 (codes 8 20 11) (cut 16) (kept 2045) (kept 2043)
    ∷ []

-- an example's answer
pub data Answer : Type 0 where
  one : Option Clamped → Answer
  three : Clamped → Clamped → Clamped → Answer

-- what the definitions give, and what is stated
unfoldable pub given : Example → Answer
unfolding scale_of code_of code_of_value luma_of chroma_of primary_of green_from ycbcr_of rgb_of
given (float r n k v code) = one (code_of (scale_of r n k) v)
given (to_ycbcr from to n p (codes x y z) a b c) = let f = ycbcr_of (weights_of p) n from to x y z in three (f 0) (f 1) (f 2)
given (to_rgb from to n p (codes x y z) a b c) = let f = rgb_of (weights_of p) n from to x y z in three (f 0) (f 1) (f 2)

unfoldable pub stated : Example → Answer
stated (float r n k v code) = one (Some code)
stated (to_ycbcr from to n p point a b c) = three a b c
stated (to_rgb from to n p point a b c) = three a b c
