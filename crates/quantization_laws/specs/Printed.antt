-- The eight lines of document 01, "Codes and floats", the four that request A1 adds, and the ends of the clamp, with A2's, as they are printed: n is the depth, s = 2^(n-8), m = 2^n - 1, c a code, v a value. Assumes nothing.
use Rattle.std.specs.Prelude.{ℕ, ◌-◌, ◌*◌, ◌^◌, ◌≤◌, Bool, false, cond, not, ◌&&◌, eqb, leb, ltb, ℤ, pos, ◌-ℤ◌}
use Rattle.fractions.specs.Fraction.{Fraction, ◌over◌, ◌·◌, ◌⊕◌, ◌⊞◌, ◌⊟◌, plus_half, floor, half_away}
use Rattle.parameters.specs.declared.range.Range.{Range}
use Rattle.parameters.specs.declared.range.Range.TheVariants.{Narrow, Full, LegacyFull}
use Rattle.parameters.specs.declared.kind.Kind.{Kind}
use Rattle.parameters.specs.declared.kind.Kind.TheVariants.{Brightness, Difference}
use Rattle.parameters.specs.Parameters.{step_of, top_of}

-- 0.5
abbrev pub half : Fraction
half = pos 1 over 2

-- from a code to its fraction
--   narrow, RGB and Y'  v = (c - 16s)/(219s)
--   narrow, Cb and Cr   v = (c - 128s)/(224s)
--   full, RGB and Y'    v = c/m
--   full, Cb and Cr     v = (c - 2^(n-1))/m
--   A1, brightness      v = c * 2^-n
--   A1, differences     v = c * 2^-n - 0.5
unfoldable pub printed_value : Range → Kind → ℕ → ℕ → Fraction
printed_value Narrow Brightness n c = let s = step_of n in pos c -ℤ pos (16 * s) over 219 * s
printed_value Narrow Difference n c = let s = step_of n in pos c -ℤ pos (128 * s) over 224 * s
printed_value Full Brightness n c = let m = top_of n in pos c over m
printed_value Full Difference n c = let m = top_of n in pos c -ℤ pos (2 ^ (n - 1)) over m
printed_value LegacyFull Brightness n c = pos c over 2 ^ n
printed_value LegacyFull Difference n c = (pos c over 2 ^ n) ⊟ half

-- and back, before the clamp; Round is `half_away`
--   narrow, RGB and Y'  floor(1/2 + (219v + 16)s)
--   narrow, Cb and Cr   floor(1/2 + (224v + 128)s)
--   full, RGB and Y'    Round(vm)
--   full, Cb and Cr     Round(vm + 2^(n-1))
--   A1, brightness      floor(1/2 + v * 2^n)
--   A1, differences     floor(1/2 + (v + 0.5) * 2^n)
unfoldable pub printed_unclamped : Range → Kind → ℕ → Fraction → ℤ
printed_unclamped Narrow Brightness n v = let s = step_of n in floor (plus_half (s · (219 · v ⊕ 16)))
printed_unclamped Narrow Difference n v = let s = step_of n in floor (plus_half (s · (224 · v ⊕ 128)))
printed_unclamped Full Brightness n v = let m = top_of n in half_away (m · v)
printed_unclamped Full Difference n v = let m = top_of n in half_away (m · v ⊕ 2 ^ (n - 1))
printed_unclamped LegacyFull Brightness n v = floor (plus_half (2 ^ n · v))
printed_unclamped LegacyFull Difference n v = floor (plus_half (2 ^ n · (v ⊞ half)))

-- a number for each depth
abbrev pub at_depth : (n eight ten twelve : ℕ) → ℕ
at_depth n eight ten twelve = cond (eqb n 8) eight (cond (eqb n 10) ten twelve)

-- the ends of the clamp: narrow 1 to 254, 4 to 1019, 16 to 4079 (A2); full 0 .. 2^n - 1; in A1's range 0 to 255, 1023 and, at 12 bits, 4092
abbrev pub printed_low : Range → ℕ → ℕ
printed_low Narrow n = at_depth n 1 4 16
printed_low Full n = 0
printed_low LegacyFull n = 0

abbrev pub printed_high : Range → ℕ → ℕ
printed_high Narrow n = at_depth n 254 1019 4079
printed_high Full n = 2 ^ n - 1
printed_high LegacyFull n = at_depth n 255 1023 4092

-- a code within them
abbrev pub WithinEnds : Range → ℕ → ℕ → Type 0
WithinEnds r n c = (printed_low r n ≤ c) × (c ≤ printed_high r n)

-- the end that a code outside them is nearer to
abbrev pub nearer_end : Range → ℕ → ℕ → ℕ
nearer_end r n c = cond (ltb c (printed_low r n)) (printed_low r n) (printed_high r n)

-- the codes that demand 2's return leaves out: narrow ones outside s .. 255s - 1 (A2), and 4093 to 4095 of 12 bits in range 3 (A1)
abbrev pub excluded : Range → ℕ → ℕ → Bool
excluded Narrow n c = let s = step_of n in not (leb s c && leb c (255 * s - 1))
excluded Full n c = false
excluded LegacyFull n c = eqb n 12 && leb 4093 c
