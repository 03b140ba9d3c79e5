-- Document 01, "Codes and floats", with request A1's range 3 and A2's narrow ends: one record for each range, depth and kind. Assumes nothing.
use Rattle.std.specs.Prelude.{ℕ, ◌-◌, ◌*◌, ◌^◌, cond, eqb}
use Rattle.parameters.specs.declared.range.Range.{Range}
use Rattle.parameters.specs.declared.range.Range.TheVariants.{Narrow, Full, LegacyFull}
use Rattle.parameters.specs.declared.kind.Kind.{Kind}
use Rattle.parameters.specs.declared.kind.Kind.TheVariants.{Brightness, Difference}
use Rattle.parameters.specs.Parameters.{step_of, top_of}
use Rattle.scale.specs.declared.Scale.{Scale}
use Rattle.scale.specs.declared.Rounding.TheVariants.{HalfUp, HalfAway}

-- the ends that a code is clamped to: narrow s .. 255s - 1 (A2), full 0 .. 2^n - 1, and in the older full range 4092 at 12 bits (A1: 255, 1023 and 4092)
abbrev pub low_end : Range → ℕ → ℕ
low_end Narrow n = step_of n
low_end Full n = 0
low_end LegacyFull n = 0

abbrev pub high_end : Range → ℕ → ℕ
high_end Narrow n = 255 * step_of n - 1
high_end Full n = top_of n
high_end LegacyFull n = cond (eqb n 12) 4092 (top_of n)

-- A code c, of 0 .. top, stands for (c - base) / span, and a value v gets the code span * v + base, rounded and clamped to low .. high.
unfoldable pub scale_of : Range → ℕ → Kind → Scale
scale_of Narrow n Brightness = record { base = 16 * step_of n; span = 219 * step_of n; top = top_of n; low = low_end Narrow n; high = high_end Narrow n; rounding = HalfUp }
scale_of Narrow n Difference = record { base = 128 * step_of n; span = 224 * step_of n; top = top_of n; low = low_end Narrow n; high = high_end Narrow n; rounding = HalfUp }
scale_of Full n Brightness = record { base = 0; span = top_of n; top = top_of n; low = low_end Full n; high = high_end Full n; rounding = HalfAway }
scale_of Full n Difference = record { base = 2 ^ (n - 1); span = top_of n; top = top_of n; low = low_end Full n; high = high_end Full n; rounding = HalfAway }
scale_of LegacyFull n Brightness = record { base = 0; span = 2 ^ n; top = top_of n; low = low_end LegacyFull n; high = high_end LegacyFull n; rounding = HalfUp }
scale_of LegacyFull n Difference = record { base = 2 ^ (n - 1); span = 2 ^ n; top = top_of n; low = low_end LegacyFull n; high = high_end LegacyFull n; rounding = HalfUp }
