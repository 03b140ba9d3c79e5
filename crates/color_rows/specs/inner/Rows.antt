-- The code's own arithmetic, on natural numbers and then in f64. A reader need not believe it: crates/color_rows_laws shows that it is `ycbcr_of` and `rgb_of`. Assumes nothing.
use Rattle.std.specs.Prelude.{ℕ, ◌+◌, ◌-◌, ◌*◌, pos, ◌-ℤ◌, Float}
use Rattle.std.specs.Float.{binary64}
use Rattle.std.specs.Float.Ieee.{of_int}
use Rattle.parameters.specs.declared.range.Range.{Range}
use Rattle.parameters.specs.declared.range.Range.TheVariants.{Narrow, Full, LegacyFull}
use Rattle.parameters.specs.declared.kind.Kind.TheVariants.{Brightness, Difference}
use Rattle.parameters.specs.Parameters.{bits_of}
use Rattle.scale.specs.declared.Scale.{Scale}
use Rattle.scale.specs.Scale.{scale_of}
use Rattle.floats.specs.inner.Floor.{in_floats}
use Rattle.float_scale.specs.inner.Floats.{ends_of}
use Rattle.color_equations.specs.declared.weights.Weights.{Weights}
use Rattle.color_equations.specs.Weights.{green_of}
use Rattle.color_line.specs.declared.row.FloatRow.{FloatRow}
use Rattle.parameters.specs.declared.channels.Channels.{Channels}
use Rattle.color_numbers.specs.declared.Numbers.{Numbers}
use Rattle.color_numbers.specs.declared.spread.Spread.{Spread}
use Rattle.color_numbers.specs.inner.Spread.{spread_of}
use Rattle.color_numbers.specs.inner.Green.{ratio_of}
use Rattle.color_rows.specs.declared.linear.Value.{Value}
use Rattle.color_rows.specs.declared.linear.Row.{Row}
use Rattle.color_rows.specs.inner.Green.{narrow_green_value}

-- ---- rows

-- of a value on a scale, half a code more: 1/2 + span * value + base. It serves every range: the paper's two roundings differ only below 0, where both clamp to the low end, and what they take to be cut there the scale's ends tell.
unfoldable pub coded_of : Value → ℕ → Scale → Row
coded_of v span sc =
    record {
      sum = record {
        plus0 = span * v.sum.plus0;
        plus1 = span * v.sum.plus1;
        plus2 = span * v.sum.plus2;
        plus = span * v.sum.plus + (2 * sc.base + 1) * v.half;
        minus0 = span * v.sum.minus0;
        minus1 = span * v.sum.minus1;
        minus2 = span * v.sum.minus2;
        minus = span * v.sum.minus;
      };
      over = 2 * v.half;
      ends = ends_of sc;
    }

-- on the scale's own span
abbrev pub code_row : Value → Scale → Row
code_row v sc = coded_of v sc.span sc

-- plus - minus as an f64
abbrev pub difference_of : ℕ → ℕ → Float
difference_of plus minus = of_int binary64 (pos plus -ℤ pos minus)

-- a row in f64, 4096 above its fraction
unfoldable pub floats_of : Row → FloatRow
floats_of r =
    record {
      first = difference_of r.sum.plus0 r.sum.minus0;
      second = difference_of r.sum.plus1 r.sum.minus1;
      third = difference_of r.sum.plus2 r.sum.minus2;
      more = difference_of (r.sum.plus + 4096 * r.over) r.sum.minus;
      over = of_int binary64 (pos r.over);
      ends = in_floats r.ends;
    }

-- ---- to Y'CbCr, from a scale of R', G', B'

unfoldable pub luma_value : Weights → Scale → Value
luma_value w sc =
    record {
      sum = record { plus0 = w.red; plus1 = green_of w; plus2 = w.blue; plus = 0; minus0 = 0; minus1 = 0; minus2 = 0; minus = 10000 * sc.base };
      half = 5000 * sc.span;
    }

unfoldable pub cb_value : Weights → Scale → Value
cb_value w sc =
    record {
      sum = record { plus0 = 0; plus1 = 0; plus2 = 10000 - w.blue; plus = 0; minus0 = w.red; minus1 = green_of w; minus2 = 0; minus = 0 };
      half = (10000 - w.blue) * sc.span;
    }

unfoldable pub cr_value : Weights → Scale → Value
cr_value w sc =
    record {
      sum = record { plus0 = 10000 - w.red; plus1 = 0; plus2 = 0; plus = 0; minus0 = 0; minus1 = green_of w; minus2 = w.blue; minus = 0 };
      half = (10000 - w.red) * sc.span;
    }

-- the three rows
unfoldable pub ycbcr_rows : Numbers → Channels FloatRow
unfolding coded_of floats_of luma_value cb_value cr_value
ycbcr_rows m =
    let n = bits_of m.depth in
    let rgb = scale_of m.from n Brightness in
    let y = scale_of m.to n Brightness in
    let c = scale_of m.to n Difference in
    record { channel0 = floats_of (code_row (luma_value m.weights rgb) y); channel1 = floats_of (code_row (cb_value m.weights rgb) c); channel2 = floats_of (code_row (cr_value m.weights rgb) c) }

-- ---- to R'G'B'

unfoldable pub red_value : Weights → Spread → Value
red_value w s =
    record {
      sum = record {
        plus0 = 10000 * s.luma;
        plus1 = 0;
        plus2 = 2 * (10000 - w.red) * s.chroma;
        plus = 0;
        minus0 = 0;
        minus1 = 0;
        minus2 = 0;
        minus = 10000 * s.luma * s.black + 2 * (10000 - w.red) * s.chroma * s.neutral;
      };
      half = 5000 * s.whole;
    }

unfoldable pub blue_value : Weights → Spread → Value
blue_value w s =
    record {
      sum = record {
        plus0 = 10000 * s.luma;
        plus1 = 2 * (10000 - w.blue) * s.chroma;
        plus2 = 0;
        plus = 0;
        minus0 = 0;
        minus1 = 0;
        minus2 = 0;
        minus = 10000 * s.luma * s.black + 2 * (10000 - w.blue) * s.chroma * s.neutral;
      };
      half = 5000 * s.whole;
    }

-- the equation as it stands
unfoldable pub green_value : Weights → Spread → Value
green_value w s =
    record {
      sum = record {
        plus0 = 10000 * green_of w * s.luma;
        plus1 = 0;
        plus2 = 0;
        plus = (2 * w.blue * (10000 - w.blue) + 2 * w.red * (10000 - w.red)) * s.chroma * s.neutral;
        minus0 = 0;
        minus1 = 2 * w.blue * (10000 - w.blue) * s.chroma;
        minus2 = 2 * w.red * (10000 - w.red) * s.chroma;
        minus = 10000 * green_of w * s.luma * s.black;
      };
      half = 5000 * green_of w * s.whole;
    }

-- its row
abbrev pub plain_green_row : Range → Numbers → Row
plain_green_row from m = let n = bits_of m.depth in code_row (green_value m.weights (spread_of from n)) (scale_of m.to n Brightness)

-- out of narrow range in lowest terms, and out of a full range as the equation stands
unfoldable pub green_row_from : Range → Numbers → Row
unfolding coded_of green_value narrow_green_value
green_row_from Narrow m =
    let n = bits_of m.depth in
    let ratio = ratio_of m.to m.depth in
    coded_of (narrow_green_value m.green (spread_of Narrow n) ratio) ratio.span (scale_of m.to n Brightness)
green_row_from Full m = plain_green_row Full m
green_row_from LegacyFull m = plain_green_row LegacyFull m

abbrev pub green_row : Numbers → Row
green_row m = green_row_from m.from m

-- the three rows
unfoldable pub rgb_rows : Numbers → Channels FloatRow
unfolding coded_of floats_of red_value blue_value green_row_from
rgb_rows m =
    let n = bits_of m.depth in
    let from = spread_of m.from n in
    let out = scale_of m.to n Brightness in
    record { channel0 = floats_of (code_row (red_value m.weights from) out); channel1 = floats_of (green_row m); channel2 = floats_of (code_row (blue_value m.weights from) out) }
