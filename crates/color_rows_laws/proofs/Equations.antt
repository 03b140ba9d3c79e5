-- The rows are the equations: the whole part of a row is the code of the exact fraction, channel by channel. Assumes nothing.
use mathlib.Core.Path.{◌≡◌, refl, sym, ap, ap₂, ◌∙◌}
use mathlib.Core.Bool.{true}
use Prim.Native.Nat.{ℕ, ◌+◌, ◌-◌, ◌*◌, ◌/◌, ◌≤◌, ◌<◌}
use native.Mathlib.Nat.{mul_assoc, mul_left_comm, mul-add, add-mul, mul-pos, mul-div-mul_right}
use native.Mathlib.Omega.{arith}
use lib.Dec.{lit<}
use Rattle.parameters.specs.declared.range.Range.{Range}
use Rattle.parameters.specs.declared.range.Range.TheVariants.{Narrow, Full, LegacyFull}
use Rattle.parameters.specs.declared.kind.Kind.TheVariants.{Brightness, Difference}
use Rattle.parameters.proofs.Depths.{Steps}
use Rattle.fractions.specs.Fraction.{Fraction, bounded}
use Rattle.fractions.proofs.Cuts.{outside, outside_same}
use Rattle.fractions.proofs.Same.{Is, is_also}
use Rattle.floats.specs.declared.Ends.{Ends}
use Rattle.scale.specs.declared.Scale.{Scale}
use Rattle.scale.specs.Scale.{scale_of}
use Rattle.float_scale.specs.inner.Floats.{strictly, ends_of}
use Rattle.quantization.specs.Code.{code_of_value}
use Rattle.quantization.proofs.Codes.{clamped_is}
use Rattle.color_equations.specs.declared.weights.Weights.{Weights}
use Rattle.color_equations.specs.Weights.{green_of}
use Rattle.color_equations.specs.Equations.{luma_of, chroma_of, primary_of, green_from}
use Rattle.color_equations.specs.Conversion.{brightness, difference}
use Rattle.color_equations.proofs.Whole.{luma-whole, luma-den, cb_whole, cr_whole, chroma-den, primary_whole, primary_den, green-whole, green-den}
use Rattle.color_numbers.specs.declared.spread.Spread.{Spread}
use Rattle.color_numbers.specs.inner.Spread.{spread_of}
use Rattle.color_numbers.specs.inner.Sizes.{SmallWeights}
use Rattle.color_numbers.proofs.Spreads.{spread_small}
use Rattle.color_rows.specs.declared.linear.Value.{Value}
use Rattle.color_rows.specs.inner.Rows.{coded_of, code_row, luma_value, cb_value, cr_value, red_value, green_value, blue_value}
use Rattle.color_rows.proofs.Sizes.{brightness_small, difference_small}
use Rattle.color_rows_laws.proofs.Rows.{plus_at, minus_at, clamped_by, clamped_at}

-- ---- a value's row

-- a sum of a row, with the span taken out
taken_out : (span a b c d x y z : ℕ) → span * a * x + span * b * y + span * c * z + span * d ≡ span * (a * x + b * y + c * z + d)
taken_out span a b c d x y z =
    let all = mul-add span (a * x + b * y + c * z) d ∙ ap (λ (m : ℕ). m + span * d) (mul-add span (a * x + b * y) (c * z) ∙ ap (λ (m : ℕ). m + span * (c * z)) (mul-add span (a * x) (b * y))) in
    omega (arith, mul_assoc span a x, mul_assoc span b y, mul_assoc span c z, all)

module _ (v : Value) (sc : Scale) (x y z : ℕ) where
  abbrev P : ℕ
  P = plus_at v.sum x y z

  abbrev M : ℕ
  M = minus_at v.sum x y z

  abbrev half : ℕ
  half = (2 * sc.base + 1) * v.half

  plus_is : plus_at (code_row v sc).sum x y z ≡ sc.span * P + half
  unfolding coded_of
  plus_is = omega (arith, taken_out sc.span v.sum.plus0 v.sum.plus1 v.sum.plus2 v.sum.plus x y z)

  minus_is : minus_at (code_row v sc).sum x y z ≡ sc.span * M
  unfolding coded_of
  minus_is = taken_out sc.span v.sum.minus0 v.sum.minus1 v.sum.minus2 v.sum.minus x y z

  -- twice the numbers of the row are those of the code
  abbrev twice_plus : ℕ
  twice_plus = 2 * (sc.span * P + sc.base * (2 * v.half)) + 2 * v.half

  doubled : (sc.span * P + half - sc.span * M) * 2 ≡ twice_plus - 2 * (sc.span * M)
  doubled = let e = add-mul (2 * sc.base) 1 v.half in omega (arith, e, mul_assoc 2 sc.base v.half, mul_left_comm sc.base 2 v.half)

  -- and 4096 above
  above : (sc.span * P + half + 4096 * (2 * v.half) - sc.span * M) * 2 ≡ twice_plus + 4096 * (2 * (2 * v.half)) - 2 * (sc.span * M)
  above = let e = add-mul (2 * sc.base) 1 v.half in omega (arith, e, mul_assoc 2 sc.base v.half, mul_left_comm sc.base 2 v.half)

  abbrev E : Ends
  E = ends_of sc

  -- the whole part of a value's row is its code, and it is cut where the code is
  channel : (strictly sc.rounding ≡ true → sc.low ≡ 0) → (f : Fraction) (p n c : ℕ) → P ≡ p → M ≡ n → 2 * v.half ≡ c → 0 < c → 0 < f.den → Is f p n c
      → clamped_at (code_row v sc) x y z ≡ code_of_value sc f
  unfolding coded_of
  channel zero f p n c ep en ec C D e =
      ap₂ (clamped_by E (2 * v.half)) plus_is minus_is
      ∙ (λ i. record { code = bounded sc.low sc.high (code i); cut = cuts i })
      ∙ sym (clamped_is sc zero (is_also P M (2 * v.half) (ap₂ (λ (i j : ℕ). i + j) (sym ep) en) (sym ec) e) D (omega arith))
    where
      code : (sc.span * P + half - sc.span * M) / (2 * v.half) ≡ (twice_plus - 2 * (sc.span * M)) / (2 * (2 * v.half))
      code = sym (mul-div-mul_right (sc.span * P + half - sc.span * M) (2 * v.half) (lit< tt)) ∙ ap₂ (λ (s t : ℕ). s / t) doubled (omega arith)

      cuts : outside E.strict E.low E.high (sc.span * P + half + 4096 * (2 * v.half) - sc.span * M) (2 * v.half)
          ≡ outside E.strict E.low E.high (twice_plus + 4096 * (2 * (2 * v.half)) - 2 * (sc.span * M)) (2 * (2 * v.half))
      cuts =
          let X = sc.span * P + half + 4096 * (2 * v.half) - sc.span * M in
          outside_same E.strict E.low E.high X (2 * v.half) (twice_plus + 4096 * (2 * (2 * v.half)) - 2 * (sc.span * M)) (2 * (2 * v.half)) (omega arith) (omega arith)
          (sym (mul_assoc X 2 (2 * v.half)) ∙ ap (λ (m : ℕ). m * (2 * v.half)) above)

-- ---- both scales of a range over one divisor
record Spreads (r : Range) (n : ℕ) : Type 0 where
  luma : (spread_of r n).luma * (scale_of r n Brightness).span ≡ (spread_of r n).whole
  chroma : (spread_of r n).chroma * (scale_of r n Difference).span ≡ (spread_of r n).whole
  black : (spread_of r n).black ≡ (scale_of r n Brightness).base
  neutral : (spread_of r n).neutral ≡ (scale_of r n Difference).base

spreads : (r : Range) (n : ℕ) → Spreads r n
unfolding scale_of
spreads Narrow n = record { luma = omega arith; chroma = omega arith; black = refl; neutral = refl }
spreads Full n = record { luma = omega arith; chroma = omega arith; black = refl; neutral = refl }
spreads LegacyFull n = record { luma = omega arith; chroma = omega arith; black = refl; neutral = refl }

-- ---- every channel, on any scale of what comes out
module _ (w : Weights) (n : ℕ) (from : Range) (g : SmallWeights w) (h : Steps n) (out : Scale) (zero : strictly out.rounding ≡ true → out.low ≡ 0) where
  K : w.red + w.blue ≤ 10000
  K = omega (arith, g.red, g.blue)

  module _ (r y b : ℕ) where
    abbrev sc : Scale
    sc = scale_of from n Brightness

    abbrev R : Fraction
    R = brightness from n r

    abbrev G : Fraction
    G = brightness from n y

    abbrev B : Fraction
    B = brightness from n b

    some : 0 < sc.span
    some = (brightness_small from n h).some

    pub luma_row : clamped_at (code_row (luma_value w sc) out) r y b ≡ code_of_value out (luma_of w R G B)
    unfolding luma_value
    luma_row =
        channel (luma_value w sc) out r y b zero (luma_of w R G B) (w.red * r + green_of w * y + w.blue * b) (10000 * sc.base) (10000 * sc.span)
        (omega arith) (omega arith) (omega arith) (omega (arith, some)) (luma-den w R G B some some some) (luma-whole w K r y b sc.base sc.span)

    pub cb_row : clamped_at (code_row (cb_value w sc) out) r y b ≡ code_of_value out (chroma_of w.blue B (luma_of w R G B))
    unfolding cb_value
    cb_row =
        channel (cb_value w sc) out r y b zero (chroma_of w.blue B (luma_of w R G B)) ((10000 - w.blue) * b) (w.red * r + green_of w * y) (2 * (10000 - w.blue) * sc.span)
        (omega arith) (omega arith) (sym (mul_assoc 2 (10000 - w.blue) sc.span)) (mul-pos {m = 2 * (10000 - w.blue)} (omega (arith, g.blue)) some) (chroma-den w.blue B (luma_of w R G B) (omega (arith, g.blue)) some (luma-den w R G B some some some))
        (cb_whole w K r y b sc.base sc.span)

    pub cr_row : clamped_at (code_row (cr_value w sc) out) r y b ≡ code_of_value out (chroma_of w.red R (luma_of w R G B))
    unfolding cr_value
    cr_row =
        channel (cr_value w sc) out r y b zero (chroma_of w.red R (luma_of w R G B)) ((10000 - w.red) * r) (green_of w * y + w.blue * b) (2 * (10000 - w.red) * sc.span)
        (omega arith) (omega arith) (sym (mul_assoc 2 (10000 - w.red) sc.span)) (mul-pos {m = 2 * (10000 - w.red)} (omega (arith, g.red)) some) (chroma-den w.red R (luma_of w R G B) (omega (arith, g.red)) some (luma-den w R G B some some some))
        (cr_whole w K r y b sc.base sc.span)

  module _ (y cb cr : ℕ) where
    abbrev sp : Spread
    sp = spread_of from n

    abbrev luma : Scale
    luma = scale_of from n Brightness

    abbrev chroma : Scale
    chroma = scale_of from n Difference

    abbrev Y : Fraction
    Y = brightness from n y

    abbrev CB : Fraction
    CB = difference from n cb

    abbrev CR : Fraction
    CR = difference from n cr

    of_luma : 0 < luma.span
    of_luma = (brightness_small from n h).some

    of_chroma : 0 < chroma.span
    of_chroma = (difference_small from n h).some

    divides : 0 < sp.whole
    divides = (spread_small from n h).some

    pub red_row : clamped_at (code_row (red_value w sp) out) y cb cr ≡ code_of_value out (primary_of w.red Y CR)
    unfolding red_value
    red_row =
        channel (red_value w sp) out y cb cr zero (primary_of w.red Y CR) (10000 * sp.luma * y + 2 * (10000 - w.red) * sp.chroma * cr) (10000 * sp.luma * luma.base + 2 * (10000 - w.red) * sp.chroma * chroma.base) (10000 * sp.whole)
        (omega arith) (rw ((spreads from n).black, (spreads from n).neutral) (omega arith)) (omega arith) (omega (arith, divides)) (primary_den w.red Y CR of_luma of_chroma)
        (primary_whole y luma.base luma.span chroma.base chroma.span sp.luma sp.chroma sp.whole (spreads from n).luma (spreads from n).chroma w.red cr)

    pub blue_row : clamped_at (code_row (blue_value w sp) out) y cb cr ≡ code_of_value out (primary_of w.blue Y CB)
    unfolding blue_value
    blue_row =
        channel (blue_value w sp) out y cb cr zero (primary_of w.blue Y CB) (10000 * sp.luma * y + 2 * (10000 - w.blue) * sp.chroma * cb) (10000 * sp.luma * luma.base + 2 * (10000 - w.blue) * sp.chroma * chroma.base) (10000 * sp.whole)
        (omega arith) (rw ((spreads from n).black, (spreads from n).neutral) (omega arith)) (omega arith) (omega (arith, divides)) (primary_den w.blue Y CB of_luma of_chroma)
        (primary_whole y luma.base luma.span chroma.base chroma.span sp.luma sp.chroma sp.whole (spreads from n).luma (spreads from n).chroma w.blue cb)

    pub green_row_lem : clamped_at (code_row (green_value w sp) out) y cb cr ≡ code_of_value out (green_from w Y (primary_of w.red Y CR) (primary_of w.blue Y CB))
    unfolding green_value
    green_row_lem =
        let kg : 0 < green_of w = omega (arith, g.red, g.blue) in
        channel (green_value w sp) out y cb cr zero (green_from w Y (primary_of w.red Y CR) (primary_of w.blue Y CB))
        (10000 * green_of w * sp.luma * y + (2 * w.blue * (10000 - w.blue) + 2 * w.red * (10000 - w.red)) * sp.chroma * chroma.base)
        (10000 * green_of w * sp.luma * luma.base + 2 * w.blue * (10000 - w.blue) * sp.chroma * cb + 2 * w.red * (10000 - w.red) * sp.chroma * cr)
        (10000 * green_of w * sp.whole)
        (rw (spreads from n).neutral (omega arith)) (rw (spreads from n).black (omega arith)) (twice (green_of w) sp.whole) (mul-pos {m = 10000 * green_of w} (omega arith) divides)
        (green-den w Y (primary_of w.red Y CR) (primary_of w.blue Y CB) kg of_luma (primary_den w.red Y CR of_luma of_chroma) (primary_den w.blue Y CB of_luma of_chroma))
        (green-whole y luma.base luma.span chroma.base chroma.span sp.luma sp.chroma sp.whole (spreads from n).luma (spreads from n).chroma w K cb cr)
      where
        twice : (k l : ℕ) → 2 * (5000 * k * l) ≡ 10000 * k * l
        twice k l = omega (arith, mul_assoc 5000 k l, mul_assoc 10000 k l)
