-- How large the numbers of a row can be: an f64 holds them all. Assumes nothing.
use mathlib.Core.Path.{◌≡◌, sym, ap, ◌∙◌}
use Prim.Native.Nat.{ℕ, ◌+◌, ◌-◌, ◌*◌, ◌^◌, ◌≤◌, ◌<◌}
use native.Mathlib.Nat.{le_trans, le_of_eq, mul-le-mul, mul-le-mul_left, mul-one, mul-pos, mul-add, add-mul}
use native.Mathlib.Omega.{arith}
use lib.Dec.{T, lit≤, lit<, le→leb}
use lib.IntN.{pos}
use lib.Ieee.{binary64, in_float}
use Rattle.parameters.specs.declared.range.Range.{Range}
use Rattle.parameters.specs.declared.range.Range.TheVariants.{Narrow, Full, LegacyFull}
use Rattle.parameters.specs.declared.depth.Depth.{Depth}
use Rattle.parameters.specs.declared.depth.Depth.TheVariants.{Eight, Ten, Twelve}
use Rattle.parameters.specs.declared.kind.Kind.{Kind}
use Rattle.parameters.specs.declared.kind.Kind.TheVariants.{Brightness, Difference}
use Rattle.parameters.specs.Parameters.{bits_of, top_of}
use Rattle.parameters.proofs.Depths.{Steps, depth_steps}
use Rattle.scale.specs.declared.Scale.{Scale}
use Rattle.scale.specs.Scale.{scale_of}
use Rattle.float_scale.proofs.Fine.{fine}
use Rattle.color_equations.specs.declared.weights.Weights.{Weights}
use Rattle.color_equations.specs.Weights.{green_of}
use Rattle.color_numbers.specs.declared.green.GreenTerms.{GreenTerms}
use Rattle.color_numbers.specs.declared.green.Ratio.{Ratio}
use Rattle.color_numbers.specs.declared.spread.Spread.{Spread}
use Rattle.color_numbers.specs.declared.Numbers.{Numbers}
use Rattle.color_numbers.specs.inner.Green.{ratio_of}
use Rattle.color_numbers.specs.inner.Spread.{spread_of}
use Rattle.color_numbers.specs.inner.Sizes.{SmallWeights, SmallGreen, SmallNumbers, SmallSpread, FullSpread}
use Rattle.color_numbers.proofs.Table.{ratio_small}
use Rattle.color_numbers.proofs.Spreads.{full_spread_lem, legacy_spread, spread_small}
use Rattle.color_rows.specs.declared.linear.Value.{Value}
use Rattle.color_rows.specs.declared.linear.Row.{Row}
use Rattle.color_rows.specs.inner.Green.{narrow_green_value}
use Rattle.color_rows.specs.inner.Rows.{coded_of, code_row, luma_value, cb_value, cr_value, red_value, blue_value, green_value, plain_green_row, green_row_from, green_row}
use Rattle.color_rows.specs.inner.Sizes.{Small, Fits, SmallScale}

-- a whole number that an f64 holds
pub held : (k : ℕ) → k ≤ 2 ^ 53 → T (in_float binary64 (pos k))
unfolding in_float
held k h = le→leb k (2 ^ 53) h

-- ---- a value's row

-- the coefficients of a value, and its constants
abbrev coefficients : Value → ℕ
coefficients v = v.sum.plus0 + v.sum.minus0 + (v.sum.plus1 + v.sum.minus1) + (v.sum.plus2 + v.sum.minus2)

abbrev constants : Value → ℕ
constants v = v.sum.plus + v.sum.minus

-- a span times a sum of six, times the top
spread_out : (span a b c d e f top : ℕ) → (span * a + span * b) * top + (span * c + span * d) * top + (span * e + span * f) * top ≡ span * (a + b + (c + d) + (e + f)) * top
spread_out span a b c d e f top =
    let g = mul-add span (a + b + (c + d)) (e + f) in
    let h = mul-add span (a + b) (c + d) in
    let i = mul-add span a b in
    let j = mul-add span c d in
    let k = mul-add span e f in
    let all : span * (a + b + (c + d) + (e + f)) ≡ span * a + span * b + (span * c + span * d) + (span * e + span * f) = omega (arith, g, h, i, j, k) in
    sym (ap (λ (m : ℕ). m * top) all ∙ add-mul (span * a + span * b + (span * c + span * d)) (span * e + span * f) top ∙ ap (λ (m : ℕ). m + (span * e + span * f) * top) (add-mul (span * a + span * b) (span * c + span * d) top))

-- the row fits by bounds on the value's numbers, the span, the scale's base and the top
module _ (v : Value) (span : ℕ) (sc : Scale) (top : ℕ) where
  pub coded_fits : (A C H S B T : ℕ) → coefficients v ≤ A → constants v ≤ C → 0 < v.half → v.half ≤ H → span ≤ S → sc.base ≤ B → top ≤ T → sc.low ≤ sc.high → sc.high ≤ 4095
      → 2 * H ≤ 2 ^ 40 → S * A * T + S * C + (2 * B + 1) * H + 8192 * H ≤ 2 ^ 53 → Fits (coded_of v span sc) top
  unfolding coded_of
  coded_fits A C H S B T a c some h s b t ends high over all =
      let x : span * coefficients v * top ≤ S * A * T = mul-le-mul (mul-le-mul s a) t in
      let y : span * constants v ≤ S * C = mul-le-mul s c in
      let z : (2 * sc.base + 1) * v.half ≤ (2 * B + 1) * H = mul-le-mul {n₂ = 2 * B + 1} (omega arith) h in
      let e = spread_out span v.sum.plus0 v.sum.minus0 v.sum.plus1 v.sum.minus1 v.sum.plus2 v.sum.minus2 top in
      let f = mul-add span v.sum.plus v.sum.minus in
      record { some = omega arith; over = omega arith; sums = omega (arith, x, y, z, e, f, h, all); ends = ends; high = high }

-- what fits at some code is small
once_le : (a top : ℕ) → 1 ≤ top → a ≤ a * top
once_le a top h = le_trans (le_of_eq (sym (mul-one a))) (mul-le-mul_left a h)

small : (r : Row) (top : ℕ) → 1 ≤ top → Fits r top → Small r
small r top t f =
    let a = once_le (r.sum.plus0 + r.sum.minus0) top t in
    let b = once_le (r.sum.plus1 + r.sum.minus1) top t in
    let c = once_le (r.sum.plus2 + r.sum.minus2) top t in
    record { all = omega (arith, a, b, c, f.sums) }

-- ---- the paper's scales and spreads, once over the depth n

-- a scale is small by its base
by-base : (r : Range) (k : Kind) (n most : ℕ) → Steps n → (scale_of r n k).base ≤ most → SmallScale (scale_of r n k) most
by-base r k n most s base = let f = fine r k n s in record { some = f.some; span = f.span; base = base; ends = f.order; high = f.high }

difference-base : (r : Range) (n : ℕ) → Steps n → (scale_of r n Difference).base ≤ 2048
unfolding scale_of
difference-base Narrow n s = omega (arith, s)
difference-base Full n s = omega (arith, s)
difference-base LegacyFull n s = omega (arith, s)

brightness-base : (r : Range) (n : ℕ) → Steps n → (scale_of r n Brightness).base ≤ 256
unfolding scale_of
brightness-base Narrow n s = omega (arith, s)
brightness-base Full n s = omega arith
brightness-base LegacyFull n s = omega arith

pub difference_small : (r : Range) (n : ℕ) → Steps n → SmallScale (scale_of r n Difference) 2048
difference_small r n s = by-base r Difference n 2048 s (difference-base r n s)

pub brightness_small : (r : Range) (n : ℕ) → Steps n → SmallScale (scale_of r n Brightness) 256
brightness_small r n s = by-base r Brightness n 256 s (brightness-base r n s)

pub top_most : (n : ℕ) → Steps n → top_of n ≤ 4095
top_most n s = omega (arith, s)

pub top_least : (n : ℕ) → Steps n → 1 ≤ top_of n
top_least n s = omega (arith, s)

-- ---- products

-- what a weight leaves of 1, times a number
pub rest_by : (k x most : ℕ) → x ≤ most → (10000 - k) * x ≤ 10000 * most
rest_by k x most h = mul-le-mul {n₂ = 10000} (omega arith) h

module _ (s : Spread) (h : SmallSpread s) where
  pub luma-black : 10000 * s.luma * s.black ≤ 2240000 * 256
  luma-black = mul-le-mul {n₂ = 2240000} (omega (arith, h.luma)) h.black

  pub chroma_le : (k : ℕ) → 2 * (10000 - k) * s.chroma ≤ 20000 * 224
  chroma_le k = mul-le-mul {n₂ = 20000} (omega arith) h.chroma

  pub chroma-neutral : (k : ℕ) → 2 * (10000 - k) * s.chroma * s.neutral ≤ 4480000 * 2048
  chroma-neutral k = mul-le-mul {n₂ = 4480000} (omega (arith, chroma_le k)) h.neutral

module _ (w : Weights) (s : Spread) (g : SmallWeights w) (h : FullSpread s) where
  pub green-luma : 10000 * green_of w * s.luma ≤ 100000000 * 1
  green-luma = mul-le-mul {n₂ = 100000000} (omega arith) h.luma

  pub green-black : 10000 * green_of w * s.luma * s.black ≤ 100000000 * 0
  green-black = mul-le-mul {n₂ = 100000000} (omega (arith, green-luma)) h.black

  pub green-half : 5000 * green_of w * s.whole ≤ 50000000 * 4096
  green-half = mul-le-mul {n₂ = 50000000} (omega arith) h.whole

  pub of_red_lem : 2 * w.red * (10000 - w.red) ≤ 5980 * 10000
  of_red_lem = mul-le-mul {n₂ = 5980} {m₂ = 10000} (omega (arith, g.red)) (omega arith)

  pub of_blue_lem : 2 * w.blue * (10000 - w.blue) ≤ 2280 * 10000
  of_blue_lem = mul-le-mul {n₂ = 2280} {m₂ = 10000} (omega (arith, g.blue)) (omega arith)

  pub red-chroma : 2 * w.red * (10000 - w.red) * s.chroma ≤ 59800000 * 1
  red-chroma = mul-le-mul {n₂ = 59800000} (omega (arith, of_red_lem)) h.chroma

  pub blue-chroma : 2 * w.blue * (10000 - w.blue) * s.chroma ≤ 22800000 * 1
  blue-chroma = mul-le-mul {n₂ = 22800000} (omega (arith, of_blue_lem)) h.chroma

  pub both_chroma : (2 * w.blue * (10000 - w.blue) + 2 * w.red * (10000 - w.red)) * s.chroma ≤ 82600000 * 1
  both_chroma = mul-le-mul {n₂ = 82600000} (omega (arith, of_blue_lem, of_red_lem)) h.chroma

  pub both_neutral : (2 * w.blue * (10000 - w.blue) + 2 * w.red * (10000 - w.red)) * s.chroma * s.neutral ≤ 82600000 * 2048
  both_neutral = mul-le-mul {n₂ = 82600000} (omega (arith, both_chroma)) h.neutral

module _ (g : GreenTerms) (s : Spread) (h : SmallGreen g) where
  pub terms_neutral : (most : ℕ) → s.neutral ≤ most → (g.blue + g.red) * s.neutral ≤ 1821147206 * most
  terms_neutral most n = mul-le-mul {n₂ = 1821147206} (omega (arith, h.blue, h.red)) n

  pub terms_black : (most : ℕ) → s.black ≤ most → g.luma * s.black ≤ 2531200000 * most
  terms_black most b = mul-le-mul h.luma b

  pub terms_half : (whole most : ℕ) → whole ≤ most → g.half * whole ≤ 13198400000 * most
  terms_half whole most w = mul-le-mul h.half w

-- ---- every row fits

module _ (w : Weights) (from to : Scale) (top : ℕ) (g : SmallWeights w) (h : SmallScale from 256) (t : top ≤ 4095) where
  pub luma-fits : SmallScale to 256 → Fits (code_row (luma_value w from) to) top
  unfolding luma_value
  luma-fits k = coded_fits (luma_value w from) to.span to top 10000 2560000 20480000 4096 256 4095 (omega (arith, g.red, g.blue)) (omega (arith, h.base)) (omega (arith, h.some)) (omega (arith, h.span)) k.span k.base t k.ends k.high (lit≤ tt) (lit≤ tt)

  pub cb_fits : SmallScale to 2048 → Fits (code_row (cb_value w from) to) top
  unfolding cb_value
  cb_fits k =
      coded_fits (cb_value w from) to.span to top 20000 0 40960000 4096 2048 4095 (omega (arith, g.red, g.blue)) (omega arith) (mul-pos {m = 10000 - w.blue} (omega (arith, g.blue)) h.some) (rest_by w.blue from.span 4096 h.span) k.span k.base t k.ends k.high (lit≤ tt) (lit≤ tt)

  pub cr_fits : SmallScale to 2048 → Fits (code_row (cr_value w from) to) top
  unfolding cr_value
  cr_fits k =
      coded_fits (cr_value w from) to.span to top 20000 0 40960000 4096 2048 4095 (omega (arith, g.red, g.blue)) (omega arith) (mul-pos {m = 10000 - w.red} (omega (arith, g.red)) h.some) (rest_by w.red from.span 4096 h.span) k.span k.base t k.ends k.high (lit≤ tt) (lit≤ tt)

module _ (w : Weights) (s : Spread) (to : Scale) (top : ℕ) (g : SmallWeights w) (k : SmallScale to 256) (t : top ≤ 4095) where
  pub red-fits : SmallSpread s → Fits (code_row (red_value w s) to) top
  unfolding red_value
  red-fits h =
      coded_fits (red_value w s) to.span to top 6720000 9748480000 5242880000 4096 256 4095 (omega (arith, h.luma, chroma_le s h w.red)) (omega (arith, luma-black s h, chroma-neutral s h w.red)) (omega (arith, h.some)) (omega (arith, h.whole)) k.span k.base t k.ends k.high (lit≤ tt) (lit≤ tt)

  pub blue-fits : SmallSpread s → Fits (code_row (blue_value w s) to) top
  unfolding blue_value
  blue-fits h =
      coded_fits (blue_value w s) to.span to top 6720000 9748480000 5242880000 4096 256 4095 (omega (arith, h.luma, chroma_le s h w.blue)) (omega (arith, luma-black s h, chroma-neutral s h w.blue)) (omega (arith, h.some)) (omega (arith, h.whole)) k.span k.base t k.ends k.high (lit≤ tt) (lit≤ tt)

  pub green-fits : FullSpread s → Fits (code_row (green_value w s) to) top
  unfolding green_value
  green-fits h =
      coded_fits (green_value w s) to.span to top 182600000 169164800000 204800000000 4096 256 4095
      (omega (arith, green-luma w s g h, blue-chroma w s g h, red-chroma w s g h)) (omega (arith, both_neutral w s g h, green-black w s g h))
      (mul-pos {m = 5000 * green_of w} (omega (arith, g.red, g.blue)) h.some) (green-half w s g h) k.span k.base t k.ends k.high (lit≤ tt) (lit≤ tt)

-- G' out of narrow range: only here are the numbers near their limits, so that the bounds go by the range and depth of what comes out
module _ (g : GreenTerms) (h : SmallGreen g) where
  within : (s : Spread) (r : Ratio) (sc : Scale) (top b n w S B T : ℕ) → s.black ≤ b → s.neutral ≤ n → 0 < r.whole → r.whole ≤ w → r.span ≤ S → sc.base ≤ B → top ≤ T → sc.low ≤ sc.high → sc.high ≤ 4095
      → 2 * (13198400000 * w) ≤ 2 ^ 40 → S * 4352347206 * T + S * (1821147206 * n + 2531200000 * b) + (2 * B + 1) * (13198400000 * w) + 8192 * (13198400000 * w) ≤ 2 ^ 53
      → Fits (coded_of (narrow_green_value g s r) r.span sc) top
  unfolding narrow_green_value
  within s r sc top b n w S B T black neutral some whole span base most ends high over all =
      coded_fits (narrow_green_value g s r) r.span sc top 4352347206 (1821147206 * n + 2531200000 * b) (13198400000 * w) S B T (omega (arith, h.luma, h.red, h.blue))
      (omega (arith, terms_neutral g s h n neutral, terms_black g s h b black)) (mul-pos h.some some) (terms_half g s h r.whole w whole) span base most ends high over all

  -- where one ratio serves every depth, so do the bounds of 12 bits
  at_12_bits : (to : Range) (d : Depth) (w S : ℕ) → (ratio_of to d).whole ≤ w → (ratio_of to d).span ≤ S
      → 2 * (13198400000 * w) ≤ 2 ^ 40 → S * 4352347206 * 4095 + S * (1821147206 * 2048 + 2531200000 * 256) + (2 * 256 + 1) * (13198400000 * w) + 8192 * (13198400000 * w) ≤ 2 ^ 53
      → Fits (coded_of (narrow_green_value g (spread_of Narrow (bits_of d)) (ratio_of to d)) (ratio_of to d).span (scale_of to (bits_of d) Brightness)) (top_of (bits_of d))
  at_12_bits to d w S whole span over all =
      let n = bits_of d in
      let s = spread_small Narrow n (depth_steps d) in
      let k = brightness_small to n (depth_steps d) in
      within (spread_of Narrow n) (ratio_of to d) (scale_of to n Brightness) (top_of n) 256 2048 w S 256 4095 s.black s.neutral (ratio_small to d).some whole span k.base (top_most n (depth_steps d)) k.ends k.high over all

  pub narrow_green-fits : (to : Range) (d : Depth) → Fits (coded_of (narrow_green_value g (spread_of Narrow (bits_of d)) (ratio_of to d)) (ratio_of to d).span (scale_of to (bits_of d) Brightness)) (top_of (bits_of d))
  unfolding scale_of
  narrow_green-fits Narrow d = at_12_bits Narrow d 7 73 (lit≤ tt) (lit≤ tt) (lit≤ tt) (lit≤ tt)
  narrow_green-fits Full Eight = within _ _ _ _ 16 128 7 85 0 255 (lit≤ tt) (lit≤ tt) (lit< tt) (lit≤ tt) (lit≤ tt) (lit≤ tt) (lit≤ tt) (lit≤ tt) (lit≤ tt) (lit≤ tt) (lit≤ tt)
  narrow_green-fits Full Ten = within _ _ _ _ 64 512 28 341 0 1023 (lit≤ tt) (lit≤ tt) (lit< tt) (lit≤ tt) (lit≤ tt) (lit≤ tt) (lit≤ tt) (lit≤ tt) (lit≤ tt) (lit≤ tt) (lit≤ tt)
  narrow_green-fits Full Twelve = within _ _ _ _ 256 2048 16 195 0 4095 (lit≤ tt) (lit≤ tt) (lit< tt) (lit≤ tt) (lit≤ tt) (lit≤ tt) (lit≤ tt) (lit≤ tt) (lit≤ tt) (lit≤ tt) (lit≤ tt)
  narrow_green-fits LegacyFull d = at_12_bits LegacyFull d 21 256 (lit≤ tt) (lit≤ tt) (lit≤ tt) (lit≤ tt)

-- ---- every row of a conversion
module _ (m : Numbers) (h : SmallNumbers m) where
  abbrev n : ℕ
  n = bits_of m.depth

  abbrev rgb : Scale
  rgb = scale_of m.from n Brightness

  abbrev y : Scale
  y = scale_of m.to n Brightness

  abbrev c : Scale
  c = scale_of m.to n Difference

  steps : Steps n
  steps = depth_steps m.depth

  pub luma_row_fits : Fits (code_row (luma_value m.weights rgb) y) (top_of n)
  luma_row_fits = luma-fits m.weights rgb y (top_of n) h.weights (brightness_small m.from n steps) (top_most n steps) (brightness_small m.to n steps)

  pub cb_row_fits : Fits (code_row (cb_value m.weights rgb) c) (top_of n)
  cb_row_fits = cb_fits m.weights rgb c (top_of n) h.weights (brightness_small m.from n steps) (top_most n steps) (difference_small m.to n steps)

  pub cr_row_fits : Fits (code_row (cr_value m.weights rgb) c) (top_of n)
  cr_row_fits = cr_fits m.weights rgb c (top_of n) h.weights (brightness_small m.from n steps) (top_most n steps) (difference_small m.to n steps)

  pub red_row_fits : Fits (code_row (red_value m.weights (spread_of m.from n)) y) (top_of n)
  red_row_fits = red-fits m.weights (spread_of m.from n) y (top_of n) h.weights (brightness_small m.to n steps) (top_most n steps) (spread_small m.from n steps)

  pub blue_row_fits : Fits (code_row (blue_value m.weights (spread_of m.from n)) y) (top_of n)
  blue_row_fits = blue-fits m.weights (spread_of m.from n) y (top_of n) h.weights (brightness_small m.to n steps) (top_most n steps) (spread_small m.from n steps)

  full_row_fits : (from : Range) → FullSpread (spread_of from n) → Fits (plain_green_row from m) (top_of n)
  full_row_fits from s = green-fits m.weights (spread_of from n) y (top_of n) h.weights (brightness_small m.to n steps) (top_most n steps) s

  green_from_fits : (from : Range) → Fits (green_row_from from m) (top_of n)
  unfolding green_row_from
  green_from_fits Narrow = narrow_green-fits m.green h.green m.to m.depth
  green_from_fits Full = full_row_fits Full (full_spread_lem n steps)
  green_from_fits LegacyFull = full_row_fits LegacyFull (legacy_spread n steps)

  pub green_row_fits : Fits (green_row m) (top_of n)
  green_row_fits = green_from_fits m.from

  -- and what fits is small
  pub small_row : (r : Row) → Fits r (top_of n) → Small r
  small_row r f = small r (top_of n) (top_least n steps) f
