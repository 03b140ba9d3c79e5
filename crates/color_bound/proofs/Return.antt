-- R'G'B' to Y'CbCr and back: one luma error and less than two chroma errors, each of at most (2k + 1) / 6 codes, are less than k + 1/2 codes. Assumes nothing.
use mathlib.Core.Path.{◌≡◌, refl, ap, subst}
use mathlib.Core.Bool.{true}
use Prim.Native.Nat.{ℕ, ◌+◌, ◌-◌, ◌*◌, ◌≤◌, ◌<◌}
use native.Mathlib.Nat.{mul-pos, mul-le-mul_left, mul-le-mul_right, mul-lt-mul_of_pos_right, eq_of_mul-eq-mul_right}
use native.Mathlib.Omega.{arith}
use borrow.Author.Tests.{ltb-true}
use Rattle.fractions.specs.Fraction.{Fraction, Same}
use Rattle.fractions.proofs.Same.{Is, is_of, is_also, is_times, is_agree}
use Rattle.scale.specs.declared.Scale.{Scale}
use Rattle.scale.specs.Value.{fraction_of}
use Rattle.quantization.specs.Code.{code_of_value}
use Rattle.color_equations.specs.declared.weights.Weights.{Weights}
use Rattle.color_equations.specs.Weights.{green_of}
use Rattle.color_equations.specs.Equations.{luma_of, chroma_of, primary_of, green_from}
use Rattle.color_equations.proofs.Whole.{luma-whole, cb_whole, cr_whole, luma-den, chroma-den, primary_den, green-den}
use Rattle.color_model_laws.specs.Claims.{Shares, Equals}
use Rattle.color_model_laws.proofs.Claims.{inverts}
use Rattle.color_bound.specs.Bound.{Within, fair}
use Rattle.color_bound.proofs.Errors.{Near, lands, brightness_near, difference_near, primary_near, green_near}

-- what is asked of the scales: room for the values, and half a code of Y'CbCr is at most (2k + 1) / 6 codes of R'G'B'
pub record Fit (rgb luma chroma : Scale) (k : ℕ) : Type 0 where
  pub rgb_some : 0 < rgb.span
  pub rgb_low : rgb.low ≤ rgb.base
  pub rgb_high : rgb.base + rgb.span ≤ rgb.high
  pub luma-some : 0 < luma.span
  pub luma_low : luma.low ≤ luma.base
  pub luma-high : luma.base + luma.span ≤ luma.high
  pub luma_step : 3 * rgb.span ≤ (2 * k + 1) * luma.span
  pub chroma-some : 0 < chroma.span
  pub chroma_low : 2 * chroma.low + chroma.span ≤ 2 * chroma.base + 1
  pub chroma-high : 2 * chroma.base + chroma.span ≤ 2 * chroma.high + 1
  pub chroma_step : 3 * rgb.span ≤ (2 * k + 1) * chroma.span

-- the code of a value from 0 to 1
pub record Inside (sc : Scale) (c : ℕ) : Type 0 where
  pub least : sc.base ≤ c
  pub most : c ≤ sc.base + sc.span

-- ---- numbers

-- one luma error and less than two chroma errors
few : (a b d e m : ℕ) → 0 < m → b < 2 * a → 3 * d ≤ m → 3 * e ≤ m → a * d + b * e < a * m
few a b d e m M l D E = omega (arith, mul-le-mul_left a D, mul-le-mul_left b E, mul-lt-mul_of_pos_right l M)

-- luma lies within 0 .. 1, by its numerator, and a difference within -1/2 .. 1/2
luma_range : (kr kg kb r g b o s : ℕ) → kr + kg + kb ≡ 10000 → o ≤ r → o ≤ g → o ≤ b → r ≤ o + s → g ≤ o + s → b ≤ o + s
    → (10000 * o ≤ kr * r + kg * g + kb * b) × (kr * r + kg * g + kb * b ≤ 10000 * o + 10000 * s)
luma_range kr kg kb r g b o s e R G B R' G' B' = (
  omega (arith, ap (λ (z : ℕ). z * o) e, mul-le-mul_left kr R, mul-le-mul_left kg G, mul-le-mul_left kb B),
  omega (arith, ap (λ (z : ℕ). z * (o + s)) e, mul-le-mul_left kr R', mul-le-mul_left kg G', mul-le-mul_left kb B'),
)

chroma_range : (k l f x y z o s : ℕ) → k + l ≡ f → o ≤ x → o ≤ y → o ≤ z → x ≤ o + s → y ≤ o + s → z ≤ o + s
    → (2 * (k * x + l * y) ≤ 2 * (f * z) + 2 * f * s) × (2 * (f * z) ≤ 2 * (k * x + l * y) + 2 * f * s)
chroma_range k l f x y z o s e X Y Z X' Y' Z' = (
  omega (arith, ap (λ (z : ℕ). z * (o + s)) e, mul-le-mul_left k X', mul-le-mul_left l Y', mul-le-mul_left f Z),
  omega (arith, ap (λ (z : ℕ). z * o) e, mul-le-mul_left k X, mul-le-mul_left l Y, mul-le-mul_left f Z'),
)

-- a value over c, over the multiple d of c
wider : {x : Fraction} {p n c : ℕ} (h d : ℕ) → h * c ≡ d → Is x p n c → Is x (h * p) (h * n) d
wider {p = p} {n = n} h d e i = is_also (h * p) (h * n) d refl e (is_times h i)

-- and an inequality of its numerators
wider_by : (h p n c d : ℕ) → p ≤ n + c → h * c ≡ d → h * p ≤ h * n + d
wider_by h p n c d l e = omega (arith, mul-le-mul_left h l)

wider_by-half : (h p n c d : ℕ) → 2 * p ≤ 2 * n + c → h * c ≡ d → 2 * (h * p) ≤ 2 * (h * n) + d
wider_by-half h p n c d l e = omega (arith, mul-le-mul_left h l)

-- the common denominator, as a multiple of each
luma_multiple : (t c s f g : ℕ) → t * c * (2 * f * g) * (10000 * s) ≡ t * (c * s * (20000 * f * g))
luma_multiple t c s f g = omega arith

cb_multiple : (t c s f g : ℕ) → t * c * (10000 * g) * (2 * f * s) ≡ c * (t * s * (20000 * f * g))
cb_multiple t c s f g = omega arith

cr_multiple : (t c s f g : ℕ) → t * c * (10000 * f) * (2 * g * s) ≡ c * (t * s * (20000 * f * g))
cr_multiple t c s f g = omega arith

-- ---- the last rounding
module _ (rgb : Scale) (S : 0 < rgb.span) (r k a d e u : ℕ) (A : 0 < a) (E : 0 < e) (m : rgb.span * e ≡ d) (l : u < (2 * k + 1) * (a * e)) (low : rgb.low ≤ r) (high : r ≤ rgb.high) where
  returns : {x y : Fraction} → Near x y (a * d) u → 0 < x.den → 0 < y.den → Same x (fraction_of rgb r) → Within k r (code_of_value rgb y).code
  returns {x} {y} h X Y q =
      lands rgb (is_also h.q h.m (rgb.span * (a * e)) refl (omega (arith, ap (λ (z : ℕ). a * z) m)) h.second) Y S (mul-pos A E) r k h.off exact l low high
    where
      exact : h.p + rgb.base * (a * e) ≡ r * (a * e) + h.n
      exact =
          eq_of_mul-eq-mul_right rgb.span S (h.p + rgb.base * (a * e)) (r * (a * e) + h.n)
          (omega (arith, is_agree h.first (is_of x r rgb.base rgb.span q) X, ap (λ (z : ℕ). rgb.base * a * z) m, ap (λ (z : ℕ). r * a * z) m))

-- ---- there and back: R', G', B' are x0, x1, x2, and Y, CB, CR the values of Y'CbCr; Y', CB', CR' are those of the codes that are kept of them
module _ (w : Weights) (shares : Shares w) (less : fair w ≡ true) (rgb luma chroma : Scale) (k : ℕ) (fit : Fit rgb luma chroma k) (r g b : ℕ) (R : Inside rgb r) (G : Inside rgb g) (B : Inside rgb b) where
  s : ℕ
  s = rgb.span

  t : ℕ
  t = luma.span

  c : ℕ
  c = chroma.span

  -- 1 - KB and 1 - KR, in ten-thousandths
  fb : ℕ
  fb = 10000 - w.blue

  fr : ℕ
  fr = 10000 - w.red

  -- a multiple of 10000, of 2 (1 - KB) and of 2 (1 - KR)
  z : ℕ
  z = 20000 * fb * fr

  -- the common denominator is t d, c e and s m; half a code of luma and of chroma are d / 2 and e / 2 in its units, and a code of R'G'B' is m
  d : ℕ
  d = c * s * z

  e : ℕ
  e = t * s * z

  m : ℕ
  m = t * c * z

  abbrev x0 : Fraction
  x0 = fraction_of rgb r

  abbrev x1 : Fraction
  x1 = fraction_of rgb g

  abbrev x2 : Fraction
  x2 = fraction_of rgb b

  abbrev Y : Fraction
  Y = luma_of w x0 x1 x2

  abbrev CB : Fraction
  CB = chroma_of w.blue x2 Y

  abbrev CR : Fraction
  CR = chroma_of w.red x0 Y

  abbrev Y' : Fraction
  Y' = fraction_of luma (code_of_value luma Y).code

  abbrev CB' : Fraction
  CB' = fraction_of chroma (code_of_value chroma CB).code

  abbrev CR' : Fraction
  CR' = fraction_of chroma (code_of_value chroma CR).code

  Z : 0 < z
  unfolding z fb fr
  Z = mul-pos {m = 20000 * (10000 - w.blue)} {n = 10000 - w.red} (omega (arith, shares.3, shares.1, shares.0)) (omega (arith, shares.3, shares.1, shares.2))

  D : 0 < d
  unfolding d c s
  D = mul-pos (mul-pos fit.chroma-some fit.rgb_some) Z

  E : 0 < e
  unfolding e t s
  E = mul-pos (mul-pos fit.luma-some fit.rgb_some) Z

  M : 0 < m
  unfolding m t c
  M = mul-pos (mul-pos fit.luma-some fit.chroma-some) Z

  whole : w.red + w.blue ≤ 10000
  whole = omega (arith, shares.3)

  Yd : 0 < Y.den
  Yd = luma-den w x0 x1 x2 fit.rgb_some fit.rgb_some fit.rgb_some

  CBd : 0 < CB.den
  CBd = chroma-den w.blue x2 Y (omega (arith, shares.3, shares.1)) fit.rgb_some Yd

  CRd : 0 < CR.den
  CRd = chroma-den w.red x0 Y (omega (arith, shares.3, shares.1)) fit.rgb_some Yd

  luma_near : Near Y Y' (t * d) d
  unfolding d t c s z fb fr
  luma_near =
      let p = w.red * r + green_of w * g + w.blue * b in
      let o = rgb.base in
      let h = t * c * (2 * fb * fr) in
      let q = luma_range w.red (green_of w) w.blue r g b o s shares.3 R.least G.least B.least R.most G.most B.most in
      let l = luma_multiple t c s fb fr in
      brightness_near luma (wider h (t * d) l (luma-whole w whole r g b o s)) Yd fit.luma-some D
      (mul-le-mul_left h q.0)
      (wider_by h p (10000 * o) (10000 * s) (t * d) q.1 l)
      fit.luma_low
      fit.luma-high

  -- over the common denominator
  same_denominator : c * e ≡ t * d
  unfolding d e c
  same_denominator = omega arith

  cb_near : Near CB CB' (t * d) e
  unfolding e t c s z fb fr
  cb_near =
      let p = fb * b in
      let n = w.red * r + green_of w * g in
      let o = rgb.base in
      let h = t * c * (10000 * fr) in
      let q = chroma_range w.red (green_of w) fb r g b o s (omega (arith, shares.3)) R.least G.least B.least R.most G.most B.most in
      let l = cb_multiple t c s fb fr in
      subst (λ (x : ℕ). Near CB CB' x e) same_denominator
      (difference_near chroma (wider h (c * e) l (cb_whole w whole r g b o s)) CBd fit.chroma-some E
      (wider_by-half h n p (2 * fb * s) (c * e) q.0 l)
      (wider_by-half h p n (2 * fb * s) (c * e) q.1 l)
      fit.chroma_low
      fit.chroma-high)

  cr_near : Near CR CR' (t * d) e
  unfolding e t c s z fb fr
  cr_near =
      let p = fr * r in
      let n = green_of w * g + w.blue * b in
      let o = rgb.base in
      let h = t * c * (10000 * fb) in
      let q = chroma_range (green_of w) w.blue fr g b r o s (omega (arith, shares.3)) G.least B.least R.least G.most B.most R.most in
      let l = cr_multiple t c s fb fr in
      subst (λ (x : ℕ). Near CR CR' x e) same_denominator
      (difference_near chroma (wider h (c * e) l (cr_whole w whole r g b o s)) CRd fit.chroma-some E
      (wider_by-half h n p (2 * fr * s) (c * e) q.0 l)
      (wider_by-half h p n (2 * fr * s) (c * e) q.1 l)
      fit.chroma_low
      fit.chroma-high)

  -- both errors are at most (2 k + 1) / 6 of a code of R'G'B'
  luma_small : 3 * d ≤ (2 * k + 1) * m
  unfolding d m t c s
  luma_small = omega (arith, mul-le-mul_right (c * z) fit.luma_step)

  chroma_small : 3 * e ≤ (2 * k + 1) * m
  unfolding e m t c s
  chroma_small = omega (arith, mul-le-mul_right (t * z) fit.chroma_step)

  -- so luma's error a times and chroma's less than 2 a times, over a times the denominator, are less than k + 1/2 codes
  module _ (a v : ℕ) (A : 0 < a) (L : v < 2 * a) where
    together : a * d + v * e < (2 * k + 1) * (a * m)
    together = omega (arith, few a v d e ((2 * k + 1) * m) (omega (arith, M)) L luma_small chroma_small)

  -- before any rounding each channel comes back exactly
  back : Equals (primary_of w.red Y CR) x0 × Equals (green_from w Y (primary_of w.red Y CR) (primary_of w.blue Y CB)) x1 × Equals (primary_of w.blue Y CB) x2
  back = inverts w x0 x1 x2 shares.1 fit.rgb_some fit.rgb_some fit.rgb_some

  abbrev red' : Fraction
  red' = primary_of w.red Y' CR'

  abbrev blue' : Fraction
  blue' = primary_of w.blue Y' CB'

  red-den : 0 < red'.den
  red-den = primary_den w.red Y' CR' fit.luma-some fit.chroma-some

  blue-den : 0 < blue'.den
  blue-den = primary_den w.blue Y' CB' fit.luma-some fit.chroma-some

  denominator : rgb.span * m ≡ t * d
  unfolding m d s
  denominator = omega arith

  -- and its code within k
  pub red_returns : Within k r (code_of_value rgb red').code
  red_returns =
      returns rgb fit.rgb_some r k 10000 (t * d) m (10000 * d + 2 * (10000 - w.red) * e) (omega arith) M denominator
      (together 10000 (2 * (10000 - w.red)) (omega arith) (omega (arith, shares.0)))
      (omega (arith, fit.rgb_low, R.least)) (omega (arith, fit.rgb_high, R.most))
      (primary_near w.red luma_near cr_near) back.0.0 red-den back.0.1

  pub blue_returns : Within k b (code_of_value rgb blue').code
  blue_returns =
      returns rgb fit.rgb_some b k 10000 (t * d) m (10000 * d + 2 * (10000 - w.blue) * e) (omega arith) M denominator
      (together 10000 (2 * (10000 - w.blue)) (omega arith) (omega (arith, shares.2)))
      (omega (arith, fit.rgb_low, B.least)) (omega (arith, fit.rgb_high, B.most))
      (primary_near w.blue luma_near cb_near) back.2.0 blue-den back.2.1

  pub green_returns : Within k g (code_of_value rgb (green_from w Y' red' blue')).code
  green_returns =
      let a = 10000 * green_of w in
      let f = w.red * (2 * (10000 - w.red)) in
      let h = w.blue * (2 * (10000 - w.blue)) in
      let A : 0 < a = omega (arith, shares.1) in
      let L = ltb-true (w.red * (10000 - w.red) + w.blue * (10000 - w.blue)) _ less in
      returns rgb fit.rgb_some g k a (t * d) m (a * d + f * e + h * e) A M denominator
      (apart a f h d e ((2 * k + 1) * (a * m)) (together a (f + h) A (twice w.red (10000 - w.red) w.blue (10000 - w.blue) a (omega (arith, L)))))
      (omega (arith, fit.rgb_low, G.least)) (omega (arith, fit.rgb_high, G.most))
      (green_near w whole luma_near cb_near cr_near) back.1.0 (green-den w Y' red' blue' shares.1 fit.luma-some red-den blue-den) back.1.1
    where
      apart : (a f h u v x : ℕ) → a * u + (f + h) * v < x → a * u + f * v + h * v < x
      apart a f h u v x l = omega arith

      twice : (p f q h a : ℕ) → p * f + q * h < a → p * (2 * f) + q * (2 * h) < 2 * a
      twice p f q h a i = omega arith
