-- The whole part of span * x + base + 1/2 within two ends, and whether it lies outside them, for every f32 x that is a number: by one product and one sum in f64. Assumes nothing.
use mathlib.Core.Path.{◌≡◌, refl, sym, ap, ap₂, ◌∙◌, subst}
use Prim.Native.Nat.{ℕ, ◌+◌, ◌-◌, ◌*◌, ◌/◌, ◌%◌, ◌^◌, ◌≤◌, ◌<◌}
use native.Mathlib.Nat.{le_trans, le_of_lt, lt_of_lt_of_le, mul-one, mul_comm, mul_assoc, add-mul, mul-pos}
use native.Mathlib.Omega.{arith}
use mathlib.Core.Bool.{Bool, true, false, not, cond, beq}
use lib.IntN.{ℤ, negsuc}
use lib.Dec.{T, eqb, ltb→lt, eqb→eq, lit<, lit≤}
use lib.Pow.{pow-add, pow_mono, shl_lt}
use lib.Ieee.{Float, nan, inf, fin, binary32, binary64, up, down, round, mul, add, lt, fits}
use lib.Ieee.Fits.{down_pos}
use lib.Ieee.Exact.{HasValue, round_exact}
use lib.Ieee.Back.{round_whole}
use lib.Ieee.Positive.{positive, positive_of_value, mul_at}
use Rattle.fractions.specs.Fraction.{bounded}
use Rattle.fractions.proofs.Cuts.{outside}
use Rattle.floats.specs.declared.Ends.{Ends}
use Rattle.floats.specs.inner.Floor.{clamped_by, clamped_within}
use Rattle.floats.proofs.Floors.{whole_within, cut_within, Apart, Rounded, whole_below, whole_above, cut_below, cut_above, rounded-floor, rounded-cut, beyond, more}
use Rattle.floats.proofs.Products.{digits, product}
use Rattle.floats.proofs.Sums.{signed_sum, summed}
use Rattle.floats.proofs.Borders.{apart}

-- 1/2, and base + 1/2 + 4096
abbrev half : Float
half = fin false 1 (negsuc 0)

abbrev pub middle : ℕ → Float
middle base = mul binary64 (round binary64 false (2 * base + 8193) 1) half

-- the sum whose whole part, less 4096, is the code
abbrev pub placed : ℕ → ℕ → Float → Float
placed span base x = add binary64 (mul binary64 x (round binary64 false span 1)) (middle base)

-- ---- infinities
mul_inf : (s : Bool) (y : Float) → T (positive y) → mul binary64 (inf s) y ≡ inf s
unfolding mul
mul_inf s nan p = absurd p
mul_inf s (inf t) p = absurd p
mul_inf s (fin true n d) p = absurd p
mul_inf s (fin false n d) p = go s (eqb n 0) (λ t. eqb→eq n 0 t)
  where
    go : (s b : Bool) → (T b → n ≡ 0) → cond b nan (inf (not (beq s false))) ≡ inf s
    go s true f = let e : n ≡ 0 = f tt in let g : 0 < n = ltb→lt 0 n p in absurd (omega arith)
    go true false f = refl
    go false false f = refl

add_inf : (s : Bool) (y : Float) → T (positive y) → add binary64 (inf s) y ≡ inf s
unfolding add
add_inf s nan p = absurd p
add_inf s (inf t) p = absurd p
add_inf s (fin t n d) p = refl

inf_low : (y : Float) → T (positive y) → lt (inf true) y ≡ true
unfolding lt
inf_low nan p = absurd p
inf_low (inf t) p = absurd p
inf_low (fin t n d) p = refl

inf_high : (y : Float) → T (positive y) → lt y (inf false) ≡ true
unfolding lt
inf_high nan p = absurd p
inf_high (inf t) p = absurd p
inf_high (fin t n d) p = refl

-- ---- 4096 more, and 4096 less
shift : (s : Bool) (x y d : ℕ) → 0 < d → signed_sum s (x + 4096 * d) y / d - 4096 ≡ signed_sum s x y / d
shift false x y d D = ap (λ (z : ℕ). z / d - 4096) (swap x (4096 * d) y) ∙ more (x + y) 4096 d D
  where
    swap : (x k y : ℕ) → x + k + y ≡ x + y + k
    swap x k y = omega arith
shift true x y d D = beyond x y d D

-- spans, bases and ends that an f64 has room for, with 40 binary digits of a fraction
module _ (span base : ℕ) (ends : Ends) (some : 0 < span) (span-most : span ≤ 4096) (base-most : base ≤ 4095) (order : ends.low ≤ ends.high) (high-most : ends.high ≤ 4095) where
  -- ---- the numbers that the product and the sum are of
  span_value : HasValue (round binary64 false span 1) false span 1
  span_value = round_whole binary64 false span (le_trans span-most (lit≤ tt))

  span_positive : T (positive (round binary64 false span 1))
  span_positive = positive_of_value (round binary64 false span 1) span 1 span_value some

  abbrev b : ℕ
  b = 2 * base + 8193

  b_small : b < 2 ^ 53
  b_small = omega arith

  b_value : HasValue (round binary64 false b 1) false b 1
  b_value = round_whole binary64 false b (le_of_lt b_small)

  halved : (q : ℕ) → q < 2 ^ 53 → HasValue (round binary64 false (q * 1) (1 * 2)) false (q * 1) (1 * 2)
  halved q s =
      round_exact binary64 false (q * 1) (1 * 2) q 1073 (lit< tt) s (lt_of_lt_of_le (shl_lt 53 1073 s) (pow_mono {i = 1126} {j = 2098} (lit≤ tt)))
      (ap (λ (x : ℕ). x * 2 ^ 1074) (mul-one q) ∙ ap (λ (x : ℕ). q * x) (pow-add 2 1073 1) ∙ sym (mul_assoc q (2 ^ 1073) 2))

  middle_value : HasValue (middle base) false b 2
  middle_value =
      subst (λ (x : ℕ). HasValue (middle base) false x 2) (mul-one b)
      (subst (λ (x : Float). HasValue x false (b * 1) 2)
      (sym (mul_at binary64 (round binary64 false b 1) half b 1 1 2 (positive_of_value (round binary64 false b 1) b 1 b_value (omega arith)) tt (lit< tt) (lit< tt) b_value (refl, refl)))
      (halved b b_small))

  middle_positive : T (positive (middle base))
  middle_positive = positive_of_value (middle base) b 2 middle_value (omega arith)

  placed_inf : (s : Bool) → placed span base (inf s) ≡ inf s
  placed_inf s = ap (λ (x : Float). add binary64 x (middle base)) (mul_inf s (round binary64 false span 1) span_positive) ∙ add_inf s (middle base) middle_positive

  -- an infinity is cut to the end of its sign
  pub code_of_inf : (s : Bool) → clamped_within ends (placed span base (inf s)) ≡ record { code = cond s ends.low ends.high; cut = true }
  unfolding clamped_by
  code_of_inf true = ap (clamped_within ends) (placed_inf true) ∙ (λ i. record { code = whole_below ends order high-most (inf true) inf_low i; cut = cut_below ends order high-most (inf true) inf_low i })
  code_of_inf false = ap (clamped_within ends) (placed_inf false) ∙ (λ i. record { code = whole_above ends order high-most (inf false) inf_high i; cut = cut_above ends order high-most (inf false) inf_high i })

  -- the finite value ±m * 2 ^ e
  module _ (s : Bool) (m : ℕ) (e : ℤ) (t : T (fits binary32 (fin s m e))) where
    -- the sum, over 2 down e
    abbrev a : ℕ
    a = signed_sum s (b * down e) (2 * (m * up e * span))

    c2 : 0 < 2 * down e
    c2 = mul-pos {m = 2} (lit< tt) (down_pos e)

    odd : (a : ℕ) → (2 * a + 8193) % 2 ≡ 1
    odd a = omega arith

    far : Apart a (2 * down e)
    far = apart s m e b span (odd base) (digits s m e t) span-most

    sum : Rounded (placed span base (fin s m e)) a (2 * down e)
    sum = summed (mul binary64 (fin s m e) (round binary64 false span 1)) (middle base) s (m * up e * span) (down e) b (down_pos e) (product s m e (round binary64 false span 1) span t span_value span-most) middle_value

    -- with the 4096 apart
    abbrev x : ℕ
    x = 2 * (base * down e) + down e

    abbrev y : ℕ
    y = 2 * (span * (m * up e))

    a_is : a ≡ signed_sum s (x + 4096 * (2 * down e)) y
    a_is = ap₂ (signed_sum s) (add-mul (2 * base) 8193 (down e) ∙ ap (λ (z : ℕ). z + 8193 * down e) (mul_assoc 2 base (down e)) ∙ omega arith) (ap (λ (z : ℕ). 2 * z) (mul_comm (m * up e) span))

    whole : whole_within ends (placed span base (fin s m e)) ≡ bounded ends.low ends.high (signed_sum s x y / (2 * down e))
    whole =
        rounded-floor ends order high-most (placed span base (fin s m e)) a (2 * down e) c2 far sum
        ∙ ap (bounded ends.low ends.high) (ap (λ (z : ℕ). z / (2 * down e) - 4096) a_is ∙ shift s x y (2 * down e) c2)

    cut : cut_within ends (placed span base (fin s m e)) ≡ outside ends.strict ends.low ends.high (signed_sum s (x + 4096 * (2 * down e)) y) (2 * down e)
    cut =
        rounded-cut ends order high-most (placed span base (fin s m e)) a (2 * down e) c2 far sum
        ∙ ap (λ (z : ℕ). outside ends.strict ends.low ends.high z (2 * down e)) a_is

    pub code_of_finite : clamped_within ends (placed span base (fin s m e))
        ≡ record { code = bounded ends.low ends.high (signed_sum s x y / (2 * down e)); cut = outside ends.strict ends.low ends.high (signed_sum s (x + 4096 * (2 * down e)) y) (2 * down e) }
    unfolding clamped_by
    code_of_finite = λ i. record { code = whole i; cut = cut i }
