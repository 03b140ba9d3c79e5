-- How far a value is from another, and what the equations and the roundings make of it. Assumes nothing.
use mathlib.Core.Path.{◌≡◌, ap, ap₂, ◌∙◌}
use mathlib.Core.Bool.{Bool, true, false, not}
use Prim.Native.Nat.{ℕ, ◌+◌, ◌-◌, ◌*◌, ◌/◌, ◌≤◌, ◌<◌}
use native.Mathlib.Nat.{mul-pos, mul-sub, mul-le-mul_left, mul-le-mul_right, div-mul-le_self, div-lt_iff_lt-mul, le-div_iff_mul-le, mul-div-mul_left}
use native.Mathlib.Omega.{arith}
use lib.Dec.{T, ltb, ltb→lt, nltb→le}
use Rattle.fractions.specs.Fraction.{Fraction, bounded}
use Rattle.fractions.proofs.Same.{Is, is_plain, is_also, is_times}
use Rattle.scale.specs.declared.Scale.{Scale}
use Rattle.scale.specs.Value.{fraction_of}
use Rattle.quantization.specs.Code.{code_of_value}
use Rattle.quantization.proofs.Codes.{code_is}
use Rattle.color_equations.specs.declared.weights.Weights.{Weights}
use Rattle.color_equations.specs.Weights.{green_of}
use Rattle.color_equations.specs.Equations.{primary_of, green_from}
use Rattle.color_equations.proofs.Whole.{primary_is, green_of_lem}
use Rattle.color_bound.specs.Bound.{Within}

-- what follows from a < b and from b ≤ a
by_order : (P : Type 0) (a b : ℕ) → (a < b → P) → (b ≤ a → P) → P
by_order P a b f g = go (ltb a b) (ltb→lt a b) (nltb→le a b)
  where
    go : (t : Bool) → (T t → a < b) → (T (not t) → b ≤ a) → P
    go true l r = f (l tt)
    go false l r = g (r tt)

-- ---- two values, p - n and q - m in some unit, that differ by at most u / 2
pub record Off (p n q m u : ℕ) : Type 0 where
  pub above : 2 * (q + n) ≤ 2 * (p + m) + u
  pub below : 2 * (p + m) ≤ 2 * (q + n) + u

off_times : {p n q m u : ℕ} (k : ℕ) → Off p n q m u → Off (k * p) (k * n) (k * q) (k * m) (k * u)
off_times k h = record { above = omega (arith, mul-le-mul_left k h.above); below = omega (arith, mul-le-mul_left k h.below) }

off_sum : {p n q m u p' n' q' m' u' : ℕ} → Off p n q m u → Off p' n' q' m' u' → Off (p + p') (n + n') (q + q') (m + m') (u + u')
off_sum h k = record { above = omega arith; below = omega arith }

off_difference : {p n q m u p' n' q' m' u' : ℕ} → Off p n q m u → Off p' n' q' m' u' → Off (p + n') (n + p') (q + m') (m + q') (u + u')
off_difference h k = record { above = omega arith; below = omega arith }

-- ---- fractions x and y that differ by at most u / 2 in units of 1 / d
pub record Near (x y : Fraction) (d u : ℕ) : Type 0 where
  pub p : ℕ
  pub n : ℕ
  pub q : ℕ
  pub m : ℕ
  pub first : Is x p n d
  pub second : Is y q m d
  pub off : Off p n q m u

-- what the equations make of it
pub primary_near : (k : ℕ) {y z c e : Fraction} {d u v : ℕ} → Near y z d u → Near c e d v
    → Near (primary_of k y c) (primary_of k z e) (10000 * d) (10000 * u + 2 * (10000 - k) * v)
primary_near k h i = record {
  p = _;
  n = _;
  q = _;
  m = _;
  first = primary_is k h.first i.first;
  second = primary_is k h.second i.second;
  off = off_sum (off_times 10000 h.off) (off_times (2 * (10000 - k)) i.off);
}

-- green has one error of luma, and of each difference as much as its weights let through
pub green_near : (w : Weights) → w.red + w.blue ≤ 10000 → {y z b b' r r' : Fraction} {d u v : ℕ} → Near y z d u → Near b b' d v → Near r r' d v
    → Near (green_from w y (primary_of w.red y r) (primary_of w.blue y b)) (green_from w z (primary_of w.red z r') (primary_of w.blue z b'))
    (10000 * green_of w * d) (10000 * green_of w * u + w.red * (2 * (10000 - w.red)) * v + w.blue * (2 * (10000 - w.blue)) * v)
green_near w K i j k = record {
  p = _;
  n = _;
  q = _;
  m = _;
  first = green_of_lem w K i.first j.first k.first;
  second = green_of_lem w K i.second j.second k.second;
  off = off_difference (off_difference (off_times (10000 * green_of w) i.off) (off_times (w.red * (2 * (10000 - w.red))) k.off)) (off_times (w.blue * (2 * (10000 - w.blue))) j.off);
}

-- ---- roundings

-- the code of (p - n) / (span d)
module _ (sc : Scale) {x : Fraction} {p n d : ℕ} (h : Is x p n (sc.span * d)) (X : 0 < x.den) (S : 0 < sc.span) (D : 0 < d) where
  code_over : (code_of_value sc x).code ≡ bounded sc.low sc.high ((2 * (p + sc.base * d) + d - 2 * n) / (2 * d))
  code_over =
      let A = 2 * (p + sc.base * d) + d in
      let num : 2 * (sc.span * p + sc.base * (sc.span * d)) + sc.span * d - 2 * (sc.span * n) ≡ sc.span * (A - 2 * n) = omega (arith, mul-sub sc.span A (2 * n)) in
      let den : 2 * (sc.span * d) ≡ sc.span * (2 * d) = omega arith in
      code_is sc h X (mul-pos S D)
      ∙ ap (bounded sc.low sc.high) (ap₂ (λ (i j : ℕ). i / j) num den ∙ mul-div-mul_left (A - 2 * n) (2 * d) S)

  -- within half a code of the value, where that lies within half a code of the ends
  code_off : 2 * (sc.low * d) + 2 * n ≤ 2 * (p + sc.base * d) + d → 2 * (p + sc.base * d) ≤ 2 * (sc.high * d) + 2 * n + d
      → Off p n ((code_of_value sc x).code * d) (sc.base * d) d
  code_off lo hi = rw code_over (record {
    above = by_order _ q sc.low
        (λ l. omega (arith, mul-le-mul_right d (most l)))
        (λ l. omega (arith, mul-le-mul_right d (under l), floor));
    below = by_order _ q sc.high
        (λ l. omega (arith, mul-le-mul_right d (over l), next))
        (λ l. omega (arith, mul-le-mul_right d (least l)));
  })
    where
      A : ℕ
      A = 2 * (p + sc.base * d) + d - 2 * n

      q : ℕ
      q = A / (2 * d)

      k : ℕ
      k = bounded sc.low sc.high q

      floor : q * (2 * d) ≤ A
      floor = div-mul-le_self A (2 * d)

      next : A < (q + 1) * (2 * d)
      next = (div-lt_iff_lt-mul {k = 2 * d} (omega arith)).0 (omega arith)

      most : q < sc.low → k ≤ sc.low
      most l = omega arith

      under : sc.low ≤ q → k ≤ q
      under l = omega arith

      over : q < sc.high → q ≤ k
      over l = omega arith

      least : sc.high ≤ q → sc.high ≤ k
      least l = omega arith

  -- where r is the code of (p' - n') / (span d) exactly, and x is less than k + 1/2 codes from that, the code of x is within k of r
  pub lands : {p' n' u : ℕ} (r k : ℕ) → Off p' n' p n u → p' + sc.base * d ≡ r * d + n' → u < (2 * k + 1) * d → sc.low ≤ r → r ≤ sc.high
      → Within k r (code_of_value sc x).code
  lands {p'} {n'} {u} r k o e l lo hi =
      rw code_over (within (quotient_near (2 * (p + sc.base * d) + d - 2 * n) (omega (arith, o.above, o.below)) (omega (arith, o.above, o.below))))
    where
      -- with the half, the value is at least r - k, and below r + k + 1
      quotient_near : (a : ℕ) → 2 * (r * d) ≤ a + 2 * (k * d) → a < 2 * ((r + k + 1) * d) → Within k r (a / (2 * d))
      quotient_near a i j = (
        by_order _ r k (λ m. omega arith) (λ m.
            let t : r - k ≤ a / (2 * d) = (le-div_iff_mul-le {k = 2 * d} (omega arith)).1 (omega (arith, sub_part m)) in
            omega arith),
        let t : a / (2 * d) < r + k + 1 = (div-lt_iff_lt-mul {k = 2 * d} (omega arith)).1 (omega arith) in
            omega arith,
      )
        where
          sub_part : k ≤ r → (r - k) * (2 * d) + k * (2 * d) ≡ r * (2 * d)
          sub_part m =
              let s : r - k + k ≡ r = omega arith in
              omega (arith, ap (λ (z : ℕ). z * (2 * d)) s)

      within : {q : ℕ} → Within k r q → Within k r (bounded sc.low sc.high q)
      within h = omega arith

-- the fraction of a code, over a multiple of its span
fraction_over : (sc : Scale) (c d : ℕ) → Is (fraction_of sc c) (c * d) (sc.base * d) (sc.span * d)
fraction_over sc c d = is_also (c * d) (sc.base * d) (sc.span * d) (omega arith) (omega arith) (is_times d (is_plain c sc.base sc.span))

-- a value, and the fraction of its code: a value from 0 to 1 on a scale that has room for it
module _ (sc : Scale) {x : Fraction} {p n d : ℕ} (h : Is x p n (sc.span * d)) (X : 0 < x.den) (S : 0 < sc.span) (D : 0 < d) where
  coded : Off p n ((code_of_value sc x).code * d) (sc.base * d) d → Near x (fraction_of sc (code_of_value sc x).code) (sc.span * d) d
  coded o = record { p = p; n = n; q = (code_of_value sc x).code * d; m = sc.base * d; first = h; second = fraction_over sc (code_of_value sc x).code d; off = o }

  pub brightness_near : n ≤ p → p ≤ n + sc.span * d → sc.low ≤ sc.base → sc.base + sc.span ≤ sc.high
      → Near x (fraction_of sc (code_of_value sc x).code) (sc.span * d) d
  brightness_near a b lo hi = coded (code_off sc h X S D (omega (arith, mul-le-mul_right d lo)) (omega (arith, mul-le-mul_right d hi)))

  -- and one from -1/2 to 1/2
  pub difference_near : 2 * n ≤ 2 * p + sc.span * d → 2 * p ≤ 2 * n + sc.span * d → 2 * sc.low + sc.span ≤ 2 * sc.base + 1 → 2 * sc.base + sc.span ≤ 2 * sc.high + 1
      → Near x (fraction_of sc (code_of_value sc x).code) (sc.span * d) d
  difference_near a b lo hi = coded (code_off sc h X S D (omega (arith, mul-le-mul_right d lo)) (omega (arith, mul-le-mul_right d hi)))
