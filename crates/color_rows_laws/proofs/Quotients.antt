-- A row in f64 gives the row's whole part: every sum is exact, and the quotient is rounded once, to 40 binary digits below the point. Assumes nothing.
use mathlib.Core.Path.{◌≡◌, refl, sym, ap, ◌∙◌, subst}
use Prim.Native.Nat.{ℕ, suc, ◌+◌, ◌-◌, ◌*◌, ◌/◌, ◌^◌, ◌≤◌, ◌<◌}
use native.Mathlib.Nat.{le_trans, le_of_eq, le_of_lt, add-mul, mul-one, mul-le-mul_left}
use native.Mathlib.Omega.{arith}
use mathlib.Core.Bool.{true, false}
use lib.Dec.{lit≤}
use lib.IntN.{ℤ}
use lib.Ieee.{Float, binary64, round, add, mul, div, of_int}
use lib.Ieee.Exact.{HasValue}
use lib.Ieee.Back.{round_whole}
use Rattle.fractions.specs.Fraction.{bounded}
use Rattle.fractions.proofs.Integers.{minus_cases}
use Rattle.fractions.proofs.Cuts.{outside}
use Rattle.floats.specs.inner.Floor.{clamped_within}
use Rattle.floats.proofs.Floors.{Rounded, rounded-clamp, apart_small, beyond}
use Rattle.floats.proofs.Wholes.{distance, Whole, whole_mul, whole_add, whole_div}
use Rattle.color_line.specs.inner.Rows.{quotient_of, row_code}
use Rattle.color_rows.specs.declared.linear.Row.{Row}
use Rattle.color_rows.specs.inner.Rows.{difference_of, floats_of}
use Rattle.color_rows.specs.inner.Sizes.{Fits}
use Rattle.color_rows_laws.proofs.Rows.{clamped_at}

-- a whole number as an f64
abbrev float : ℕ → Float
float n = round binary64 false n 1

is : (k : ℕ) → k ≤ 2 ^ 53 → HasValue (float k) false k 1
is k h = round_whole binary64 false k h

over : (p m : ℕ) → m ≤ p → p - m ≡ distance p m
unfolding distance
over p m h = omega arith

under : (p m : ℕ) → p < m → suc (m - suc p) ≡ distance p m
unfolding distance
under p m h = omega arith

-- a difference, and a product with it
difference : (p m : ℕ) → p + m ≤ 2 ^ 53 → Whole (difference_of p m) p m
unfolding of_int
difference p m h =
    minus_cases (λ (z : ℤ). Whole (of_int binary64 z) p m) p m
    (λ l. record { sign = false; value = subst (λ (a : ℕ). HasValue (round binary64 false (p - m) 1) false a 1) (over p m l) (round_whole binary64 false (p - m) (omega arith)); signed = l })
    (λ l. record { sign = true; value = subst (λ (a : ℕ). HasValue (round binary64 true (suc (m - suc p)) 1) true a 1) (under p m l) (round_whole binary64 true (suc (m - suc p)) (omega arith)); signed = le_of_lt l })

abbrev term : ℕ → ℕ → ℕ → Float
term p m x = mul binary64 (difference_of p m) (float x)

times : (p m x : ℕ) → p + m ≤ 2 ^ 53 → x ≤ 4095 → p * x + m * x ≤ 2 ^ 53 → Whole (term p m x) (p * x) (m * x)
times p m x h k l = whole_mul (difference_of p m) (float x) p m x (difference p m h) (is x (omega arith)) l

-- each part of a row is at most what it is at the top
part_le : (p m top x : ℕ) → x ≤ top → p * x + m * x ≤ (p + m) * top
part_le p m top x h = le_trans (le_of_eq (sym (add-mul p m x))) (mul-le-mul_left (p + m) h)

once_le : (a top : ℕ) → 1 ≤ top → a ≤ a * top
once_le a top h = le_trans (le_of_eq (sym (mul-one a))) (mul-le-mul_left a h)

module _ (r : Row) (top x y z : ℕ) (f : Fits r top) (least : 1 ≤ top) (most : top ≤ 4095) (hx : x ≤ top) (hy : y ≤ top) (hz : z ≤ top) where
  abbrev p0 : ℕ
  p0 = r.sum.plus0

  abbrev p1 : ℕ
  p1 = r.sum.plus1

  abbrev p2 : ℕ
  p2 = r.sum.plus2

  abbrev m0 : ℕ
  m0 = r.sum.minus0

  abbrev m1 : ℕ
  m1 = r.sum.minus1

  abbrev m2 : ℕ
  m2 = r.sum.minus2

  -- what is constant, 4096 above the fraction
  abbrev more : ℕ
  more = r.sum.plus + 4096 * r.over

  abbrev less : ℕ
  less = r.sum.minus

  abbrev ups : ℕ
  ups = p0 * x + p1 * y + p2 * z

  abbrev downs : ℕ
  downs = m0 * x + m1 * y + m2 * z

  bound : ups + downs + more + less ≤ 2 ^ 53
  bound =
      let a = part_le p0 m0 top x hx in
      let b = part_le p1 m1 top y hy in
      let c = part_le p2 m2 top z hz in
      let s = f.sums in
      omega arith

  first : p0 + m0 ≤ 2 ^ 53
  first = let a = once_le (p0 + m0) top least in let s = f.sums in omega arith

  second : p1 + m1 ≤ 2 ^ 53
  second = let a = once_le (p1 + m1) top least in let s = f.sums in omega arith

  third : p2 + m2 ≤ 2 ^ 53
  third = let a = once_le (p2 + m2) top least in let s = f.sums in omega arith

  abbrev constant : Float
  constant = difference_of more less

  abbrev two : Float
  two = add binary64 (term p0 m0 x) (term p1 m1 y)

  abbrev three : Float
  three = add binary64 two (term p2 m2 z)

  sum_is : Whole (add binary64 three constant) (ups + more) (downs + less)
  sum_is =
      let s = bound in
      whole_add ups downs more less (omega arith) three constant
      (whole_add (p0 * x + p1 * y) (m0 * x + m1 * y) (p2 * z) (m2 * z) (omega arith) two (term p2 m2 z)
      (whole_add (p0 * x) (m0 * x) (p1 * y) (m1 * y) (omega arith) (term p0 m0 x) (term p1 m1 y) (times p0 m0 x first (omega arith) (omega arith)) (times p1 m1 y second (omega arith) (omega arith)))
      (times p2 m2 z third (omega arith) (omega arith)))
      (difference more less (omega arith))

  abbrev quotient : Float
  quotient = div binary64 (add binary64 three constant) (float r.over)

  rounded : Rounded quotient (ups + more - (downs + less)) r.over
  rounded = whole_div (add binary64 three constant) (float r.over) (ups + more) (downs + less) r.over f.some sum_is (is r.over (le_trans f.over (lit≤ tt)))

  by-floats : quotient_of (floats_of r) x y z ≡ quotient
  unfolding floats_of of_int
  by-floats = refl

  whole : clamped_within r.ends quotient ≡ clamped_at r x y z
  whole =
      rounded-clamp r.ends f.ends f.high quotient (ups + more - (downs + less)) r.over f.some (apart_small (ups + more - (downs + less)) r.over f.over) rounded
      ∙ (λ i. record { code = bounded r.ends.low r.ends.high (code i); cut = outside r.ends.strict r.ends.low r.ends.high (above i) r.over })
    where
      regroup : (a b c : ℕ) → a + (b + c) ≡ a + b + c
      regroup a b c = omega arith

      above : ups + more - (downs + less) ≡ ups + r.sum.plus + 4096 * r.over - (downs + less)
      above = ap (λ (a : ℕ). a - (downs + less)) (regroup ups r.sum.plus (4096 * r.over))

      code : (ups + more - (downs + less)) / r.over - 4096 ≡ (ups + r.sum.plus - (downs + less)) / r.over
      code = ap (λ (a : ℕ). a / r.over - 4096) above ∙ beyond (ups + r.sum.plus) (downs + less) r.over f.some

  pub row_is : row_code (floats_of r) x y z ≡ clamped_at r x y z
  unfolding row_code floats_of
  row_is = ap (clamped_within r.ends) by-floats ∙ whole
