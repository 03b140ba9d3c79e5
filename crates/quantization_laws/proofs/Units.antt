-- `round` of d / p for numbers of 16 bits, in units of the smallest float: the unit that it rounds to is small, and nothing is ever halfway. Assumes nothing.
use mathlib.Core.Path.{◌≡◌, sym, ap, ◌∙◌, subst}
use Prim.Native.Nat.{ℕ, zero, suc, ◌+◌, ◌-◌, ◌*◌, ◌/◌, ◌%◌, ◌^◌, ◌≤◌, ◌<◌, compare, Ordering}
use native.Mathlib.Nat.{add-mul, suc-mul, mul_assoc, mul_comm, mul_left_comm, mul-one, mul-zero, mul-pos, mul-le-mul_left, mul-le-mul_right, le-mul_of_pos_right, le-div_iff_mul-le, div-lt_iff_lt-mul, div-add-mod', mod-lt, le_trans, le_of_eq, lt_of_le_of_lt, lt_of_lt_of_le, pow-succ'}
use native.Mathlib.Decide.{dec_le}
use native.Mathlib.Omega.{arith}
use mathlib.Core.Bool.{Bool, not}
use lib.Dec.{T, is_le, compare_is_eq, leb→le, nleb→lt, eqb→eq, lit<, lit≤}
use lib.Pow.{pow-add, pow_pos, pow_mono}
use lib.Ieee.{Float, binary32, size, nearest, round}
use lib.Ieee.Digits.{size_reaches, size-lt}
use lib.Ieee.Fits.{round_is}
use lib.Ieee.Exact.{HasValue, units_val}
use lib.Ieee.Nearest.{closest, nearest-ge}
use lib.Ieee.Order.{drop, kept}
use lib.Ieee.Scale.{grid, overflow}

-- in units of the smallest float, 2 ^ -149, every finite float is a whole number
abbrev pub U : ℕ
U = 2 ^ 149

-- ---- a fraction a / b to the nearest whole number: x, in units of 1 / b, is within a half of a
unfoldable pub Near : ℕ → ℕ → ℕ → Type 0
Near x a b = (2 * x ≤ 2 * a + b) × (2 * a ≤ 2 * x + b)

nearest_near : (q r b : ℕ) (o : Ordering) → (T (is_le o) → r * 2 ≤ b) → (T (not (is_le o)) → b < r * 2) → (T (compare_is_eq o) → r * 2 ≡ b) → r < b → Near (nearest q o * b) (q * b + r) b
unfolding Near
nearest_near q r b Ordering.lt h k e l = let h' : r * 2 ≤ b = h tt in omega arith
nearest_near q r b Ordering.eq h k e l =
    let e' : r * 2 ≡ b = e tt in
    let z : q % 2 * b ≤ 1 * b = mul-le-mul_right b (omega arith) in
    let f : (q + q % 2) * b ≡ q * b + q % 2 * b = add-mul q (q % 2) b in
    omega arith
nearest_near q r b Ordering.gt h k e l = let k' : b < r * 2 = k tt in let f : suc q * b ≡ q * b + b = suc-mul q b in omega arith

closest_near : (a b : ℕ) → 0 < b → Near (closest a b * b) a b
closest_near a b B =
    subst (λ (x : ℕ). Near (closest a b * b) x b) (div-add-mod' a b)
    (nearest_near (a / b) (a % b) b (compare (a % b * 2) b) (leb→le (a % b * 2) b) (nleb→lt (a % b * 2) b) (eqb→eq (a % b * 2) b) (mod-lt a B))

-- ---- an odd factor of d * 2 ^ j is one of d
odd_factor : (j o a d : ℕ) → o % 2 ≡ 1 → o * a ≡ d * 2 ^ j → (z : ℕ) × (o * z ≡ d)
odd_factor zero o a d h e = (a, e ∙ mul-one d)
odd_factor (suc j) o a d h e =
    let r = o / 2 in
    let m = a / 2 in
    let o_is : o ≡ 2 * r + 1 = omega arith in
    let split : o * a ≡ 2 * (r * a) + a = ap (λ (x : ℕ). x * a) o_is ∙ add-mul (2 * r) 1 a ∙ simp (mul_assoc, mul_comm 1 a, mul-one) in
    let right : d * 2 ^ suc j ≡ 2 * (d * 2 ^ j) = ap (λ (x : ℕ). d * x) (pow-succ' 2 j) ∙ mul_left_comm d 2 (2 ^ j) in
    let even : a ≡ 2 * m = omega arith in
    let left : o * a ≡ 2 * (o * m) = ap (λ (x : ℕ). o * x) even ∙ mul_left_comm o 2 m in
    odd_factor j o m d h (omega arith)

no_factor : (o z d : ℕ) → 65536 ≤ o → 0 < d → d < 65536 → o * z ≡ d → ⊥
no_factor o zero d O D l e = omega (arith, mul-zero o)
no_factor o (suc z) d O D l e = omega (arith, mul_comm o (suc z), suc-mul z o)

-- halfway below and halfway above k, as products of an odd number
below_half : (k b d u : ℕ) → 1 ≤ k → 2 * (k * b) ≡ 2 * (d * u) + b → (2 * k - 1) * b ≡ d * (2 * u)
below_half k b d u h e =
    let f : (2 * k - 1) * b + 1 * b ≡ 2 * (k * b) = sym (add-mul (2 * k - 1) 1 b) ∙ ap (λ (x : ℕ). x * b) (omega arith) ∙ mul_assoc 2 k b in
    omega (arith, mul_left_comm d 2 u)

above_half : (k b d u : ℕ) → 2 * (d * u) ≡ 2 * (k * b) + b → (2 * k + 1) * b ≡ d * (2 * u)
above_half k b d u e =
    let f : (2 * k + 1) * b ≡ 2 * (k * b) + 1 * b = add-mul (2 * k) 1 b ∙ ap (λ (x : ℕ). x + 1 * b) (mul_assoc 2 k b) in
    omega (arith, mul_left_comm d 2 u)

-- ---- d / p, for d and p below 2 ^ 16
-- what it rounds to a multiple of, times p
abbrev pub unit : ℕ → ℕ → ℕ
unit d p = p * 2 ^ drop 24 (d * U) p

shrink : (x u : ℕ) → 0 < u → 8388608 * x ≤ 65535 * u → x < u
shrink x u h l = omega arith

bound : (g p d u b : ℕ) → d ≤ 65535 * u → b < u → 2 * (p * g) ≤ 2 * d + b → p * g ≤ 65536 * u
bound g p d u b D B h = omega arith

module _ (d p : ℕ) (P : 0 < p) (p-lt : p < 65536) (d-lt : d < 65536) where
  pub unit_pos : 0 < unit d p
  unit_pos = mul-pos P (pow_pos (drop 24 (d * U) p))

  -- where digits are dropped, the number kept has 24 digits
  pub reaches : 0 < drop 24 (d * U) p → 8388608 * unit d p ≤ d * U
  reaches h =
      let z = drop 24 (d * U) p in
      let r : 2 ^ (23 + z) * p ≤ d * U = (le-div_iff_mul-le P).0 (size_reaches (d * U / p) (23 + z) (omega arith)) in
      le_trans (le_of_eq (sym (ap (λ (x : ℕ). x * p) (pow-add 2 23 z) ∙ mul_assoc 8388608 (2 ^ z) p ∙ ap (λ (x : ℕ). 8388608 * x) (mul_comm (2 ^ z) p)))) r

  pub unit_lt : unit d p < U
  unit_lt = go (dec_le (size (d * U / p)) 24)
    where
      go : Dec (size (d * U / p) ≤ 24) → unit d p < U
      go (yes h) =
          let e : drop 24 (d * U) p ≡ 0 = omega arith in
          rw e (lt_of_le_of_lt (le_of_eq (mul-one p)) (lt_of_lt_of_le p-lt (lit≤ tt)))
      go (no f) = shrink (unit d p) U (pow_pos 149) (le_trans (reaches (omega arith)) (mul-le-mul_right {n = 65535} U (omega arith)))

  -- and digits are dropped, unless d is 0
  pub drops : 0 < d → 0 < drop 24 (d * U) p
  drops D = go (dec_le (size (d * U / p)) 24)
    where
      go : Dec (size (d * U / p) ≤ 24) → 0 < drop 24 (d * U) p
      go (yes h) =
          let l : d * U / p < 2 ^ 24 = lt_of_lt_of_le (size-lt (d * U / p)) (pow_mono {j = 24} h) in
          let m : d * U < 2 ^ 24 * p = (div-lt_iff_lt-mul P).0 l in
          let n : d * U < 2 ^ 24 * 65536 = lt_of_lt_of_le m (mul-le-mul_left {n = 65536} (2 ^ 24) (omega arith)) in
          let o : 1 * U ≤ d * U = mul-le-mul_right U D in
          absurd (too_small (d * U) n (le_trans (lit≤ tt) o))
        where
          too_small : (x : ℕ) → x < 2 ^ 24 * 65536 → 2 ^ 40 ≤ x → ⊥
          too_small x h k = omega arith
      go (no f) = omega arith

  -- p times the rounded value, in units
  pub grid_is : p * grid binary32 d p ≡ kept 24 (d * U) p * unit d p
  grid_is = mul_left_comm p (kept 24 (d * U) p) (2 ^ drop 24 (d * U) p)

  pub kept_near : Near (kept 24 (d * U) p * unit d p) (d * U) (unit d p)
  kept_near = closest_near (d * U) (unit d p) unit_pos

  pub kept_ge : 0 < d → 8388608 ≤ kept 24 (d * U) p
  kept_ge D = le_trans ((le-div_iff_mul-le unit_pos).1 (reaches (drops D))) (nearest-ge (d * U / unit d p) (compare (d * U % unit d p * 2) (unit d p)))

  pub round_value : (s : Bool) → HasValue (round binary32 s d p) s (grid binary32 d p) U
  unfolding Near
  round_value s =
      let g = grid binary32 d p in
      let l : 2 * (p * g) ≤ 2 * (d * U) + unit d p = le_trans (le_of_eq (ap (λ (x : ℕ). 2 * x) grid_is)) kept_near.0 in
      let b : p * g ≤ 65536 * U = bound g p (d * U) U (unit d p) (mul-le-mul_right {n = 65535} U (omega arith)) unit_lt l in
      let h : g < overflow binary32 = lt_of_le_of_lt (le_trans (le-mul_of_pos_right g P) (le_trans (le_of_eq (mul_comm g p)) b)) (lit< tt) in
      subst (λ (z : Float). HasValue z s g U) (sym (round_is binary32 s d p)) (units_val binary32 s (kept 24 (d * U) p) (drop 24 (d * U) p) h)

  -- d / p is never halfway between two multiples
  halfway : (o : ℕ) → 0 < d → o % 2 ≡ 1 → 65536 ≤ o → o * unit d p ≡ d * (2 * U) → ⊥
  halfway o D h O e = let f = odd_factor 150 o (unit d p) d h e in no_factor o f.0 d O D d-lt f.1

  pub not_below : 0 < d → 2 * (kept 24 (d * U) p * unit d p) ≡ 2 * (d * U) + unit d p → ⊥
  not_below D e =
      let k = kept 24 (d * U) p in
      let K = kept_ge D in
      halfway (2 * k - 1) D (odd_less k K) (big k K) (below_half k (unit d p) d U (one k K) e)
    where
      odd_less : (k : ℕ) → 8388608 ≤ k → (2 * k - 1) % 2 ≡ 1
      odd_less k h = omega arith

      big : (k : ℕ) → 8388608 ≤ k → 65536 ≤ 2 * k - 1
      big k h = omega arith

      one : (k : ℕ) → 8388608 ≤ k → 1 ≤ k
      one k h = omega arith

  pub not_above : 0 < d → 2 * (d * U) ≡ 2 * (kept 24 (d * U) p * unit d p) + unit d p → ⊥
  not_above D e =
      let k = kept 24 (d * U) p in
      halfway (2 * k + 1) D (odd_more k) (big k (kept_ge D)) (above_half k (unit d p) d U e)
    where
      odd_more : (k : ℕ) → (2 * k + 1) % 2 ≡ 1
      odd_more k = omega arith

      big : (k : ℕ) → 8388608 ≤ k → 65536 ≤ 2 * k + 1
      big k h = omega arith
