-- The whole part of a number from 4096 to below 8192 stands in bits 40 to 51 of its pattern. Assumes nothing.
use mathlib.Core.Path.{◌≡◌, sym, ap, ◌∙◌}
use Prim.Native.Nat.{ℕ, ◌+◌, ◌-◌, ◌*◌, ◌/◌, ◌%◌, ◌^◌, ◌≤◌, ◌<◌}
use native.Mathlib.Nat.{le_trans, le_of_eq, lt_of_lt_of_le, lt_of_not-le, not-le_of_lt, mul_right_comm, mul-le-mul_right, mul-lt-mul_of_pos_right, le-div_iff_mul-le, div-lt_iff_lt-mul, div-div-eq-div-mul, mul-div-mul_right, div-eq_of_lt-le}
use native.Mathlib.Omega.{arith}
use mathlib.Core.Bool.{true, false}
use lib.Dec.{T}
use lib.Pow.{pow-add, pow_pos, pow_mono, shr-shr}
use lib.Ieee.{Float, nan, inf, fin, up, down, size}
use lib.Ieee.Digits.{size-lt, size-le}
use lib.Ieee.Fits.{down_pos}
use lib.Ieee.Positive.{num, den, positive}
use Rattle.floats.specs.inner.Floor.{whole_of}

size_gt : (n j : ℕ) → 2 ^ j ≤ n → j < size n
size_gt n j h = lt_of_not-le (λ (g : size n ≤ j). not-le_of_lt (lt_of_lt_of_le (size-lt n) (pow_mono g)) h)

-- U stands for 2 ^ 1074, and the pattern's unit is 1 / U
module _ (A d : ℕ) (d0 : 0 < d) (lo : 4096 * d ≤ A) (hi : A < 8192 * d) where
  abbrev n : ℕ
  n = A * 2 ^ 1074 / d

  above : 2 ^ 1086 ≤ n
  above = (le-div_iff_mul-le d0).1 (le_trans (le_of_eq (ap (λ (x : ℕ). x * d) (pow-add 2 12 1074) ∙ mul_right_comm (2 ^ 12) (2 ^ 1074) d)) (mul-le-mul_right (2 ^ 1074) lo))

  under : n < 2 ^ 1087
  under = (div-lt_iff_lt-mul d0).1 (lt_of_lt_of_le (mul-lt-mul_of_pos_right hi (pow_pos 1074)) (le_of_eq (sym (ap (λ (x : ℕ). x * d) (pow-add 2 13 1074) ∙ mul_right_comm (2 ^ 13) (2 ^ 1074) d))))

  dropped : size n - 53 ≡ 1034
  dropped = exactly (size n) (size_gt n 1086 above) (size-le n 1087 under)
    where
      exactly : (z : ℕ) → 1086 < z → z ≤ 1087 → z - 53 ≡ 1034
      exactly z a b = omega arith

  fields : (q : ℕ) → (0 + 1034 * 4503599627370496 + q) / 1099511627776 % 4096 ≡ q / 1099511627776 % 4096
  fields q = omega arith

  back : n / 2 ^ 1034 / 1099511627776 ≡ A / d
  back = shr-shr n 1034 40 ∙ div-div-eq-div-mul (A * 2 ^ 1074) d (2 ^ 1074) ∙ mul-div-mul_right A d (pow_pos 1074)

  pub pattern : (0 + (size n - 53) * 4503599627370496 + n / 2 ^ (size n - 53)) / 1099511627776 % 4096 ≡ A / d % 4096
  pattern = ap (λ (k : ℕ). (0 + k * 4503599627370496 + n / 2 ^ k) / 1099511627776 % 4096) dropped ∙ fields (n / 2 ^ 1034) ∙ ap (λ (x : ℕ). x % 4096) back

pub whole_is : (x : Float) (v : ℕ) → T (positive x) → v * den x ≤ num x → num x < (v + 1) * den x → 4096 ≤ v → v < 8192 → whole_of x ≡ v - 4096
unfolding whole_of
whole_is nan v p a b c d = absurd p
whole_is (inf s) v p a b c d = absurd p
whole_is (fin true m e) v p a b c d = absurd p
whole_is (fin false m e) v p a b c d =
    let w : m * up e / down e ≡ v = div-eq_of_lt-le (down e) a b in
    let l : 4096 * down e ≤ v * down e = mul-le-mul_right (down e) c in
    let h : (v + 1) * down e ≤ 8192 * down e = mul-le-mul_right (down e) (omega arith) in
    pattern (m * up e) (down e) (down_pos e) (le_trans l a) (lt_of_lt_of_le b h) ∙ ap (λ (x : ℕ). x % 4096) w ∙ rest v c d
  where
    rest : (v : ℕ) → 4096 ≤ v → v < 8192 → v % 4096 ≡ v - 4096
    rest v c d = omega arith
