-- No whole number lies just above or just below span * value + base + 1/2 + 4096: either it has at most 40 binary digits below the point, or the value is so near to 0
-- that it lies about half way between two whole numbers. Assumes nothing.
use mathlib.Core.Path.{◌≡◌, sym, ap, ◌∙◌}
use Prim.Native.Nat.{ℕ, suc, ◌+◌, ◌*◌, ◌%◌, ◌^◌, ◌≤◌, ◌<◌}
use native.Mathlib.Nat.{le_trans, le_of_eq, mul_assoc, mul_left_comm, mul-one, one-mul, add-mul, mul-le-mul, mul-le-mul_right}
use mathlib.Core.Logic.{◌⊎◌, inl, inr}
use native.Mathlib.Omega.{arith}
use mathlib.Core.Bool.{Bool, true, false, not}
use lib.IntN.{ℤ, pos, negsuc}
use lib.Dec.{T, leb, leb→le, nleb→lt, lit≤}
use lib.Ieee.{up, down}
use Rattle.floats.proofs.Floors.{Apart, apart_small}
use Rattle.floats.proofs.Sums.{signed_sum}

-- b is odd, and y / 2 c at most an eighth
module _ (s : Bool) (b c y : ℕ) (o : b % 2 ≡ 1) (h : 4 * y ≤ c) where
  bounds : (s : Bool) → (signed_sum s (b * c) y ≤ b * c + y) × (b * c ≤ signed_sum s (b * c) y + y)
  bounds true = omega arith
  bounds false = omega arith

  twice : (k : ℕ) → k * (2 * c) ≡ 2 * k * c
  twice k = mul_left_comm k 2 c ∙ sym (mul_assoc 2 k c)

  -- a whole number k lies above, by c and more of 2 c, or below
  sides : (k : ℕ) → (2 * k * c + c ≤ b * c) ⊎ (b * c + c ≤ 2 * k * c)
  sides k = go (leb (2 * k) b) (leb→le (2 * k) b) (nleb→lt (2 * k) b)
    where
      go : (z : Bool) → (T z → 2 * k ≤ b) → (T (not z) → b < 2 * k) → (2 * k * c + c ≤ b * c) ⊎ (b * c + c ≤ 2 * k * c)
      go true p q =
          let i : 2 * k ≤ b = p tt in
          let j : 2 * k + 1 ≤ b = omega arith in
          inl (le_trans (le_of_eq (ap (λ (x : ℕ). 2 * k * c + x) (sym (one-mul c)) ∙ sym (add-mul (2 * k) 1 c))) (mul-le-mul_right c j))
      go false p q = inr (le_trans (le_of_eq (ap (λ (x : ℕ). b * c + x) (sym (one-mul c)) ∙ sym (add-mul b 1 c))) (mul-le-mul_right {m = b + 1} {n = 2 * k} c (omega (arith, q tt))))

  pub apart_near : Apart (signed_sum s (b * c) y) (2 * c)
  apart_near =
      record {
        above = λ k l. elim (sides k) [ inl i ↦ absurd (omega (arith, twice k, bounds s)) | inr i ↦ omega (arith, twice k, bounds s) ];
        below = λ k l. elim (sides k) [ inl i ↦ omega (arith, twice k, bounds s) | inr i ↦ absurd (omega (arith, twice k, bounds s)) ];
      }

-- the sum that a code is taken from
pub apart : (s : Bool) (m : ℕ) (e : ℤ) (b k : ℕ) → b % 2 ≡ 1 → m < 2 ^ 24 → k ≤ 4096 → Apart (signed_sum s (b * down e) (2 * (m * up e * k))) (2 * down e)
apart s m (pos a) b k o d h = apart_small (signed_sum s (b * 1) (2 * (m * 2 ^ a * k))) 2 (lit≤ tt)
apart s m (negsuc a) b k o d h = either (leb (2 * 2 ^ suc a) 1099511627776) (leb→le (2 * 2 ^ suc a) 1099511627776) (nleb→lt (2 * 2 ^ suc a) 1099511627776)
  where
    either : (z : Bool) → (T z → 2 * 2 ^ suc a ≤ 1099511627776) → (T (not z) → 1099511627776 < 2 * 2 ^ suc a) → Apart (signed_sum s (b * 2 ^ suc a) (2 * (m * 1 * k))) (2 * 2 ^ suc a)
    either true p q = apart_small (signed_sum s (b * 2 ^ suc a) (2 * (m * 1 * k))) (2 * 2 ^ suc a) (p tt)
    either false p q =
        let l : 1099511627776 < 2 * 2 ^ suc a = q tt in
        let r : m * 1 * k ≤ 16777216 * 4096 = mul-le-mul {n₂ = 16777216} (omega (arith, mul-one m)) h in
        apart_near s b (2 ^ suc a) (2 * (m * 1 * k)) o (omega arith)
