-- Places that pass a test, counted. Assumes nothing.
use mathlib.Core.Path.{◌≡◌, refl, ap, ap₂, ◌∙◌}
use mathlib.Core.Bool.{Bool, true, false}
use Prim.Native.Nat.{ℕ, zero, suc, ◌+◌, ◌*◌, ◌≤◌, ◌<◌}
use native.Mathlib.Omega.{arith}
use mir.Val.{bool_byte}
use Rattle.lists.specs.Lists.{one_if, count}

-- a test as a number
pub byte_of : (b : Bool) → bool_byte b ≡ one_if b
byte_of true = refl
byte_of false = refl

pub one_le : (b : Bool) → one_if b ≤ 1
one_le true = omega arith
one_le false = omega arith

-- no more than there are places
pub count_le : (n : ℕ) (t : ℕ → Bool) → count n t ≤ n
unfolding count
count_le zero t = omega arith
count_le (suc n) t = omega (arith, count_le n t, one_le (t n))

-- of tests that agree
pub count_same : (n : ℕ) (s t : ℕ → Bool) → ((k : ℕ) → k < n → s k ≡ t k) → count n s ≡ count n t
unfolding count
count_same zero s t h = refl
count_same (suc n) s t h = ap₂ (λ (x y : ℕ). x + y) (count_same n s t (λ k l. h k (omega arith))) (ap one_if (h n (omega arith)))

-- and none, where none passes
pub count_none : (n : ℕ) (t : ℕ → Bool) → ((k : ℕ) → k < n → t k ≡ false) → count n t ≡ 0
unfolding count
count_none zero t h = refl
count_none (suc n) t h = omega (arith, count_none n t (λ k l. h k (omega arith)), ap one_if (h n (omega arith)))

module _ (t : ℕ → Bool) where
  -- one more place
  pub count_next : (n : ℕ) → count (n + 1) t ≡ count n t + one_if (t n)
  unfolding count
  count_next n = ap (λ (m : ℕ). count m t) (one_more n)
    where
      one_more : (n : ℕ) → n + 1 ≡ suc n
      one_more n = omega arith

  -- the three of a point
  abbrev pub three : ℕ → ℕ
  three i = one_if (t (3 * i)) + one_if (t (3 * i + 1)) + one_if (t (3 * i + 2))

  pub three_le : (i : ℕ) → three i ≤ 3
  three_le i = omega (arith, one_le (t (3 * i)), one_le (t (3 * i + 1)), one_le (t (3 * i + 2)))

  pub count_point : (i : ℕ) → count (3 * (i + 1)) t ≡ count (3 * i) t + three i
  count_point i =
      let e : 3 * (i + 1) ≡ 3 * i + 1 + 1 + 1 = omega arith in
      let f : 3 * i + 1 + 1 ≡ 3 * i + 2 = omega arith in
      ap (λ (m : ℕ). count m t) e ∙ count_next (3 * i + 1 + 1)
      ∙ omega (arith, count_next (3 * i + 1), count_next (3 * i), ap (λ (m : ℕ). one_if (t m)) f)
