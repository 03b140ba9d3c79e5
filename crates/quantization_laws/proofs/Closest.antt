-- In natural numbers: d / p, rounded, is nearer to d / p than any other number of units that the format holds. Assumes nothing.
use mathlib.Core.Path.{◌≡◌, refl, sym, ap, ◌∙◌}
use mathlib.Core.Logic.{◌⊎◌, inl, inr, ⊎_elim}
use Prim.Native.Nat.{ℕ, zero, suc, ◌+◌, ◌-◌, ◌*◌, ◌%◌, ◌^◌, ◌≤◌, ◌<◌}
use native.Mathlib.Nat.{suc-mul, mul_assoc, mul_left_comm, mul-one, mul-zero, zero-mul, mul-pos, mul-le-mul_right, mul-lt-mul_of_pos_right, mul-lt-mul_of_pos_left, lt_of_not-le, not-le_of_lt, le_trans, le_of_eq, lt_of_lt_of_le}
use native.Mathlib.Decide.{dec_le}
use native.Mathlib.Omega.{arith}
use mathlib.Core.Bool.{Bool, ◌&&◌}
use lib.Dec.{T, ltb, leb, eqb, ltb→lt, leb→le}
use lib.Pow.{pow-add, pow_pos, pow_mono, pow-lt}
use lib.IntN.{ℤ, pos, negsuc}
use lib.Ieee.{fin, binary32, up, down, fits}
use lib.Ieee.Fits.{and_l, and_r}
use lib.Ieee.Order.{drop, kept}
use lib.Ieee.Scale.{grid}
use Rattle.quantization_laws.proofs.Units.{U, Near, unit, unit_pos, reaches, drops, grid_is, kept_near, kept_ge, not_below, not_above}
use Rattle.quantization_laws.proofs.Values.{gap}

-- ---- a value that the format holds is w * 2 ^ j units, with w of 24 digits
pub record Held (q : ℕ) (e : ℤ) : Type 0 where
  pub digits : ℕ
  pub shift : ℕ
  pub small : digits < 16777216
  pub is : q * up e * U ≡ digits * 2 ^ shift * down e

-- 2 ^ a ≤ 2 ^ b only where a ≤ b
power_le : (a b : ℕ) → 2 ^ a ≤ 2 ^ b → a ≤ b
power_le a b h = go (dec_le a b)
  where
    go : Dec (a ≤ b) → a ≤ b
    go (yes l) = l
    go (no f) = absurd (not-le_of_lt (pow-lt (lt_of_not-le f)) h)

held_digits : (q : ℕ) (e : ℤ) → q < 16777216 → down e ≤ 2 ^ 149 → Held q e
held_digits q (pos k) h l = record {
  digits = q;
  shift = k + 149;
  small = h;
  is = mul_assoc q (2 ^ k) U ∙ ap (λ (x : ℕ). q * x) (sym (pow-add 2 k 149)) ∙ sym (mul-one (q * 2 ^ (k + 149)));
}
held_digits q (negsuc k) h l =
    let b : suc k ≤ 149 = power_le (suc k) 149 l in
    let j = 149 - suc k in
    let e : j + suc k ≡ 149 = omega arith in
    record {
      digits = q;
      shift = j;
      small = h;
      is = ap (λ (x : ℕ). x * U) (mul-one q) ∙ ap (λ (x : ℕ). q * x) (sym (ap (λ (x : ℕ). 2 ^ x) e) ∙ pow-add 2 j (suc k)) ∙ sym (mul_assoc q (2 ^ j) (2 ^ suc k));
    }

pub held : (t : Bool) (q : ℕ) (e : ℤ) → T (fits binary32 (fin t q e)) → Held q e
unfolding fits
held t zero e h = record { digits = 0; shift = 0; small = omega arith; is = ap (λ (x : ℕ). x * U) (zero-mul (up e)) ∙ zero-mul U ∙ sym (zero-mul (down e)) }
held t (suc m) e h =
    let odd = eqb (suc m % 2) 1 in
    let few = ltb (suc m) 16777216 in
    let fine = leb (down e) (2 ^ 149) in
    let first = and_l (odd && few && fine) (ltb (suc m * up e) (2 ^ 128 * down e)) h in
    held_digits (suc m) e (ltb→lt (suc m) 16777216 (and_r odd few (and_l (odd && few) fine first))) (leb→le (down e) (2 ^ 149) (and_r (odd && few) fine first))

-- ---- in natural numbers: of the multiples w b, k b is nearest to a
core_multiple : (k w b a : ℕ) → 2 * (k * b) ≤ 2 * a + b → 2 * a ≤ 2 * (k * b) + b → (2 * (k * b) ≡ 2 * a + b → ⊥) → (2 * a ≡ 2 * (k * b) + b → ⊥)
    → (w ≡ k) ⊎ (gap (k * b) a < gap (w * b) a)
core_multiple k w b a n m x y = go (dec_le w k) (dec_le k w)
  where
    strict : (p q : ℕ) → p ≤ q → (p ≡ q → ⊥) → p < q
    strict p q h f = lt_of_not-le (λ (g : q ≤ p). f (omega arith))

    go : Dec (w ≤ k) → Dec (k ≤ w) → (w ≡ k) ⊎ (gap (k * b) a < gap (w * b) a)
    go (yes p) (yes q) = inl (omega arith)
    go (yes p) (no g) =
        let l : suc w * b ≤ k * b = mul-le-mul_right b (lt_of_not-le g) in
        let f : suc w * b ≡ w * b + b = suc-mul w b in
        let s : 2 * (k * b) < 2 * a + b = strict (2 * (k * b)) (2 * a + b) n x in
        inr (omega arith)
    go (no f) q =
        let l : suc k * b ≤ w * b = mul-le-mul_right b (lt_of_not-le f) in
        let e : suc k * b ≡ k * b + b = suc-mul k b in
        let s : 2 * a < 2 * (k * b) + b = strict (2 * a) (2 * (k * b) + b) m y in
        inr (omega arith)

-- and nearer than what lies below 2 ^ 23 b
core_below : (k y b a : ℕ) → 8388608 ≤ k → 2 * (k * b) ≤ 2 * a + b → 8388608 * b ≤ a → y < 8388608 * b → gap (k * b) a < gap y a
core_below k y b a K n r l = go (dec_le k 8388608)
  where
    go : Dec (k ≤ 8388608) → gap (k * b) a < gap y a
    go (yes h) =
        let e : k * b ≡ 8388608 * b = ap (λ (x : ℕ). x * b) (omega arith) in
        omega arith
    go (no f) =
        let m : 8388609 * b ≤ k * b = mul-le-mul_right b (lt_of_not-le f) in
        omega arith

-- ---- d / p, for d and p of 16 bits, against w * 2 ^ j units
module _ (d p : ℕ) (P : 0 < p) (p-lt : p < 65536) (d-lt : d < 65536) where
  abbrev pub g : ℕ
  g = grid binary32 d p

  unfoldable pub Beats : ℕ → Type 0
  Beats h = (h ≡ g) ⊎ (gap (p * g) (d * U) < gap (p * h) (d * U))

  -- multiples of the unit
  by_multiple : 0 < d → (w j : ℕ) → drop 24 (d * U) p ≤ j → Beats (w * 2 ^ j)
  unfolding Beats Near
  by_multiple D w j h =
      let z = drop 24 (d * U) p in
      let k = kept 24 (d * U) p in
      let n = w * 2 ^ (j - z) in
      let e : j - z + z ≡ j = omega arith in
      let is : w * 2 ^ j ≡ n * 2 ^ z = ap (λ (x : ℕ). w * 2 ^ x) (sym e) ∙ ap (λ (x : ℕ). w * x) (pow-add 2 (j - z) z) ∙ sym (mul_assoc w (2 ^ (j - z)) (2 ^ z)) in
      let f : p * (w * 2 ^ j) ≡ n * unit d p = ap (λ (x : ℕ). p * x) is ∙ mul_left_comm p n (2 ^ z) in
      let near = kept_near d p P p-lt d-lt in
      ⊎_elim
      (λ q. inl (is ∙ ap (λ (x : ℕ). x * 2 ^ z) q))
      (λ l. inr (rw (f, grid_is d p P p-lt d-lt) l))
      (core_multiple k n (unit d p) (d * U) near.0 near.1 (not_below d p P p-lt d-lt D) (not_above d p P p-lt d-lt D))

  -- what lies below the multiples that the format keeps there
  by_small : 0 < d → (w j : ℕ) → w < 16777216 → j < drop 24 (d * U) p → Beats (w * 2 ^ j)
  unfolding Beats Near
  by_small D w j l h =
      let z = drop 24 (d * U) p in
      let a : w * 2 ^ j < 16777216 * 2 ^ j = mul-lt-mul_of_pos_right l (pow_pos j) in
      let b : 2 ^ (24 + j) ≤ 2 ^ (23 + z) = pow_mono (omega arith) in
      let c : w * 2 ^ j < 8388608 * 2 ^ z = lt_of_lt_of_le a (le_trans (le_of_eq (sym (pow-add 2 24 j))) (le_trans b (le_of_eq (pow-add 2 23 z)))) in
      let y : p * (w * 2 ^ j) < 8388608 * unit d p = lt_of_lt_of_le (mul-lt-mul_of_pos_left c P) (le_of_eq (mul_left_comm p 8388608 (2 ^ z))) in
      inr
      (rw (grid_is d p P p-lt d-lt)
      (core_below (kept 24 (d * U) p) (p * (w * 2 ^ j)) (unit d p) (d * U) (kept_ge d p P p-lt d-lt D) (kept_near d p P p-lt d-lt).0 (reaches d p P p-lt d-lt (drops d p P p-lt d-lt D)) y))

  -- the fraction 0 is the value 0
  grid_zero : d ≡ 0 → (p * g ≡ 0) × (d * U ≡ 0) × (g ≡ 0)
  unfolding Near
  grid_zero e =
      let z = drop 24 (d * U) p in
      let k = kept 24 (d * U) p in
      let A : d * U ≡ 0 = ap (λ (x : ℕ). x * U) e ∙ zero-mul U in
      let K : k ≡ 0 = none k (unit d p) (d * U) A (unit_pos d p P p-lt d-lt) (kept_near d p P p-lt d-lt).0 in
      let G : g ≡ 0 = ap (λ (x : ℕ). x * 2 ^ z) K ∙ zero-mul (2 ^ z) in
      (ap (λ (x : ℕ). p * x) G ∙ mul-zero p, A, G)
    where
      none : (k b a : ℕ) → a ≡ 0 → 0 < b → 2 * (k * b) ≤ 2 * a + b → k ≡ 0
      none zero b a e B n = refl
      none (suc k) b a e B n = let f : suc k * b ≡ k * b + b = suc-mul k b in absurd (omega arith)

  pub beats : (w j : ℕ) → w < 16777216 → Beats (w * 2 ^ j)
  unfolding Beats
  beats w j l = go (dec_le 1 d) (dec_le (drop 24 (d * U) p) j) (dec_le 1 (w * 2 ^ j))
    where
      none : (x y z u : ℕ) → x ≡ 0 → u ≡ 0 → y ≡ p * z → 0 < z → gap x u < gap y u
      none x y z u e f q Z = omega (arith, mul-pos P Z)

      go : Dec (1 ≤ d) → Dec (drop 24 (d * U) p ≤ j) → Dec (1 ≤ w * 2 ^ j) → Beats (w * 2 ^ j)
      go (yes D) (yes h) q = by_multiple D w j h
      go (yes D) (no f) q = by_small D w j l (lt_of_not-le f)
      go (no f) h (yes q) = let o = grid_zero (omega arith) in inr (none (p * g) (p * (w * 2 ^ j)) (w * 2 ^ j) (d * U) o.0 o.1 refl q)
      go (no f) h (no n) = let o = grid_zero (omega arith) in inl (let r : w * 2 ^ j ≡ 0 = zero_of (w * 2 ^ j) n in r ∙ sym o.2)
        where
          zero_of : (x : ℕ) → (1 ≤ x → ⊥) → x ≡ 0
          zero_of zero f = refl
          zero_of (suc x) f = absurd (f (omega arith))

  -- against a value of the other sign
  unfoldable pub Faces : ℕ → Type 0
  Faces h = ((h ≡ 0) × (g ≡ 0)) ⊎ (gap (p * g) (d * U) < p * h + d * U)

  pub faces : (h : ℕ) → Faces h
  unfolding Faces Near
  faces h = go (dec_le 1 d) (dec_le 1 h)
    where
      far : (k b a y : ℕ) → 8388608 * b ≤ k * b → 2 * (k * b) ≤ 2 * a + b → 8388608 * b ≤ a → 0 < b → gap (k * b) a < y + a
      far k b a y m n r B = omega arith

      none : (x y z u : ℕ) → x ≡ 0 → u ≡ 0 → y ≡ p * z → 0 < z → gap x u < y + u
      none x y z u e f q Z = omega (arith, mul-pos P Z)

      go : Dec (1 ≤ d) → Dec (1 ≤ h) → Faces h
      go (yes D) q =
          inr
          (rw (grid_is d p P p-lt d-lt)
          (far (kept 24 (d * U) p) (unit d p) (d * U) (p * h) (mul-le-mul_right (unit d p) (kept_ge d p P p-lt d-lt D)) (kept_near d p P p-lt d-lt).0 (reaches d p P p-lt d-lt (drops d p P p-lt d-lt D)) (unit_pos d p P p-lt d-lt)))
      go (no f) (yes q) = let o = grid_zero (omega arith) in inr (none (p * g) (p * h) h (d * U) o.0 o.1 refl q)
      go (no f) (no n) = let o = grid_zero (omega arith) in inl (omega arith, o.2)
