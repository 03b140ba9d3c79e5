-- An f32 times a whole number of at most 4096 is an f64: nothing is rounded. Assumes nothing.
use mathlib.Core.Path.{◌≡◌, sym, ap, ◌∙◌, subst}
use Prim.Native.Nat.{ℕ, zero, suc, ◌+◌, ◌-◌, ◌*◌, ◌%◌, ◌^◌, ◌≤◌, ◌<◌}
use native.Mathlib.Nat.{le_trans, le_of_eq, le_of_lt, le_of_suc-le-suc, lt_of_lt_of_le, lt_of_le_of_lt, lt_of_not-le, not-le_of_lt, mul-one, zero-mul, mul_comm, mul_assoc, mul_left_comm, mul-le-mul, mul-le-mul_right, mul-pos}
use native.Mathlib.Omega.{arith}
use mathlib.Core.Bool.{Bool, true, false, ◌&&◌, true≢false}
use lib.IntN.{ℤ, pos, negsuc}
use lib.Dec.{T, leb, ltb, eqb, ltb→lt, leb→le, lit<}
use lib.Pow.{pow-add, pow_pos, pow_mono, pow-lt, shl_lt}
use lib.Ieee.{Float, nan, inf, fin, binary32, binary64, up, down, round, mul, fits}
use lib.Ieee.Fits.{and_l, and_r, down_pos}
use lib.Ieee.Exact.{HasValue, round_exact}
use lib.Ieee.Scale.{round_same}

-- what an f32 that is not 0 keeps to
record Held (m : ℕ) (e : ℤ) : Type 0 where
  digits : m < 2 ^ 24
  small : down e ≤ 2 ^ 149
  large : m * up e < 2 ^ 128 * down e

held : (s : Bool) (m : ℕ) (e : ℤ) → T (fits binary32 (fin s (suc m) e)) → Held (suc m) e
unfolding fits
held s m e t =
    let a : Bool = eqb (suc m % 2) 1 in
    let b : Bool = ltb (suc m) (2 ^ 24) in
    let c : Bool = leb (down e) (2 ^ 149) in
    let d : Bool = ltb (suc m * up e) (2 ^ 128 * down e) in
    record {
      digits = ltb→lt (suc m) (2 ^ 24) (and_r a b (and_l (a && b) c (and_l (a && b && c) d t)));
      small = leb→le (down e) (2 ^ 149) (and_r (a && b) c (and_l (a && b && c) d t));
      large = ltb→lt (suc m * up e) (2 ^ 128 * down e) (and_r (a && b && c) d t);
    }

-- ---- the product, as a rounded fraction
mul_is : (s : Bool) (m : ℕ) (e : ℤ) (y : Float) (k : ℕ) → HasValue y false k 1 → mul binary64 (fin s m e) y ≡ round binary64 s (m * up e * k) (down e)
unfolding mul
mul_is s m e nan k v = absurd v
mul_is s m e (inf t) k v = absurd v
mul_is s m e (fin true n d) k v = absurd (true≢false v.0)
mul_is true m e (fin false n d) k v = round_same binary64 true (m * up e * (n * up d)) (down e * down d) (m * up e * k) (down e) (mul-pos (down_pos e) (down_pos d)) (down_pos e) (cross (m * up e) (n * up d) (down e) (down d) k v.1)
  where
    cross : (a b p q k : ℕ) → b * 1 ≡ k * q → a * b * p ≡ a * k * (p * q)
    cross a b p q k h = ap (λ (x : ℕ). a * x * p) (sym (mul-one b) ∙ h) ∙ simp (mul_assoc, mul_comm, mul_left_comm)
mul_is false m e (fin false n d) k v = round_same binary64 false (m * up e * (n * up d)) (down e * down d) (m * up e * k) (down e) (mul-pos (down_pos e) (down_pos d)) (down_pos e) (cross (m * up e) (n * up d) (down e) (down d) k v.1)
  where
    cross : (a b p q k : ℕ) → b * 1 ≡ k * q → a * b * p ≡ a * k * (p * q)
    cross a b p q k h = ap (λ (x : ℕ). a * x * p) (sym (mul-one b) ∙ h) ∙ simp (mul_assoc, mul_comm, mul_left_comm)

-- ---- which is exact
shift_le : (b : ℕ) → 2 ^ suc b ≤ 2 ^ 149 → suc b ≤ 149
shift_le b h = le_of_suc-le-suc (lt_of_not-le (λ (g : 150 ≤ suc b). not-le_of_lt (pow-lt {i = 149} {j = suc b} g) h))

exact_up : (s : Bool) (m a k : ℕ) → m < 2 ^ 24 → m * 2 ^ a < 2 ^ 128 * 1 → k ≤ 4096 → HasValue (round binary64 s (m * 2 ^ a * k) 1) s (m * 2 ^ a * k) 1
exact_up s m a k d l h =
    let p : m * k ≤ 2 ^ 24 * 4096 = mul-le-mul (le_of_lt d) h in
    let w : m * k * 2 ^ (a + 1074) ≡ m * 2 ^ a * k * 2 ^ 1074 = ap (λ (x : ℕ). m * k * x) (pow-add 2 a 1074) ∙ simp (mul_assoc, mul_comm) in
    let r : m * 2 ^ a * k ≤ 2 ^ 128 * 1 * 4096 = mul-le-mul (le_of_lt l) h in
    round_exact binary64 s (m * 2 ^ a * k) 1 (m * k) (a + 1074) (lit< tt) (lt_of_le_of_lt p (lit< tt))
    (lt_of_le_of_lt (le_trans (le_of_eq w) (mul-le-mul_right (2 ^ 1074) r)) (lit< tt))
    (sym w ∙ sym (mul-one (m * k * 2 ^ (a + 1074))))

exact_down : (s : Bool) (m b k : ℕ) → m < 2 ^ 24 → 2 ^ suc b ≤ 2 ^ 149 → k ≤ 4096 → HasValue (round binary64 s (m * 1 * k) (2 ^ suc b)) s (m * 1 * k) (2 ^ suc b)
exact_down s m b k d l h =
    let p : m * k ≤ 2 ^ 24 * 4096 = mul-le-mul (le_of_lt d) h in
    let q : suc b ≤ 149 = shift_le b l in
    let j = 1074 - suc b in
    let e : j + suc b ≡ 1074 = omega arith in
    let f : 2 ^ j * 2 ^ suc b ≡ 2 ^ 1074 = sym (pow-add 2 j (suc b)) ∙ ap (λ (x : ℕ). 2 ^ x) e in
    let g : 53 + j ≤ 2098 = omega arith in
    let small : m * k < 2 ^ 53 = lt_of_le_of_lt p (lit< tt) in
    round_exact binary64 s (m * 1 * k) (2 ^ suc b) (m * k) j (pow_pos (suc b)) small
    (lt_of_lt_of_le (shl_lt 53 j small) (pow_mono {j = 2098} g))
    (ap (λ (x : ℕ). x * k * 2 ^ 1074) (mul-one m) ∙ ap (λ (x : ℕ). m * k * x) (sym f) ∙ sym (mul_assoc (m * k) (2 ^ j) (2 ^ suc b)))

exact : (s : Bool) (m : ℕ) (e : ℤ) (k : ℕ) → Held m e → k ≤ 4096 → HasValue (round binary64 s (m * up e * k) (down e)) s (m * up e * k) (down e)
exact s m (pos a) k h l = exact_up s m a k h.digits h.large l
exact s m (negsuc b) k h l = exact_down s m b k h.digits h.small l

zero-exact : (s : Bool) (n d : ℕ) → 0 < d → n ≡ 0 → HasValue (round binary64 s n d) s n d
zero-exact s n d D e = round_exact binary64 s n d 0 0 D (lit< tt) (lit< tt) (ap (λ (x : ℕ). x * 2 ^ 1074) e ∙ zero-mul (2 ^ 1074) ∙ sym (zero-mul d))

pub product : (s : Bool) (m : ℕ) (e : ℤ) (y : Float) (k : ℕ) → T (fits binary32 (fin s m e)) → HasValue y false k 1 → k ≤ 4096 → HasValue (mul binary64 (fin s m e) y) s (m * up e * k) (down e)
product s zero e y k t v l =
    subst (λ (x : Float). HasValue x s (0 * up e * k) (down e)) (sym (mul_is s 0 e y k v))
    (zero-exact s (0 * up e * k) (down e) (down_pos e) (ap (λ (x : ℕ). x * k) (zero-mul (up e)) ∙ zero-mul k))
product s (suc m) e y k t v l =
    subst (λ (x : Float). HasValue x s (suc m * up e * k) (down e)) (sym (mul_is s (suc m) e y k v)) (exact s (suc m) e k (held s m e t) l)

-- every finite f32 has at most 24 digits
pub digits : (s : Bool) (m : ℕ) (e : ℤ) → T (fits binary32 (fin s m e)) → m < 2 ^ 24
digits s zero e t = lit< tt
digits s (suc m) e t = (held s m e t).digits
