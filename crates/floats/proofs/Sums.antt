-- The sum of a float ±a / c and a float b / 2: the fraction rounded, or a float below every number above zero. Assumes nothing.
use mathlib.Core.Path.{◌≡◌, sym, ap, ◌∙◌, subst}
use mathlib.Core.Logic.{inl, inr}
use Prim.Native.Nat.{ℕ, ◌+◌, ◌-◌, ◌*◌, ◌≤◌, ◌<◌}
use native.Mathlib.Nat.{mul_comm, mul_assoc, mul_left_comm, add-mul, mul-le-mul_right, le_of_mul-le-mul_right, mul-pos}
use native.Mathlib.Omega.{arith}
use mathlib.Core.Bool.{Bool, true, false, not, ◌&&◌, cond, true≢false}
use lib.Dec.{T, ltb, ltb→lt, nltb→le, lit<}
use lib.Ieee.{Float, nan, inf, fin, binary64, up, down, round, sum, add}
use lib.Ieee.Fits.{down_pos}
use lib.Ieee.Exact.{HasValue}
use lib.Ieee.Scale.{round_same}
use Rattle.lists.proofs.Numbers.{sub_mul}
use Rattle.floats.proofs.Compared.{round_below}
use Rattle.floats.proofs.Floors.{Rounded}

-- x ± y, and 0 where that is negative
abbrev pub signed_sum : Bool → ℕ → ℕ → ℕ
signed_sum false x y = x + y
signed_sum true x y = x - y

-- what the sum of ±a / c and b / 2 is
abbrev Summed : Float → Bool → ℕ → ℕ → ℕ → Type 0
Summed t s a c b = Rounded t (signed_sum s (b * c) (2 * a)) (2 * c)

module _ (a b c x y w : ℕ) (c0 : 0 < c) (w0 : 0 < w) (f : x * (2 * c) ≡ 2 * a * w) (g : y * (2 * c) ≡ b * c * w) where
  -- x / w is a / c, y / w is b / 2
  c2 : 0 < 2 * c
  c2 = mul-pos {m = 2} (lit< tt) c0

  plus : sum binary64 false x false y w ≡ round binary64 false (b * c + 2 * a) (2 * c)
  unfolding sum
  plus = round_same binary64 false (x + y) w (b * c + 2 * a) (2 * c) w0 c2 (add-mul x y (2 * c) ∙ omega (arith, f, g, add-mul (b * c) (2 * a) w))

  -- y - x, where that is not negative
  less : round binary64 false (y - x) w ≡ round binary64 false (b * c - 2 * a) (2 * c)
  less = round_same binary64 false (y - x) w (b * c - 2 * a) (2 * c) w0 c2 (sub_mul y x (2 * c) ∙ omega (arith, f, g) ∙ sym (sub_mul (b * c) (2 * a) w))

  order : y ≤ x → b * c ≤ 2 * a
  order h = le_of_mul-le-mul_right {k = w} (omega (arith, f, g, mul-le-mul_right (2 * c) h)) w0

  minus : Summed (sum binary64 true x false y w) true a c b
  unfolding sum
  minus = go (ltb x y) (ltb y x) (nltb→le x y) (ltb→lt y x) (nltb→le y x)
    where
      go : (p q : Bool) → (T (not p) → y ≤ x) → (T q → y < x) → (T (not q) → x ≤ y) → Summed (cond p (round binary64 false (y - x) w) (round binary64 (true && q) (x - y) w)) true a c b
      go true q h i j = inl less
      go false true h i j = let o : b * c ≤ 2 * a = order (h tt) in inr (omega arith, λ z k. round_below binary64 (x - y) w z k)
      go false false h i j = let o : y ≤ x = h tt in let r : x ≤ y = j tt in let e : x - y ≡ y - x = omega arith in inl (ap (λ (z : ℕ). round binary64 false z w) e ∙ less)

  pub either : (s : Bool) → Summed (sum binary64 s x false y w) s a c b
  either false = inl plus
  either true = minus

pub summed : (p q : Float) (s : Bool) (a c b : ℕ) → 0 < c → HasValue p s a c → HasValue q false b 2 → Summed (add binary64 p q) s a c b
unfolding add
summed nan q s a c b C v u = absurd v
summed (inf t) q s a c b C v u = absurd v
summed (fin t m e) nan s a c b C v u = absurd u
summed (fin t m e) (inf r) s a c b C v u = absurd u
summed (fin t m e) (fin true n d) s a c b C v u = absurd (true≢false u.0)
summed (fin t m e) (fin false n d) s a c b C v u =
    subst (λ (z : Bool). Summed (sum binary64 z (m * up e * down d) false (n * up d * down e) (down e * down d)) s a c b) (sym v.0)
    (either a b c (m * up e * down d) (n * up d * down e) (down e * down d) C (mul-pos (down_pos e) (down_pos d))
    (first (m * up e) (down e) (down d) v.1) (second (n * up d) (down e) (down d) u.1) s)
  where
    first : (x p q : ℕ) → x * c ≡ a * p → x * q * (2 * c) ≡ 2 * a * (p * q)
    first x p q h = sort x q c ∙ ap (λ (z : ℕ). z * (2 * q)) h ∙ back a p q
      where
        sort : (x q c : ℕ) → x * q * (2 * c) ≡ x * c * (2 * q)
        sort x q c = simp (mul_assoc, mul_comm, mul_left_comm)

        back : (a p q : ℕ) → a * p * (2 * q) ≡ 2 * a * (p * q)
        back a p q = simp (mul_assoc, mul_left_comm)

    second : (x p q : ℕ) → x * 2 ≡ b * q → x * p * (2 * c) ≡ b * c * (p * q)
    second x p q h = sort x p c ∙ ap (λ (z : ℕ). z * (p * c)) h ∙ back b p q c
      where
        sort : (x p c : ℕ) → x * p * (2 * c) ≡ x * 2 * (p * c)
        sort x p c = simp (mul_assoc, mul_comm, mul_left_comm)

        back : (b p q c : ℕ) → b * q * (p * c) ≡ b * c * (p * q)
        back b p q c = simp (mul_assoc, mul_comm, mul_left_comm)
