-- Whole numbers in an f64, with a sign: products and sums are exact while they stay within 2 ^ 53, and the quotient is rounded once. Assumes nothing.
use mathlib.Core.Path.{◌≡◌, refl, sym, ap, ap₂, ◌∙◌, subst}
use mathlib.Core.Logic.{inl, inr}
use Prim.Native.Nat.{ℕ, zero, suc, ◌+◌, ◌-◌, ◌*◌, ◌^◌, ◌≤◌, ◌<◌}
use native.Mathlib.Nat.{le_trans, le_of_eq, le_of_lt, mul-one, zero-mul, mul_comm, mul_assoc, mul_left_comm, add-mul, mul-pos, mul-le-mul_right, le_of_mul-le-mul_right}
use native.Mathlib.Omega.{arith}
use mathlib.Core.Bool.{Bool, true, false, not, ◌&&◌, cond, beq, true≢false}
use lib.Dec.{T, ltb, eqb, eqb→eq, ltb→lt, nltb→le, lit<}
use lib.Ieee.{Float, nan, inf, fin, binary64, up, down, round, sum, add, mul, div, lt}
use lib.Ieee.Fits.{up_pos, down_pos}
use lib.Ieee.Exact.{HasValue}
use lib.Ieee.Back.{round_whole}
use lib.Ieee.Scale.{round_same}
use Rattle.lists.proofs.Numbers.{sub_mul}
use Rattle.floats.proofs.Compared.{round_below}
use Rattle.floats.proofs.Floors.{Rounded}

-- |p - n|
unfoldable pub distance : ℕ → ℕ → ℕ
distance p n = p - n + (n - p)

far : (p n : ℕ) → n ≤ p → p ≡ n + distance p n
unfolding distance
far p n h = omega arith

near : (p n : ℕ) → p ≤ n → n ≡ p + distance p n
unfolding distance
near p n h = omega arith

far_is : (p n c : ℕ) → p ≡ n + c → c ≡ distance p n
unfolding distance
far_is p n c e = omega arith

near_is : (p n c : ℕ) → n ≡ p + c → c ≡ distance p n
unfolding distance
near_is p n c e = omega arith

distance_le : (p n : ℕ) → distance p n ≤ p + n
unfolding distance
distance_le p n = omega arith

-- the sign of p - n, which 0 has both of
abbrev pub Signed : Bool → ℕ → ℕ → Type 0
Signed false p n = n ≤ p
Signed true p n = p ≤ n

-- x is p - n
pub record Whole (x : Float) (p n : ℕ) : Type 0 where
  pub sign : Bool
  pub value : HasValue x sign (distance p n) 1
  pub signed : Signed sign p n

-- ---- products
mul_is : (x y : Float) (s : Bool) (a k : ℕ) → HasValue x s a 1 → HasValue y false k 1 → mul binary64 x y ≡ round binary64 s (a * k) 1
unfolding mul
mul_is nan y s a k v w = absurd v
mul_is (inf t) y s a k v w = absurd v
mul_is (fin t m e) nan s a k v w = absurd w
mul_is (fin t m e) (inf r) s a k v w = absurd w
mul_is (fin t m e) (fin true n d) s a k v w = absurd (true≢false w.0)
mul_is (fin t m e) (fin false n d) s a k v w =
    like t
    ∙ ap (λ (z : Bool). round binary64 z (m * up e * (n * up d)) (down e * down d)) v.0
    ∙ round_same binary64 s (m * up e * (n * up d)) (down e * down d) (a * k) 1 (mul-pos (down_pos e) (down_pos d)) (lit< tt) (cross (m * up e) (n * up d) (down e) (down d) v.1 w.1)
  where
    like : (t : Bool) → mul binary64 (fin t m e) (fin false n d) ≡ round binary64 t (m * up e * (n * up d)) (down e * down d)
    like true = refl
    like false = refl

    cross : (x y p q : ℕ) → x * 1 ≡ a * p → y * 1 ≡ k * q → x * y * 1 ≡ a * k * (p * q)
    cross x y p q f g = mul-one (x * y) ∙ ap₂ (λ (u w : ℕ). u * w) (sym (mul-one x) ∙ f) (sym (mul-one y) ∙ g) ∙ simp (mul_assoc, mul_left_comm)

distance_mul : (p n k : ℕ) → distance p n * k ≡ distance (p * k) (n * k)
unfolding distance
distance_mul p n k = add-mul (p - n) (n - p) k ∙ ap₂ (λ (u w : ℕ). u + w) (sub_mul p n k) (sub_mul n p k)

signed_mul : (s : Bool) (p n k : ℕ) → Signed s p n → Signed s (p * k) (n * k)
signed_mul true p n k h = mul-le-mul_right k h
signed_mul false p n k h = mul-le-mul_right k h

pub whole_mul : (x y : Float) (p n k : ℕ) → Whole x p n → HasValue y false k 1 → p * k + n * k ≤ 2 ^ 53 → Whole (mul binary64 x y) (p * k) (n * k)
whole_mul x y p n k w v h =
    let e = distance_mul p n k in
    let small : distance p n * k ≤ 2 ^ 53 = le_trans (le_of_eq e) (le_trans (distance_le (p * k) (n * k)) h) in
    record {
      sign = w.sign;
      value = subst (λ (z : Float). HasValue z w.sign (distance (p * k) (n * k)) 1) (sym (mul_is x y w.sign (distance p n) k w.value v))
          (subst (λ (a : ℕ). HasValue (round binary64 w.sign (distance p n * k) 1) w.sign a 1) e (round_whole binary64 w.sign (distance p n * k) small));
      signed = signed_mul w.sign p n k w.signed;
    }

-- ---- sums
module _ (p n q m : ℕ) (small : p + q + (n + m) ≤ 2 ^ 53) where
  made : (x : Float) (s : Bool) (c : ℕ) → c ≡ distance (p + q) (n + m) → Signed s (p + q) (n + m) → x ≡ round binary64 s c 1 → Whole x (p + q) (n + m)
  made x s c e o f =
      record {
        sign = s;
        value = subst (λ (z : Float). HasValue z s (distance (p + q) (n + m)) 1) (sym f) (subst (λ (a : ℕ). HasValue (round binary64 s c 1) s a 1) e (round_whole binary64 s c (omega (arith, distance_le (p + q) (n + m)))));
        signed = o;
      }

  module _ (w x y : ℕ) (w0 : 0 < w) (ex : x ≡ distance p n * w) (ey : y ≡ distance q m * w) where
    plus : (s : Bool) → round binary64 s (x + y) w ≡ round binary64 s (distance p n + distance q m) 1
    plus s = round_same binary64 s (x + y) w (distance p n + distance q m) 1 w0 (lit< tt) (mul-one (x + y) ∙ ap₂ (λ (u v : ℕ). u + v) ex ey ∙ sym (add-mul (distance p n) (distance q m) w))

    less : (s : Bool) → round binary64 s (x - y) w ≡ round binary64 s (distance p n - distance q m) 1
    less s = round_same binary64 s (x - y) w (distance p n - distance q m) 1 w0 (lit< tt) (mul-one (x - y) ∙ ap₂ (λ (u v : ℕ). u - v) ex ey ∙ sym (sub_mul (distance p n) (distance q m) w))

    more : (s : Bool) → round binary64 s (y - x) w ≡ round binary64 s (distance q m - distance p n) 1
    more s = round_same binary64 s (y - x) w (distance q m - distance p n) 1 w0 (lit< tt) (mul-one (y - x) ∙ ap₂ (λ (u v : ℕ). u - v) ey ex ∙ sym (sub_mul (distance q m) (distance p n) w))

    up_to : y ≤ x → distance q m ≤ distance p n
    up_to h = le_of_mul-le-mul_right {k = w} (le_trans (le_of_eq (sym ey)) (le_trans h (le_of_eq ex))) w0

    from : x ≤ y → distance p n ≤ distance q m
    from h = le_of_mul-le-mul_right {k = w} (le_trans (le_of_eq (sym ex)) (le_trans h (le_of_eq ey))) w0

    by_sign : (s t : Bool) → Signed s p n → Signed t q m → Whole (sum binary64 s x t y w) (p + q) (n + m)
    unfolding sum
    by_sign true true a b =
        let f = near p n a in
        let g = near q m b in
        made (round binary64 true (x + y) w) true (distance p n + distance q m) (near_is (p + q) (n + m) (distance p n + distance q m) (omega arith)) (omega arith) (plus true)
    by_sign false false a b =
        let f = far p n a in
        let g = far q m b in
        made (round binary64 false (x + y) w) false (distance p n + distance q m) (far_is (p + q) (n + m) (distance p n + distance q m) (omega arith)) (omega arith) (plus false)
    by_sign false true a b = go (ltb x y) (ltb→lt x y) (nltb→le x y)
      where
        go : (z : Bool) → (T z → x < y) → (T (not z) → y ≤ x) → Whole (cond z (round binary64 true (y - x) w) (round binary64 false (x - y) w)) (p + q) (n + m)
        go true h i =
            let f = far p n a in
            let g = near q m b in
            let l = from (le_of_lt (h tt)) in
            made (round binary64 true (y - x) w) true (distance q m - distance p n) (near_is (p + q) (n + m) (distance q m - distance p n) (omega arith)) (omega arith) (more true)
        go false h i =
            let f = far p n a in
            let g = near q m b in
            let l = up_to (i tt) in
            made (round binary64 false (x - y) w) false (distance p n - distance q m) (far_is (p + q) (n + m) (distance p n - distance q m) (omega arith)) (omega arith) (less false)
    by_sign true false a b = go (ltb x y) (ltb y x) (ltb→lt x y) (nltb→le x y) (nltb→le y x)
      where
        go : (z v : Bool) → (T z → x < y) → (T (not z) → y ≤ x) → (T (not v) → x ≤ y) → Whole (cond z (round binary64 false (y - x) w) (round binary64 (true && v) (x - y) w)) (p + q) (n + m)
        go true v h i j =
            let f = near p n a in
            let g = far q m b in
            let l = from (le_of_lt (h tt)) in
            made (round binary64 false (y - x) w) false (distance q m - distance p n) (far_is (p + q) (n + m) (distance q m - distance p n) (omega arith)) (omega arith) (more false)
        go false true h i j =
            let f = near p n a in
            let g = far q m b in
            let l = up_to (i tt) in
            made (round binary64 true (x - y) w) true (distance p n - distance q m) (near_is (p + q) (n + m) (distance p n - distance q m) (omega arith)) (omega arith) (less true)
        go false false h i j =
            let f = near p n a in
            let g = far q m b in
            let l = up_to (i tt) in
            let k = from (j tt) in
            made (round binary64 false (x - y) w) false (distance p n - distance q m) (far_is (p + q) (n + m) (distance p n - distance q m) (omega arith)) (omega arith) (less false)

  pub whole_add : (x y : Float) → Whole x p n → Whole y q m → Whole (add binary64 x y) (p + q) (n + m)
  unfolding add
  whole_add nan y a b = absurd a.value
  whole_add (inf t) y a b = absurd a.value
  whole_add (fin t u e) nan a b = absurd b.value
  whole_add (fin t u e) (inf r) a b = absurd b.value
  whole_add (fin t u e) (fin r v d) a b =
      subst (λ (z : Bool). Whole (sum binary64 z (u * up e * down d) r (v * up d * down e) (down e * down d)) (p + q) (n + m)) (sym a.value.0)
      (subst (λ (z : Bool). Whole (sum binary64 a.sign (u * up e * down d) z (v * up d * down e) (down e * down d)) (p + q) (n + m)) (sym b.value.0)
      (by_sign (down e * down d) (u * up e * down d) (v * up d * down e) (mul-pos (down_pos e) (down_pos d))
      (first (u * up e) (down e) (down d) (distance p n) a.value.1) (second (v * up d) (down e) (down d) (distance q m) b.value.1) a.sign b.sign a.signed b.signed))
    where
      first : (x p q c : ℕ) → x * 1 ≡ c * p → x * q ≡ c * (p * q)
      first x p q c h = ap (λ (z : ℕ). z * q) (sym (mul-one x) ∙ h) ∙ mul_assoc c p q

      second : (x p q c : ℕ) → x * 1 ≡ c * q → x * p ≡ c * (p * q)
      second x p q c h = ap (λ (z : ℕ). z * p) (sym (mul-one x) ∙ h) ∙ mul_assoc c q p ∙ ap (λ (z : ℕ). c * z) (mul_comm q p)

-- ---- the quotient
div_is : (x y : Float) (s : Bool) (a k : ℕ) → 0 < k → HasValue x s a 1 → HasValue y false k 1 → div binary64 x y ≡ round binary64 s a k
unfolding div
div_is nan y s a k K v w = absurd v
div_is (inf t) y s a k K v w = absurd v
div_is (fin t m e) nan s a k K v w = absurd w
div_is (fin t m e) (inf r) s a k K v w = absurd w
div_is (fin t m e) (fin true n d) s a k K v w = absurd (true≢false w.0)
div_is (fin t m e) (fin false n d) s a k K v w =
    subst (λ (z : Bool). div binary64 (fin z m e) (fin false n d) ≡ round binary64 s a k) (sym v.0)
    (like s (eqb n 0) (λ z. not_zero (eqb→eq n 0 z)) ∙ round_same binary64 s (m * up e * down d) (n * up d * down e) a k (mul-pos (mul-pos n_pos (up_pos d)) (down_pos e)) K (cross (m * up e) (n * up d) (down e) (down d) v.1 w.1))
  where
    f : n * up d ≡ k * down d
    f = sym (mul-one (n * up d)) ∙ w.1

    not_zero : n ≡ 0 → ⊥
    not_zero z =
        let g : k * down d ≡ 0 = sym f ∙ ap (λ (x : ℕ). x * up d) z ∙ zero-mul (up d) in
        let h : 0 < k * down d = mul-pos K (down_pos d) in
        omega arith

    n_pos : 0 < n
    n_pos = positive_of n not_zero
      where
        positive_of : (n : ℕ) → (n ≡ 0 → ⊥) → 0 < n
        positive_of zero h = absurd (h refl)
        positive_of (suc n) h = omega arith

    like : (s b : Bool) → (T b → ⊥) → cond b (cond (eqb m 0) nan (inf (not (beq s false)))) (round binary64 (not (beq s false)) (m * up e * down d) (n * up d * down e)) ≡ round binary64 s (m * up e * down d) (n * up d * down e)
    like s true h = absurd (h tt)
    like true false h = refl
    like false false h = refl

    cross : (x y p q : ℕ) → x * 1 ≡ a * p → y * 1 ≡ k * q → x * q * k ≡ a * (y * p)
    cross x y p q g h = ap (λ (z : ℕ). z * q * k) (sym (mul-one x) ∙ g) ∙ sort a p q k ∙ ap (λ (z : ℕ). a * (z * p)) (sym h ∙ mul-one y)
      where
        sort : (a p q k : ℕ) → a * p * q * k ≡ a * (k * q * p)
        sort a p q k = simp (mul_assoc, mul_comm, mul_left_comm)

pub whole_div : (x y : Float) (p n d : ℕ) → 0 < d → Whole x p n → HasValue y false d 1 → Rounded (div binary64 x y) (p - n) d
whole_div x y p n d D w v = go w.sign w.signed (div_is x y w.sign (distance p n) d D w.value v)
  where
    go : (s : Bool) → Signed s p n → div binary64 x y ≡ round binary64 s (distance p n) d → Rounded (div binary64 x y) (p - n) d
    go false h e = let f = far p n h in let g : distance p n ≡ p - n = omega arith in inl (e ∙ ap (λ (z : ℕ). round binary64 false z d) g)
    go true h e = let g : p - n ≡ 0 = omega arith in inr (g, λ z k. subst (λ (u : Float). lt u z ≡ true) (sym e) (round_below binary64 (distance p n) d z k))
