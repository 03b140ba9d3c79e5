-- Comparisons of floats that are not negative. Assumes nothing.
use mathlib.Core.Path.{◌≡◌, refl, sym, subst, ap, ◌∙◌}
use Prim.Native.Nat.{ℕ, zero, suc, ◌+◌, ◌*◌, ◌/◌, ◌^◌, ◌≤◌, ◌<◌}
use native.Mathlib.Nat.{mul-pos, le_of_lt}
use native.Mathlib.Omega.{arith}
use mathlib.Core.Bool.{Bool, true, false, not, ◌&&◌, ◌||◌, cond, true≢false}
use borrow.Author.Tests.{ltb-true, ltb-false, lt-ltb, le-ltb, eq-eqb}
use lib.Dec.{T, ltb, eqb, ltb→lt, eqb→eq, lit<}
use lib.Count.{count_trailing_zeros}
use lib.IntN.{ℤ, pos}
use lib.Ieee.{Float, nan, inf, fin, Format, prec, low, up, down, minus, lt, le, ne, odd, units, round, is_nan, emax}
use lib.Ieee.Fits.{round_is, up_pos, down_pos}
use lib.Ieee.Compare.{differs_from_itself}
use lib.Ieee.Positive.{positive}
use lib.Ieee.Order.{drop, kept}
use Rattle.floats.specs.inner.Floor.{within}

one_way : (a b : ℕ) → ltb a b ≡ true → ltb b a ≡ false
one_way a b e = le-ltb b a (le_of_lt (ltb-true a b e))

-- a number or an infinity, with the sign +
abbrev pub plain : Float → Bool
plain nan = false
plain (inf s) = not s
plain (fin s m e) = not s

pub not_nan : (x : Float) → T (plain x) → T (not (is_nan x))
unfolding is_nan
not_nan nan p = absurd p
not_nan (inf s) p = tt
not_nan (fin s m e) p = tt

or_none : (a b : ℕ) → a < b → T (ltb b a || (eqb b a && true)) → ⊥
or_none a b h t = go (ltb b a) (eqb b a) (ltb→lt b a) (eqb→eq b a) t
  where
    go : (x y : Bool) → (T x → b < a) → (T y → b ≡ a) → T (x || (y && true)) → ⊥
    go true y p q t = let z : b < a = p tt in omega arith
    go false true p q t = let z : b ≡ a = q tt in omega arith
    go false false p q t = t

or_some : (a b : ℕ) → b ≤ a → T (ltb b a || (eqb b a && true))
or_some a b h = go (ltb b a) (eqb b a) (λ e. ltb-false b a e) (λ e. eq-eqb b a e)
  where
    go : (x y : Bool) → (x ≡ false → a ≤ b) → (b ≡ a → y ≡ true) → T (x || (y && true))
    go true y p q = tt
    go false y p q = let z : a ≤ b = p refl in subst (λ (v : Bool). T (false || (v && true))) (sym (q (omega arith))) tt

pub lt_le : (x y : Float) → T (plain x) → T (plain y) → lt x y ≡ true → T (le y x) → ⊥
unfolding lt le
lt_le nan y p q e l = absurd p
lt_le (inf s) nan p q e l = absurd q
lt_le (inf true) (inf t) p q e l = absurd p
lt_le (inf false) (inf t) p q e l = absurd (true≢false (sym e))
lt_le (inf true) (fin t n d) p q e l = absurd p
lt_le (inf false) (fin t n d) p q e l = absurd (true≢false (sym e))
lt_le (fin s m k) nan p q e l = absurd q
lt_le (fin s m k) (inf true) p q e l = absurd q
lt_le (fin s m k) (inf false) p q e l = absurd l
lt_le (fin true m k) (fin t n d) p q e l = absurd p
lt_le (fin false m k) (fin true n d) p q e l = absurd q
lt_le (fin false m k) (fin false n d) p q e l = or_none (m * up k * down d) (n * up d * down k) (ltb-true (m * up k * down d) (n * up d * down k) e) l

pub not_lt : (x y : Float) → T (plain x) → T (plain y) → lt x y ≡ false → T (le y x)
unfolding lt le
not_lt nan y p q e = absurd p
not_lt (inf s) nan p q e = absurd q
not_lt (inf true) (inf t) p q e = absurd p
not_lt (inf false) (inf true) p q e = absurd q
not_lt (inf false) (inf false) p q e = tt
not_lt (inf true) (fin t n d) p q e = absurd p
not_lt (inf false) (fin true n d) p q e = absurd q
not_lt (inf false) (fin false n d) p q e = tt
not_lt (fin s m k) nan p q e = absurd q
not_lt (fin s m k) (inf true) p q e = absurd q
not_lt (fin s m k) (inf false) p q e = absurd (true≢false e)
not_lt (fin true m k) (fin t n d) p q e = absurd p
not_lt (fin false m k) (fin true n d) p q e = absurd q
not_lt (fin false m k) (fin false n d) p q e = or_some (m * up k * down d) (n * up d * down k) (ltb-false (m * up k * down d) (n * up d * down k) e)

-- ---- a rounded fraction is such a float

odd_plain : (d q k l : ℕ) → T (plain (odd d false q k l))
unfolding odd
odd_plain d zero k l = tt
odd_plain d (suc q) k l = tt

units_plain : (f : Format) (q k : ℕ) → T (plain (units f false q k))
unfolding units
units_plain f q k = go (ltb (q * 2 ^ k) (2 ^ (low f + suc (emax f))))
  where
    go : (b : Bool) → T (plain (cond b (odd (suc (prec f)) false q k (low f)) (inf false)))
    go true = odd_plain (suc (prec f)) q k (low f)
    go false = tt

pub round_plain : (f : Format) (a c : ℕ) → T (plain (round f false a c))
round_plain f a c = subst (λ (x : Float). T (plain x)) (sym (round_is f false a c)) (units_plain f (kept (prec f) (a * 2 ^ low f) c) (drop (prec f) (a * 2 ^ low f) c))

-- ---- and with the sign -, it is below every number above zero

below_odd : (d q k l n : ℕ) (e : ℤ) → 0 < n → lt (odd d true q k l) (fin false n e) ≡ true
unfolding odd lt
below_odd d zero k l n e h = lt-ltb 0 (0 * up (pos 0) * down e + n * up e * 1) (some (0 * up (pos 0) * down e) (n * up e * 1) (mul-pos (mul-pos h (up_pos e)) (lit< tt)))
  where
    some : (a b : ℕ) → 0 < b → 0 < a + b
    some a b h = omega arith
below_odd d (suc q) k l n e h =
    let t = count_trailing_zeros d (suc q) in
    let x = minus (k + t) l in
    let a = suc q / 2 ^ t * up x * down e in
    lt-ltb 0 (a + n * up e * down x) (some a (n * up e * down x) (mul-pos (mul-pos h (up_pos e)) (down_pos x)))
  where
    some : (a b : ℕ) → 0 < b → 0 < a + b
    some a b h = omega arith

below_units : (f : Format) (q k n : ℕ) (e : ℤ) → 0 < n → lt (units f true q k) (fin false n e) ≡ true
unfolding units lt
below_units f q k n e h = go (ltb (q * 2 ^ k) (2 ^ (low f + suc (emax f))))
  where
    go : (b : Bool) → lt (cond b (odd (suc (prec f)) true q k (low f)) (inf true)) (fin false n e) ≡ true
    go true = below_odd (suc (prec f)) q k (low f) n e h
    go false = refl

pub round_below : (f : Format) (a c : ℕ) (y : Float) → T (positive y) → lt (round f true a c) y ≡ true
round_below f a c nan p = absurd p
round_below f a c (inf s) p = absurd p
round_below f a c (fin true n e) p = absurd p
round_below f a c (fin false n e) p = subst (λ (x : Float). lt x (fin false n e) ≡ true) (sym (round_is f true a c)) (below_units f (kept (prec f) (a * 2 ^ low f) c) (drop (prec f) (a * 2 ^ low f) c) n e (ltb→lt 0 n p))

-- ---- of two numbers that differ, one is below the other
pub lt_not : (x y : Float) → lt x y ≡ true → lt y x ≡ false
unfolding lt
lt_not nan y e = absurd (true≢false (sym e))
lt_not (inf s) nan e = absurd (true≢false (sym e))
lt_not (inf true) (inf true) e = refl
lt_not (inf true) (inf false) e = refl
lt_not (inf false) (inf t) e = absurd (true≢false (sym e))
lt_not (inf s) (fin t n d) e = ap not e
lt_not (fin s m k) nan e = absurd (true≢false (sym e))
lt_not (fin s m k) (inf true) e = absurd (true≢false (sym e))
lt_not (fin s m k) (inf false) e = refl
lt_not (fin false m k) (fin false n d) e = one_way (m * up k * down d) (n * up d * down k) e
lt_not (fin false m k) (fin true n d) e = absurd (true≢false (sym e))
lt_not (fin true m k) (fin false n d) e = refl
lt_not (fin true m k) (fin true n d) e = one_way (n * up d * down k) (m * up k * down d) e

-- what is below, or above, is no NaN
pub lt_number : (x y : Float) → lt x y ≡ true → T (not (is_nan x)) × T (not (is_nan y))
unfolding lt is_nan
lt_number nan y e = absurd (true≢false (sym e))
lt_number (inf s) nan e = absurd (true≢false (sym e))
lt_number (inf s) (inf t) e = (tt, tt)
lt_number (inf s) (fin t n d) e = (tt, tt)
lt_number (fin s m k) nan e = absurd (true≢false (sym e))
lt_number (fin s m k) (inf t) e = (tt, tt)
lt_number (fin s m k) (fin t n d) e = (tt, tt)

-- ---- what the two comparisons bring a float to

-- below a number, or brought to it, a number
pub within-number : (lo hi t : Float) → T (not (is_nan hi)) → T (not (is_nan (within lo hi t)))
unfolding within
within-number lo hi t b = go (lt (cond (lt lo t) t lo) hi) refl
  where
    go : (z : Bool) → lt (cond (lt lo t) t lo) hi ≡ z → T (not (is_nan (cond z (cond (lt lo t) t lo) hi)))
    go true e = (lt_number (cond (lt lo t) t lo) hi e).0
    go false e = b

-- what is not above the lower number is brought to it, or to the upper, if that is not above it
pub within_low : (lo hi t : Float) → lt lo t ≡ false → within lo hi t ≡ cond (lt lo hi) lo hi
unfolding within
within_low lo hi t e = ap (λ (z : Bool). cond (lt (cond z t lo) hi) (cond z t lo) hi) e

pub within-high : (lo hi t : Float) → lt lo t ≡ true → lt t hi ≡ false → within lo hi t ≡ hi
unfolding within
within-high lo hi t e f = ap (λ (z : Bool). cond (lt (cond z t lo) hi) (cond z t lo) hi) e ∙ ap (λ (z : Bool). cond z t hi) f

pub within_same : (lo hi t : Float) → lt lo t ≡ true → lt t hi ≡ true → within lo hi t ≡ t
unfolding within
within_same lo hi t e f = ap (λ (z : Bool). cond (lt (cond z t lo) hi) (cond z t lo) hi) e ∙ ap (λ (z : Bool). cond z t hi) f

-- ---- a number differs from one above zero if one of them is below the other

unlike : (a b : ℕ) → not (eqb a b && true) ≡ ltb a b || ltb b a
unlike a b = go (ltb a b) (ltb b a) (eqb a b) (ltb-true a b) (ltb-false a b) (ltb-true b a) (ltb-false b a) (eqb→eq a b) (eq-eqb a b)
  where
    go : (p q e : Bool) → (p ≡ true → a < b) → (p ≡ false → b ≤ a) → (q ≡ true → b < a) → (q ≡ false → a ≤ b) → (T e → a ≡ b) → (a ≡ b → e ≡ true) → not (e && true) ≡ p || q
    go p q true f g h i j k = let x : a ≡ b = j tt in none p q (λ e. let y = f e in omega arith) (λ e. let y = h e in omega arith)
      where
        none : (p q : Bool) → (p ≡ true → ⊥) → (q ≡ true → ⊥) → false ≡ p || q
        none true q y z = absurd (y refl)
        none false true y z = absurd (z refl)
        none false false y z = refl
    go true q false f g h i j k = refl
    go false true false f g h i j k = refl
    go false false false f g h i j k = let x = g refl in let y = i refl in absurd (true≢false (sym (k (omega arith))))

pub differs : (x y : Float) → T (positive x) → T (not (is_nan y)) → ne x y ≡ lt x y || lt y x
unfolding ne lt is_nan
differs nan y p q = absurd p
differs (inf s) y p q = absurd p
differs (fin true m e) y p q = absurd p
differs (fin false m e) nan p q = absurd q
differs (fin false m e) (inf true) p q = refl
differs (fin false m e) (inf false) p q = refl
differs (fin false m e) (fin false n d) p q = unlike (m * up e * down d) (n * up d * down e)
differs (fin false m e) (fin true n d) p q =
    let a = m * up e * down d in
    let h : 0 < a = mul-pos (mul-pos (ltb→lt 0 m p) (up_pos e)) (down_pos d) in
    ap (λ (z : Bool). not (eqb a (n * up d * down e) && z)) (zero-none a h) ∙ none (eqb a (n * up d * down e)) ∙ sym (lt-ltb 0 (n * up d * down e + a) (omega arith))
  where
    zero-none : (a : ℕ) → 0 < a → eqb a 0 ≡ false
    zero-none a h = go (eqb a 0) (eqb→eq a 0)
      where
        go : (e : Bool) → (T e → a ≡ 0) → e ≡ false
        go true f = let x : a ≡ 0 = f tt in absurd (omega arith)
        go false f = refl

    none : (z : Bool) → not (z && false) ≡ true
    none true = refl
    none false = refl

-- and a number does not differ from itself
pub itself : (x : Float) → T (not (is_nan x)) → ne x x ≡ false
unfolding is_nan
itself x n = go (ne x x) (λ e. differs_from_itself x (subst T (sym e) tt))
  where
    go : (z : Bool) → (z ≡ true → x ≡ nan) → z ≡ false
    go true f = absurd (subst (λ (y : Float). T (not (is_nan y))) (f refl) n)
    go false f = refl
