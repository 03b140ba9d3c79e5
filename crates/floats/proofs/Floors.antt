-- A fraction that is rounded to an f64, and brought to two ends from 4096 to 8192, keeps its whole part, and is changed exactly if it lies outside them, where no whole number lies within 2 ^ -40 of it but itself. Assumes nothing.
use mathlib.Core.Path.{◌≡◌, refl, sym, ap, ap₂, ◌∙◌, subst}
use mathlib.Core.Logic.{◌⊎◌, inl, inr}
use Prim.Native.Nat.{ℕ, suc, ◌+◌, ◌-◌, ◌*◌, ◌/◌, ◌%◌, ◌^◌, ◌≤◌, ◌<◌}
use native.Mathlib.Nat.{le_trans, le_of_eq, le_of_suc-le-suc, lt_of_lt_of_le, lt_of_le_of_lt, lt_of_not-le, div-mul-le_self, mul-lt-mul_of_pos_right, lt_of_mul-lt-mul_right, mul-one, mul_assoc, mul_right_comm, mul-le-mul_right, mul-pos, le_of_mul-le-mul_right, add-mul, one-mul, le-div_iff_mul-le, div-lt_iff_lt-mul, div-eq_of_lt, add-mul-div_right}
use native.Mathlib.Omega.{arith}
use native.Mathlib.Numerals.{lt-add-one}
use mathlib.Core.Bool.{Bool, true, false, not, cond, ◌||◌, true≢false}
use borrow.Author.Tests.{ltb-true, ltb-false, lt-ltb, leb-true, leb-false}
use lib.Dec.{T, leb, ltb, leb→le, nleb→lt, ltb→lt, nltb→le, lit<, lit≤}
use lib.IntN.{negsuc}
use lib.Pow.{pow-add, pow_mono, shl_lt}
use lib.Ieee.{Float, nan, inf, fin, binary64, up, down, round, sum, sub, lt, le, ne, is_nan}
use lib.Ieee.Fits.{down_pos}
use lib.Ieee.Exact.{HasValue, round_exact}
use lib.Ieee.Back.{round_whole}
use lib.Ieee.Order.{round_mono}
use lib.Ieee.Scale.{round_same}
use lib.Ieee.Positive.{num, den, den_pos, positive, positive_of_value, own_value, value→cross, values_of_le, between, mul_at}
use Rattle.lists.proofs.Numbers.{sub_mul}
use Rattle.fractions.specs.Fraction.{bounded}
use Rattle.fractions.proofs.Cuts.{outside}
use Rattle.floats.specs.declared.Ends.{Ends}
use Rattle.floats.specs.declared.FloatEnds.{FloatEnds}
use Rattle.floats.specs.inner.Floor.{first_of, in_units, within, in_floats, last_of, brought, whole_of, clamped_by, clamped_within}
use Rattle.floats.proofs.Compared.{not_nan, lt_le, not_lt, lt_not, round_plain, within-number, within_low, within-high, within_same, differs, itself, lt_number}
use Rattle.floats.proofs.Pattern.{whole_is}

-- 2 ^ 40
abbrev E : ℕ
E = 1099511627776

-- ---- units of 2 ^ -40

abbrev pub unit : ℕ → Float
unit k = round binary64 false k E

unit_value : (k : ℕ) → k ≤ 2 ^ 53 → HasValue (unit k) false k E
unit_value k h = go (ltb k (2 ^ 53)) (ltb→lt k (2 ^ 53)) (nltb→le k (2 ^ 53))
  where
    go : (b : Bool) → (T b → k < 2 ^ 53) → (T (not b) → 2 ^ 53 ≤ k) → HasValue (unit k) false k E
    go true f g =
        let s = f tt in
        round_exact binary64 false k E k 1034 (lit< tt) s (lt_of_lt_of_le (shl_lt 53 1034 s) (pow_mono {i = 1087} {j = 2098} (lit≤ tt))) (ap (λ (x : ℕ). k * x) (pow-add 2 1034 40) ∙ sym (mul_assoc k (2 ^ 1034) (2 ^ 40)))
    go false f g =
        let l : 2 ^ 53 ≤ k = g tt in
        let e : 2 ^ 53 ≡ k = omega arith in
        subst (λ (x : ℕ). HasValue (unit x) false x E) e (round_exact binary64 false (2 ^ 53) E 1 1087 (lit< tt) (lit< tt) (lit< tt) refl)

pub unit_positive : (k : ℕ) → 0 < k → k ≤ 2 ^ 53 → T (positive (unit k))
unit_positive k z h = positive_of_value (unit k) k E (unit_value k h) z

-- as the code has them
pub in_units_lem : (k : ℕ) → 0 < k → k ≤ 2 ^ 53 → in_units k ≡ unit k
in_units_lem k z h =
    let v = round_whole binary64 false k h in
    mul_at binary64 (round binary64 false k 1) (fin false 1 (negsuc 39)) k 1 1 E (positive_of_value (round binary64 false k 1) k 1 v z) tt (lit< tt) (lit< tt) v (refl, refl)
    ∙ ap (λ (x : ℕ). round binary64 false x E) (mul-one k)

-- a unit below k
less_one : (x : Float) (k : ℕ) → 0 < k → HasValue x false k 1 → sub binary64 x (fin false 1 (negsuc 39)) ≡ unit (k * E - 1)
unfolding sub sum
less_one nan k K v = absurd v
less_one (inf t) k K v = absurd v
less_one (fin true m e) k K v = absurd (true≢false v.0)
less_one (fin false m e) k K v =
    let a = m * up e * E in
    let c = down e in
    let w : m * up e ≡ k * c = sym (mul-one (m * up e)) ∙ v.1 in
    let b : 1 * 1 * c ≡ c = one-mul c in
    let o : c ≤ k * c = le_trans (le_of_eq (sym b)) (mul-le-mul_right c K) in
    let l : 1 * 1 * c ≤ a = omega (arith, w, b) in
    pick a (1 * 1 * c) (c * E) l
    ∙ round_same binary64 false (a - 1 * 1 * c) (c * E) (k * E - 1) E (mul-pos {m = c} {n = E} (down_pos e) (lit< tt)) (lit< tt)
    (scaled (k * E) c a (omega (arith, w, mul_right_comm k E c)) b)
  where
    pick : (a b c : ℕ) → b ≤ a → sum binary64 false a true b c ≡ round binary64 false (a - b) c
    pick a b c h = go (ltb a b) (ltb→lt a b)
      where
        go : (t : Bool) → (T t → a < b) → cond t (round binary64 true (b - a) c) (round binary64 false (a - b) c) ≡ round binary64 false (a - b) c
        go true k = let z : a < b = k tt in absurd (omega arith)
        go false k = refl

    scaled : (q c a : ℕ) → a ≡ q * c → 1 * 1 * c ≡ c → (a - 1 * 1 * c) * E ≡ (q - 1) * (c * E)
    scaled q c a f b = ap₂ (λ (x y : ℕ). (x - y) * E) f b ∙ ap (λ (x : ℕ). x * E) (sym (sub_mul q 1 c ∙ ap (λ (x : ℕ). q * c - x) (one-mul c))) ∙ mul_assoc (q - 1) c E

last-unit : (high : ℕ) → high < 65536 → last_of high ≡ unit ((high + 4097) * E - 1)
last-unit high h = less_one (round binary64 false (high + 4097) 1) (high + 4097) (omega arith) (round_whole binary64 false (high + 4097) (omega arith))

-- the upper end is a number, and so is all that is brought to it
pub brought-number : (f : FloatEnds) (t : Float) → f.high < 65536 → T (not (is_nan (brought f t)))
unfolding brought
brought-number f t h =
    within-number f.first (last_of f.high) t
    (subst (λ (x : Float). T (not (is_nan x))) (sym (last-unit f.high h)) (not_nan (unit ((f.high + 4097) * E - 1)) (round_plain binary64 ((f.high + 4097) * E - 1) E)))

-- the whole part of k units
whole-unit : (v k : ℕ) → v ≤ 4095 → (v + 4096) * E ≤ k → k < (v + 4097) * E → whole_of (unit k) ≡ v
whole-unit v k h lo hi =
    let s : k ≤ 2 ^ 53 = omega arith in
    let p = unit_positive k (omega arith) s in
    let x = unit k in
    let e : num x * E ≡ k * den x = value→cross x k E (unit_value k s) in
    let a : (v + 4096) * E * den x ≤ k * den x = mul-le-mul_right (den x) lo in
    let b : k * den x < (v + 4097) * E * den x = mul-lt-mul_of_pos_right hi (den_pos x) in
    whole_is x (v + 4096) p
    (le_of_mul-le-mul_right {k = E} (le_trans (le_of_eq (mul_right_comm (v + 4096) (den x) E)) (le_trans a (le_of_eq (sym e)))) (lit< tt))
    (lt_of_mul-lt-mul_right E (lt_of_le_of_lt (le_of_eq e) (lt_of_lt_of_le b (le_of_eq (mul_right_comm (v + 4097) E (den x) ∙ ap (λ (y : ℕ). y * den x * E) (more v))))))
    (omega arith) (omega arith)
    ∙ less v
  where
    more : (v : ℕ) → v + 4097 ≡ v + 4096 + 1
    more v = omega arith

    less : (v : ℕ) → v + 4096 - 4096 ≡ v
    less v = omega arith

-- ---- a rounded fraction beside units

-- no whole number lies less than 2 ^ -40 above n / d, and none less than that below
pub record Apart (n d : ℕ) : Type 0 where
  pub above : (k : ℕ) → n < k * d → n * E + d ≤ k * d * E
  pub below : (k : ℕ) → k * d < n → k * d * E + d ≤ n * E

module _ (n d : ℕ) (d0 : 0 < d) where
  abbrev t : Float
  t = round binary64 false n d

  over : (k : ℕ) → k * d ≤ n * E → T (le (unit k) t)
  over k h = round_mono binary64 k E n d (lit< tt) d0 h

  upto : (k : ℕ) → n * E ≤ k * d → T (le t (unit k))
  upto k h = round_mono binary64 n d k E d0 (lit< tt) h

  -- what is not above k units is below k + 1, and what is not below k + 1 is above k
  below_next : (k : ℕ) → 0 < k → k + 1 ≤ 2 ^ 53 → n * E ≤ k * d → lt t (unit (k + 1)) ≡ true
  below_next k z s h = go (lt t (unit (k + 1))) refl
    where
      go : (b : Bool) → lt t (unit (k + 1)) ≡ b → b ≡ true
      go true e = refl
      go false e =
          let l : T (le (unit (k + 1)) t) = not_lt t (unit (k + 1)) (round_plain binary64 n d) (round_plain binary64 (k + 1) E) e in
          let a = unit_positive k z (omega arith) in
          let b = unit_positive (k + 1) (omega arith) s in
          let p = between (unit (k + 1)) t (unit k) b a l (upto k h) in
          let x = values_of_le (unit (k + 1)) t (k + 1) E (num t) (den t) b p (unit_value (k + 1) s) (own_value t p) l in
          let y = values_of_le t (unit k) (num t) (den t) k E p a (own_value t p) (unit_value k (omega arith)) (upto k h) in
          absurd (omega (arith, den_pos t, add-mul k 1 (den t), one-mul (den t)))

  above_last : (k : ℕ) → 0 < k → k + 1 ≤ 2 ^ 53 → (k + 1) * d ≤ n * E → lt (unit k) t ≡ true
  above_last k z s h = go (lt (unit k) t) refl
    where
      go : (b : Bool) → lt (unit k) t ≡ b → b ≡ true
      go true e = refl
      go false e =
          let l : T (le t (unit k)) = not_lt (unit k) t (round_plain binary64 k E) (round_plain binary64 n d) e in
          let a = unit_positive k z (omega arith) in
          let b = unit_positive (k + 1) (omega arith) s in
          let p = between (unit (k + 1)) t (unit k) b a (over (k + 1) h) l in
          let x = values_of_le (unit (k + 1)) t (k + 1) E (num t) (den t) b p (unit_value (k + 1) s) (own_value t p) (over (k + 1) h) in
          let y = values_of_le t (unit k) (num t) (den t) k E p a (own_value t p) (unit_value k (omega arith)) l in
          absurd (omega (arith, den_pos t, add-mul k 1 (den t), one-mul (den t)))

  not_below : (k : ℕ) → k * d ≤ n * E → lt t (unit k) ≡ false
  not_below k h = go (lt t (unit k)) refl
    where
      go : (b : Bool) → lt t (unit k) ≡ b → b ≡ false
      go true e = absurd (lt_le t (unit k) (round_plain binary64 n d) (round_plain binary64 k E) e (over k h))
      go false e = refl

  not_above : (k : ℕ) → n * E ≤ k * d → lt (unit k) t ≡ false
  not_above k h = go (lt (unit k) t) refl
    where
      go : (b : Bool) → lt (unit k) t ≡ b → b ≡ false
      go true e = absurd (lt_le (unit k) t (round_plain binary64 k E) (round_plain binary64 n d) e (upto k h))
      go false e = refl

-- ---- what a float is brought to, and whether that changes it
module _ (lo hi : Float) (p : T (positive lo)) (q : T (positive hi)) (order : lt lo hi ≡ true) where
  pub brought_low : (t : Float) → lt lo t ≡ false → within lo hi t ≡ lo
  brought_low t e = within_low lo hi t e ∙ ap (λ (z : Bool). cond z lo hi) order

  pub changed : (t : Float) → T (not (is_nan t)) → ne (within lo hi t) t ≡ cond (lt lo t) (lt hi t) (lt t lo)
  changed t n = first (lt lo t) refl
    where
      second : (b : Bool) → lt t hi ≡ b → lt lo t ≡ true → ne (within lo hi t) t ≡ lt hi t
      second true f e = ap (λ (x : Float). ne x t) (within_same lo hi t e f) ∙ itself t n ∙ sym (lt_not t hi f)
      second false f e = ap (λ (x : Float). ne x t) (within-high lo hi t e f) ∙ differs hi t q n ∙ ap (λ (z : Bool). lt hi t || z) f ∙ or_false (lt hi t)
        where
          or_false : (z : Bool) → z || false ≡ z
          or_false true = refl
          or_false false = refl

      first : (b : Bool) → lt lo t ≡ b → ne (within lo hi t) t ≡ cond b (lt hi t) (lt t lo)
      first true e = second (lt t hi) refl e
      first false e = ap (λ (x : Float). ne x t) (brought_low t e) ∙ differs lo t p n ∙ ap (λ (z : Bool). z || lt t lo) e

-- ---- the ends of a clamp

-- the two parts of what a clamp gives
abbrev pub whole_within : Ends → Float → ℕ
whole_within e t = whole_of (brought (in_floats e) t)

abbrev pub cut_within : Ends → Float → Bool
cut_within e t = ne (brought (in_floats e) t) t

module _ (e : Ends) (order : e.low ≤ e.high) (top : e.high ≤ 4095) where
  abbrev low : ℕ
  low = e.low

  abbrev high : ℕ
  high = e.high

  abbrev step : ℕ
  step = cond e.strict 1 0

  step_le : step ≤ 1
  step_le = go e.strict
    where
      go : (b : Bool) → cond b 1 0 ≤ 1
      go true = lit≤ tt
      go false = lit≤ tt

  -- the first and the last within them, in units
  abbrev pub F : ℕ
  F = (low + 4096) * E + step

  abbrev pub L : ℕ
  L = (high + 4097) * E - 1

  abbrev lo : Float
  lo = unit F

  abbrev hi : Float
  hi = unit L

  first_is : in_units (first_of e) ≡ lo
  first_is = let m : low % 4096 ≡ low = omega arith in ap (λ (x : ℕ). in_units ((x + 4096) * E + step)) m ∙ in_units_lem F (omega arith) (omega (arith, step_le))

  last_is : last_of high ≡ hi
  last_is = last-unit high (omega arith)

  lo_positive : T (positive lo)
  lo_positive = unit_positive F (omega arith) (omega (arith, step_le))

  hi_positive : T (positive hi)
  hi_positive = unit_positive L (omega arith) (omega arith)

  ordered : lt lo hi ≡ true
  ordered = above_last L E (lit< tt) F (omega arith) (omega (arith, step_le)) (omega (arith, step_le))

  brought_is : (t : Float) → brought (in_floats e) t ≡ within lo hi t
  unfolding brought
  brought_is t = ap₂ (λ (x y : Float). within x y t) first_is last_is

  low_whole : whole_of lo ≡ low
  low_whole = whole-unit low F (omega arith) (omega arith) (omega (arith, step_le))

  high-whole : whole_of hi ≡ high
  high-whole = whole-unit high L top (omega arith) (omega arith)

  -- ---- what is below every number above zero, and what is above
  pub whole_below : (t : Float) → ((y : Float) → T (positive y) → lt t y ≡ true) → whole_within e t ≡ low
  whole_below t h = ap whole_of (brought_is t ∙ brought_low lo hi lo_positive hi_positive ordered t (lt_not t lo (h lo lo_positive))) ∙ low_whole

  pub whole_above : (t : Float) → ((y : Float) → T (positive y) → lt y t ≡ true) → whole_within e t ≡ high
  whole_above t h = ap whole_of (brought_is t ∙ within-high lo hi t (h lo lo_positive) (lt_not hi t (h hi hi_positive))) ∙ high-whole

  cut_as : (t : Float) → T (not (is_nan t)) → cut_within e t ≡ cond (lt lo t) (lt hi t) (lt t lo)
  cut_as t n = ap (λ (x : Float). ne x t) (brought_is t) ∙ changed lo hi lo_positive hi_positive ordered t n

  pub cut_below : (t : Float) → ((y : Float) → T (positive y) → lt t y ≡ true) → cut_within e t ≡ true
  cut_below t h = let l = h lo lo_positive in cut_as t (lt_number t lo l).0 ∙ ap₂ (λ (x y : Bool). cond x (lt hi t) y) (lt_not t lo l) l

  pub cut_above : (t : Float) → ((y : Float) → T (positive y) → lt y t ≡ true) → cut_within e t ≡ true
  cut_above t h = cut_as t (lt_number lo t (h lo lo_positive)).1 ∙ ap₂ (λ (x y : Bool). cond x y (lt t lo)) (h lo lo_positive) (h hi hi_positive)

  -- ---- a rounded fraction
  module _ (n d : ℕ) (d0 : 0 < d) (apart : Apart n d) where
    abbrev x : Float
    x = round binary64 false n d

    numbers : T (not (is_nan x))
    numbers = not_nan x (round_plain binary64 n d)

    -- a whole number's units over d
    abbrev K : ℕ
    K = low + 4096

    abbrev M : ℕ
    M = high + 4097

    times : (k : ℕ) → k * E * d ≡ k * d * E
    times k = mul_right_comm k E d

    less : (k : ℕ) → 0 < k → (k * E - 1) * d + d ≡ k * d * E
    less k z =
        let w = k * E - 1 in
        let e1 : w + 1 ≡ k * E = omega arith in
        sym (ap (λ (y : ℕ). w * d + y) (one-mul d)) ∙ sym (add-mul w 1 d) ∙ ap (λ (y : ℕ). y * d) e1 ∙ times k

    -- below a whole number, and from it on
    under : (k : ℕ) → 0 < k → k ≤ 8191 → n < k * d → (m : ℕ) → k * E ≤ m → m ≤ 2 ^ 53 → lt x (unit m) ≡ true
    under k z s h m l r =
        let a = below_next n d d0 (m - 1) (omega arith) (omega arith) (le_trans (omega (arith, less k z, apart.above k h)) (mul-le-mul_right {m = k * E - 1} {n = m - 1} d (omega arith))) in
        let q : m - 1 + 1 ≡ m = omega arith in
        subst (λ (y : ℕ). lt x (unit y) ≡ true) q a

    from : (k : ℕ) → k * d ≤ n → (m : ℕ) → 0 < m → m < k * E → m + 1 ≤ 2 ^ 53 → lt (unit m) x ≡ true
    from k h m z l s = above_last n d d0 m z s (le_trans (mul-le-mul_right {m = m + 1} {n = k * E} d (omega arith)) (omega (arith, times k)))

    low_out : (b : Bool) → step ≡ cond b 1 0 → n < K * d + cond b 1 0 → lt x lo ≡ true
    low_out false s h = under K (omega arith) (omega arith) (omega arith) F (omega arith) (omega (arith, step_le))
    low_out true s h =
        let a = below_next n d d0 (K * E) (omega arith) (omega arith) (omega (arith, times K)) in
        subst (λ (y : ℕ). lt x (unit y) ≡ true) (omega arith) a

    low_in : (b : Bool) → step ≡ cond b 1 0 → K * d + cond b 1 0 ≤ n → lt x lo ≡ false
    low_in false s h = not_below n d d0 F (omega (arith, times K, ap (λ (y : ℕ). (K * E + y) * d) s, add-mul (K * E) 0 d))
    low_in true s h = not_below n d d0 F (omega (arith, apart.below K (omega arith), times K, ap (λ (y : ℕ). (K * E + y) * d) s, add-mul (K * E) 1 d, one-mul d))

    high_out : M * d ≤ n → lt hi x ≡ true
    high_out h = from M h L (omega arith) (omega arith) (omega arith)

    high_in : n < M * d → lt hi x ≡ false
    high_in h = not_above n d d0 L (omega (arith, apart.above M h, less M (omega arith)))

    pub cut_is : cut_within e x ≡ outside e.strict low high n d
    cut_is = cut_as x numbers ∙ first (ltb n (K * d + step)) refl
      where
        second : (b c : Bool) → leb (M * d) n ≡ b → lt lo x ≡ c → lt x lo ≡ false → cond c (lt hi x) (lt x lo) ≡ b
        second true true f g h = high_out (leb-true (M * d) n f)
        second true false f g h =
            let a = from M (leb-true (M * d) n f) F (omega arith) (omega (arith, step_le)) (omega (arith, step_le)) in
            absurd (true≢false (sym a ∙ g))
        second false true f g h = high_in (leb-false (M * d) n f)
        second false false f g h = h

        first : (b : Bool) → ltb n (K * d + step) ≡ b → cond (lt lo x) (lt hi x) (lt x lo) ≡ b || leb (M * d) n
        first true f =
            let a = low_out e.strict refl (ltb-true n (K * d + step) f) in
            ap₂ (λ (y z : Bool). cond y (lt hi x) z) (lt_not x lo a) a
        first false f = second (leb (M * d) n) (lt lo x) refl refl (low_in e.strict refl (ltb-false n (K * d + step) f))

    abbrev answer : ℕ
    answer = bounded low high (n / d - 4096)

    -- its own whole part, where it lies within
    inside : K * d ≤ n → n < M * d → whole_of x ≡ answer
    inside a b = at (n / d) ((le-div_iff_mul-le d0).1 a) ((div-lt_iff_lt-mul d0).1 b) (div-mul-le_self n d) ((div-lt_iff_lt-mul d0).0 (lt-add-one (n / d)))
      where
        scaled : (v a c : ℕ) → 0 < c → a * E ≤ ((v + 1) * E - 1) * c → a < (v + 1) * c
        scaled v a c C h =
            let w = (v + 1) * E - 1 in
            let e1 : w + 1 ≡ (v + 1) * E = omega arith in
            let e2 : w * c + c ≡ (v + 1) * c * E = sym (ap (λ (y : ℕ). w * c + y) (one-mul c)) ∙ sym (add-mul w 1 c) ∙ ap (λ (y : ℕ). y * c) e1 ∙ mul_right_comm (v + 1) E c in
            omega arith

        at : (v : ℕ) → K ≤ v → v < M → v * d ≤ n → n < (v + 1) * d → whole_of x ≡ bounded low high (v - 4096)
        at v f g lower upper =
            let u = (v + 1) * E - 1 in
            let l = over n d d0 (v * E) (omega (arith, times v)) in
            let r = upto n d d0 u (omega (arith, apart.above (v + 1) upper, less (v + 1) (omega arith))) in
            let p = between (unit (v * E)) x (unit u) (unit_positive (v * E) (omega arith) (omega arith)) (unit_positive u (omega arith) (omega arith)) l r in
            let y = values_of_le (unit (v * E)) x (v * E) E (num x) (den x) (unit_positive (v * E) (omega arith) (omega arith)) p (unit_value (v * E) (omega arith)) (own_value x p) l in
            let z = values_of_le x (unit u) (num x) (den x) u E p (unit_positive u (omega arith) (omega arith)) (own_value x p) (unit_value u (omega arith)) r in
            whole_is x v p (omega (arith, y, mul_right_comm v E (den x))) (scaled v (num x) (den x) (den_pos x) z) (omega arith) (omega arith)
            ∙ omega arith

    pub floor_is : whole_within e x ≡ answer
    floor_is = ap whole_of (brought_is x) ∙ first (lt lo x) refl
      where
        -- not above the first, and not below the last
        small : lt lo x ≡ false → low ≡ answer
        small f =
            let g : n / d < low + 4097 = (div-lt_iff_lt-mul d0).1 (lt_of_not-le (λ (g : (low + 4097) * d ≤ n). true≢false (sym (from (low + 4097) g F (omega arith) (omega (arith, step_le)) (omega (arith, step_le))) ∙ f))) in
            omega arith

        large : lt x hi ≡ false → high ≡ answer
        large f =
            let g : high + 4096 ≤ n / d = (le-div_iff_mul-le d0).1 (le_of_suc-le-suc (lt_of_not-le (λ (g : suc n ≤ (high + 4096) * d). true≢false (sym (under (high + 4096) (omega arith) (omega arith) g L (omega arith) (omega arith)) ∙ f)))) in
            omega arith

        -- above the first, and below the last
        least : lt lo x ≡ true → K * d ≤ n
        least f = le_of_suc-le-suc (lt_of_not-le (λ (g : suc n ≤ K * d). true≢false (sym (under K (omega arith) (omega arith) g F (omega arith) (omega (arith, step_le))) ∙ lt_not lo x f)))

        most : lt x hi ≡ true → n < M * d
        most f = lt_of_not-le (λ (g : M * d ≤ n). true≢false (sym (high_out g) ∙ lt_not x hi f))

        third : (b : Bool) → lt x hi ≡ b → lt lo x ≡ true → whole_of (within lo hi x) ≡ answer
        third true f g = ap whole_of (within_same lo hi x g f) ∙ inside (least g) (most f)
        third false f g = ap whole_of (within-high lo hi x g f) ∙ high-whole ∙ large f

        first : (b : Bool) → lt lo x ≡ b → whole_of (within lo hi x) ≡ answer
        first true f = third (lt x hi) refl f
        first false f = ap whole_of (brought_low lo hi lo_positive hi_positive ordered x f) ∙ low_whole ∙ small f

-- ---- of a float that is a rounded fraction, or, where the fraction is cut at 0, below every number above zero
abbrev pub Rounded : Float → ℕ → ℕ → Type 0
Rounded t a d = (t ≡ round binary64 false a d) ⊎ ((a ≡ 0) × ((y : Float) → T (positive y) → lt t y ≡ true))

module _ (e : Ends) (order : e.low ≤ e.high) (top : e.high ≤ 4095) (t : Float) (a d : ℕ) (D : 0 < d) (apart : Apart a d) where
  pub rounded-floor : Rounded t a d → whole_within e t ≡ bounded e.low e.high (a / d - 4096)
  rounded-floor (inl f) = ap (whole_within e) f ∙ floor_is e order top a d D apart
  rounded-floor (inr g) =
      let z : a / d ≡ 0 = ap (λ (x : ℕ). x / d) g.0 ∙ div-eq_of_lt D in
      whole_below e order top t g.1 ∙ omega arith

  pub rounded-cut : Rounded t a d → cut_within e t ≡ outside e.strict e.low e.high a d
  rounded-cut (inl f) = ap (cut_within e) f ∙ cut_is e order top a d D apart
  rounded-cut (inr g) =
      cut_below e order top t g.1
      ∙ sym (ap (λ (z : Bool). z || leb ((e.high + 4097) * d) a) (lt-ltb a ((e.low + 4096) * d + cond e.strict 1 0) (omega (arith, g.0, add-mul e.low 4096 d))))

  pub rounded-clamp : Rounded t a d → clamped_within e t ≡ record { code = bounded e.low e.high (a / d - 4096); cut = outside e.strict e.low e.high a d }
  unfolding clamped_by
  rounded-clamp r = λ i. record { code = rounded-floor r i; cut = rounded-cut r i }

-- no whole number lies nearer to a fraction, but itself, than one over its divisor
pub apart_small : (n d : ℕ) → d ≤ 1099511627776 → Apart n d
apart_small n d h = record { above = λ k l. omega arith; below = λ k l. omega arith }

-- ---- 4096 more, and 4096 less
pub more : (x k d : ℕ) → 0 < d → (x + k * d) / d - k ≡ x / d
more x k d D = ap (λ (z : ℕ). z - k) (add-mul-div_right x k D) ∙ cut (x / d) k
  where
    cut : (a k : ℕ) → a + k - k ≡ a
    cut a k = omega arith

pub beyond : (x y d : ℕ) → 0 < d → (x + 4096 * d - y) / d - 4096 ≡ (x - y) / d
beyond x y d D = go (leb y x) (leb→le y x) (nleb→lt y x)
  where
    go : (b : Bool) → (T b → y ≤ x) → (T (not b) → x < y) → (x + 4096 * d - y) / d - 4096 ≡ (x - y) / d
    go true p q = let h : y ≤ x = p tt in let e : x + 4096 * d - y ≡ x - y + 4096 * d = omega arith in ap (λ (z : ℕ). z / d - 4096) e ∙ more (x - y) 4096 d D
    go false p q =
        let h : x < y = q tt in
        let l : (x + 4096 * d - y) / d < 4096 = (div-lt_iff_lt-mul D).1 (omega arith) in
        let e : x - y ≡ 0 = omega arith in
        let z : (x - y) / d ≡ 0 = ap (λ (w : ℕ). w / d) e ∙ div-eq_of_lt D in
        omega arith
