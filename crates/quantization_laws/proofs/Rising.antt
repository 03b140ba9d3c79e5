-- The code of a value never falls as the value rises (A5). Assumes nothing.
use mathlib.Core.Path.{◌≡◌, refl, sym, ap, ◌∙◌}
use mathlib.Core.Bool.{Bool, true, false, ◌||◌, true≢false}
use mathlib.Core.Logic.{⊎_elim}
use Prim.Native.Nat.{ℕ, ◌+◌, ◌-◌, ◌*◌, ◌/◌, ◌≤◌, ◌<◌}
use native.Mathlib.Nat.{div-mul-le_self, mul-le-mul_left, mul-le-mul_right, le_of_mul-le-mul_right, le-div_iff_mul-le}
use native.Mathlib.Omega.{arith}
use lib.IntN.{ℤ, pos, ◌+ℤ◌, ◌-ℤ◌, ◌*ℤ◌}
use borrow.Author.Tests.{eqb-true, ltb-true}
use lib.Dec.{eqb, ltb}
use lib.Ieee.{nan, inf, fin, up, down, below, level, lt, eq, le}
use lib.Ieee.Fits.{down_pos}
use Rattle.lists.proofs.Numbers.{sub_mul}
use Rattle.lists.proofs.Tests.{and_left, and_right, or_cases}
use Rattle.fractions.specs.Fraction.{Fraction, ◌over◌, bounded}
use Rattle.fractions.proofs.Integers.{as_difference_lem, same, same_sums, times_right, plus_pos}
use Rattle.fractions.proofs.Same.{is_plain}
use Rattle.scale.specs.declared.Scale.{Scale}
use Rattle.quantization.specs.Code.{unclamped, code_of_value, exact, code_of}
use Rattle.quantization.proofs.Codes.{code_is}
use Rattle.quantization_laws.specs.Order.{AtMost, NoHigher}
use Rattle.quantization_laws.specs.Claims.{CodesRise, MachineOrders}
use Rattle.quantization_laws.proofs.Printed.{kept}
use Rattle.quantization_laws.proofs.Values.{plus_part, minus_part, as_parts}

-- ---- fractions

-- quotients of differences cut at 0 keep the order of the values
quotients_rise : (x y c u v d : ℕ) → 0 < c → 0 < d → x * d + v * c ≤ u * c + y * d → (x - y) / c ≤ (u - v) / d
quotients_rise x y c u v d C D l =
    let q = (x - y) / c in
    let m : q * c * d ≤ (x - y) * d = mul-le-mul_right d (div-mul-le_self (x - y) c) in
    let k : (x - y) * d ≤ (u - v) * c = omega (arith, sub_mul x y d, sub_mul u v c) in
    (le-div_iff_mul-le {k = d} D).1 (le_of_mul-le-mul_right {k = c} (omega arith) C)

-- the codes of (a - b) / c and (e - f) / d, where that is not above this
by-numbers : (sc : Scale) (a b c e f d : ℕ) → 0 < c → 0 < d → a * d + f * c ≤ e * c + b * d
    → (code_of_value sc (pos a -ℤ pos b over c)).code ≤ (code_of_value sc (pos e -ℤ pos f over d)).code
by-numbers sc a b c e f d C D l =
    rw (code_is sc (is_plain a b c) C C, code_is sc (is_plain e f d) D D)
    (clamped_rise sc.low sc.high _ _
    (quotients_rise (2 * (sc.span * a + sc.base * c) + c) (2 * (sc.span * b)) (2 * c) (2 * (sc.span * e + sc.base * d) + d) (2 * (sc.span * f)) (2 * d) (omega arith) (omega arith)
    (omega (arith, mul-le-mul_left sc.span l))))
  where
    clamped_rise : (low high p q : ℕ) → p ≤ q → bounded low high p ≤ bounded low high q
    clamped_rise low high p q l = omega arith

rises : (sc : Scale) (x y : Fraction) → 0 < x.den → 0 < y.den → AtMost x y → (code_of_value sc x).code ≤ (code_of_value sc y).code
rises sc x y X Y (k, h) =
    as_difference_lem (λ (u : ℤ). y.num *ℤ pos x.den ≡ u *ℤ pos y.den +ℤ pos k → (code_of_value sc (u over x.den)).code ≤ (code_of_value sc y).code)
    (λ a b. as_difference_lem (λ (v : ℤ). v *ℤ pos x.den ≡ (pos a -ℤ pos b) *ℤ pos y.den +ℤ pos k → (code_of_value sc (pos a -ℤ pos b over x.den)).code ≤ (code_of_value sc (v over y.den)).code)
    (λ e f i.
    let s : e * x.den + b * y.den ≡ a * y.den + k + f * x.den =
    same_sums (e * x.den) (f * x.den) (a * y.den + k) (b * y.den)
    (sym (times_right e f x.den) ∙ i ∙ ap (λ (z : ℤ). z +ℤ pos k) (times_right a b y.den) ∙ plus_pos (a * y.den) (b * y.den) k) in
    by-numbers sc a b x.den e f y.den X Y (omega arith))
    y.num)
    x.num h

-- ---- floats

-- the code of a value lies within the ends
within : (sc : Scale) (x : Fraction) → sc.low ≤ sc.high → (sc.low ≤ (code_of_value sc x).code) × ((code_of_value sc x).code ≤ sc.high)
unfolding code_of_value
within sc x l = (kept sc.low sc.high l (unclamped sc x)).within

pub codes_rise : CodesRise
unfolding code_of NoHigher
codes_rise sc nan y l h = absurd h
codes_rise sc (inf true) nan l h = absurd h
codes_rise sc (inf true) (inf true) l h = (_, _, refl, refl, omega arith)
codes_rise sc (inf true) (inf false) l h = (_, _, refl, refl, omega arith)
codes_rise sc (inf true) (fin t k f) l h = (_, _, refl, refl, (within sc (exact t k f) l).0)
codes_rise sc (inf false) nan l h = absurd h
codes_rise sc (inf false) (inf true) l h = absurd h
codes_rise sc (inf false) (inf false) l h = (_, _, refl, refl, omega arith)
codes_rise sc (inf false) (fin t k f) l h = absurd h
codes_rise sc (fin s m e) nan l h = absurd h
codes_rise sc (fin s m e) (inf true) l h = absurd h
codes_rise sc (fin s m e) (inf false) l h = (_, _, refl, refl, (within sc (exact s m e) l).1)
codes_rise sc (fin s m e) (fin t k f) l h = (_, _, refl, refl, rises sc (exact s m e) (exact t k f) (down_pos e) (down_pos f) h)

-- ---- the machine's order
at_most : (p q c r s d : ℕ) → p * d + s * c ≤ r * c + q * d → AtMost (pos p -ℤ pos q over c) (pos r -ℤ pos s over d)
at_most p q c r s d l =
    let k = r * c + q * d - (p * d + s * c) in
    (k, times_right r s c ∙ same (r * c) (s * c) (p * d + k) (q * d) (omega arith) ∙ sym (plus_pos (p * d) (q * d) k) ∙ ap (λ (z : ℤ). z +ℤ pos k) (sym (times_right p q d)))

-- ±a / c and ±b / d, as the comparison multiplies them out
ordered : (s t : Bool) (a c b d : ℕ) → below s (a * d) t (b * c) || level s (a * d) t (b * c) ≡ true → plus_part s a * d + minus_part t b * c ≤ plus_part t b * c + minus_part s a * d
ordered false false a c b d e =
    ⊎_elim (λ h. omega (arith, ltb-true (a * d) (b * c) h)) (λ h. omega (arith, eqb-true (a * d) (b * c) (and_left (eqb (a * d) (b * c)) (true || eqb (a * d) 0) h)))
    (or_cases (ltb (a * d) (b * c)) (level false (a * d) false (b * c)) e)
ordered false true a c b d e =
    omega (arith, eqb-true (a * d) (b * c) (and_left (eqb (a * d) (b * c)) (false || eqb (a * d) 0) e), eqb-true (a * d) 0 (and_right (eqb (a * d) (b * c)) (eqb (a * d) 0) e))
ordered true false a c b d e = omega arith
ordered true true a c b d e =
    ⊎_elim (λ h. omega (arith, ltb-true (b * c) (a * d) h)) (λ h. omega (arith, eqb-true (a * d) (b * c) (and_left (eqb (a * d) (b * c)) (true || eqb (a * d) 0) h)))
    (or_cases (ltb (b * c) (a * d)) (level true (a * d) true (b * c)) e)

pub machine_orders : MachineOrders
unfolding le lt eq NoHigher
machine_orders nan y e = absurd (true≢false (sym e))
machine_orders (inf true) nan e = absurd (true≢false (sym e))
machine_orders (inf true) (inf t) e = tt
machine_orders (inf true) (fin t k f) e = tt
machine_orders (inf false) nan e = absurd (true≢false (sym e))
machine_orders (inf false) (inf true) e = absurd (true≢false (sym e))
machine_orders (inf false) (inf false) e = tt
machine_orders (inf false) (fin t k f) e = absurd (true≢false (sym e))
machine_orders (fin s m e) nan h = absurd (true≢false (sym h))
machine_orders (fin s m e) (inf true) h = absurd (true≢false (sym h))
machine_orders (fin s m e) (inf false) h = tt
machine_orders (fin s m e) (fin t k f) h =
    let a = m * up e in
    let b = k * up f in
    rw (as_parts s a, as_parts t b) (at_most (plus_part s a) (minus_part s a) (down e) (plus_part t b) (minus_part t b) (down f) (ordered s t a (down e) b (down f) h))
