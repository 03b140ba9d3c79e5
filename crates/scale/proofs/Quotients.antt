-- A whole number as a float, divided by a whole number as a float: the fraction, rounded once. Assumes nothing.
use mathlib.Core.Path.{◌≡◌, refl, sym, ap, ◌∙◌, subst}
use Prim.Native.Nat.{ℕ, zero, suc, ◌-◌, ◌*◌, ◌^◌, ◌≤◌, ◌<◌}
use native.Mathlib.Nat.{mul-one, mul_assoc, mul_comm, mul_left_comm, mul-pos, zero-lt-suc, lt_irrefl, zero-mul}
use native.Mathlib.Omega.{arith}
use mathlib.Core.Bool.{Bool, true, false, not, cond, true≢false}
use borrow.Author.Tests.{ne_eqb}
use lib.Dec.{T, eqb, leb→le, ltb→lt, le→leb, lt→ltb, eqb→eq, not_T, lit≤}
use lib.IntN.{ℤ, pos, negsuc, ◌-ℤ◌}
use lib.Ieee.{Float, nan, inf, fin, Format, binary32, up, down, unlike, round, div, of_int, in_float}
use lib.Ieee.Fits.{down_pos}
use lib.Ieee.Bits.{cond_no}
use lib.Ieee.Exact.{HasValue}
use lib.Ieee.Back.{round_whole}
use lib.Ieee.Scale.{round_same}
use mir.Syntax.{w32}
use mir.Val.{to_z, of_z}
use Rattle.fractions.specs.Fraction.{◌over◌}
use Rattle.fractions.proofs.Integers.{minus_cases}
use Rattle.fractions.proofs.Machine.{difference_is}
use Rattle.scale.specs.Value.{rounded, over_zero, nearest_float}

-- ---- a quotient of two values is the quotient of the fractions, rounded

-- what is not zero in size has digits that are not 0
some : (n : ℕ) (d : ℤ) (b : ℕ) → 0 < b → n * up d * 1 ≡ b * down d → T (not (eqb n 0))
some n d b B e =
    not_T (eqb n 0)
    (λ (t : T (eqb n 0)). lt_irrefl 0
    (subst (λ (x : ℕ). 0 < x) (sym e ∙ ap (λ (y : ℕ). y * up d * 1) (eqb→eq n 0 t) ∙ ap (λ (y : ℕ). y * 1) (zero-mul (up d)) ∙ zero-mul 1) (mul-pos B (down_pos d))))

by_positive : (s : Bool) → unlike s false ≡ s
by_positive true = refl
by_positive false = refl

div_whole : (f : Format) (x y : Float) (s : Bool) (a b : ℕ) → HasValue x s a 1 → HasValue y false b 1 → 0 < b → div f x y ≡ round f s a b
unfolding div
div_whole f (fin t m e) (fin true n d) s a b v w B = absurd (true≢false w.0)
div_whole f (fin t m e) (fin false n d) s a b v w B =
    let p : m * up e ≡ a * down e = sym (mul-one (m * up e)) ∙ v.1 in
    let q : n * up d ≡ b * down d = sym (mul-one (n * up d)) ∙ w.1 in
    cond_no (eqb n 0) (cond (eqb m 0) nan (inf (unlike t false))) (round f (unlike t false) (m * up e * down d) (n * up d * down e)) (some n d b B w.1)
    ∙ ap (λ (z : Bool). round f z (m * up e * down d) (n * up d * down e)) (by_positive t ∙ v.0)
    ∙ rw (p, q) (round_same f s (a * down e * down d) (b * down d * down e) a b (mul-pos (mul-pos B (down_pos d)) (down_pos e)) B (simp (mul_assoc, mul_comm, mul_left_comm)))
div_whole f nan y s a b v w B = elim v [ ]
div_whole f (inf _) y s a b v w B = elim v [ ]
div_whole f (fin t m e) nan s a b v w B = elim w [ ]
div_whole f (fin t m e) (inf _) s a b v w B = elim w [ ]

-- and by zero an infinity
div_zero : (f : Format) (x : Float) (s : Bool) (n : ℕ) → HasValue x s (suc n) 1 → div f x (fin false 0 (pos 0)) ≡ inf s
unfolding div
div_zero f (fin t m e) s n v = cond_no (eqb m 0) nan (inf (unlike t false)) (some m e (suc n) (zero-lt-suc n) v.1) ∙ ap inf (by_positive t ∙ v.0)
div_zero f nan s n v = elim v [ ]
div_zero f (inf _) s n v = elim v [ ]

-- ---- whole numbers that an f32 holds

-- over a number that is not 0
pub over-some : (z : ℤ) (c : ℕ) → 0 < c → nearest_float (z over c) ≡ rounded z c
unfolding nearest_float
over-some z c C = ap (λ (b : Bool). cond b (over_zero z) (rounded z c)) (ne_eqb c 0 (λ q. omega arith))

pub quotient_is : (z : ℤ) (c : ℕ) → T (in_float binary32 z) → c ≤ 2 ^ 24 → div binary32 (of_int binary32 z) (of_int binary32 (pos c)) ≡ nearest_float (z over c)
unfolding of_int in_float nearest_float
quotient_is (pos zero) zero h l = unfold div in refl
quotient_is (pos (suc n)) zero h l = div_zero binary32 (round binary32 false (suc n) 1) false n (round_whole binary32 false (suc n) (leb→le (suc n) (2 ^ 24) h))
quotient_is (negsuc n) zero h l = div_zero binary32 (round binary32 true (suc n) 1) true n (round_whole binary32 true (suc n) (ltb→lt n (2 ^ 24) h))
quotient_is (pos n) (suc c) h l =
    div_whole binary32 (round binary32 false n 1) (round binary32 false (suc c) 1) false n (suc c)
    (round_whole binary32 false n (leb→le n (2 ^ 24) h)) (round_whole binary32 false (suc c) l) (zero-lt-suc c)
    ∙ sym (over-some (pos n) (suc c) (zero-lt-suc c))
quotient_is (negsuc n) (suc c) h l =
    div_whole binary32 (round binary32 true (suc n) 1) (round binary32 false (suc c) 1) true (suc n) (suc c)
    (round_whole binary32 true (suc n) (ltb→lt n (2 ^ 24) h)) (round_whole binary32 false (suc c) l) (zero-lt-suc c)
    ∙ sym (over-some (negsuc n) (suc c) (zero-lt-suc c))

-- ---- the difference of two codes, as the machine takes it
module _ (a b : ℕ) (h : a < 2 ^ 16) (k : b < 2 ^ 16) where
  held : T (in_float binary32 (pos a -ℤ pos b))
  unfolding in_float
  held = minus_cases (λ (z : ℤ). T (in_float binary32 z)) a b (λ l. le→leb (a - b) (2 ^ 24) (omega arith)) (λ l. lt→ltb (b - suc a) (2 ^ 24) (omega arith))

  machine : to_z w32 (of_z w32 (to_z w32 a -ℤ to_z w32 b)) ≡ pos a -ℤ pos b
  machine = difference_is w32 (lit≤ tt) a b h k

  pub difference_held : T (in_float binary32 (to_z w32 (of_z w32 (to_z w32 a -ℤ to_z w32 b))))
  difference_held = rw machine held

  pub difference-over : (c : ℕ) → c < 2 ^ 16 → div binary32 (of_int binary32 (to_z w32 (of_z w32 (to_z w32 a -ℤ to_z w32 b)))) (of_int binary32 (pos c)) ≡ nearest_float (pos a -ℤ pos b over c)
  difference-over c l = ap (λ (z : ℤ). div binary32 (of_int binary32 z) (of_int binary32 (pos c))) machine ∙ quotient_is (pos a -ℤ pos b) c held (omega arith)
