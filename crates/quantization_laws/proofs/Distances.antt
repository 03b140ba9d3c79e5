-- What is nearest to a fraction is nearest to the same number over another denominator. Assumes nothing.
use mathlib.Core.Path.{◌≡◌, sym, ap, ap₂, ◌∙◌}
use mathlib.Core.Logic.{inl, inr, ⊎_elim}
use Prim.Native.Nat.{ℕ, ◌+◌, ◌*◌, ◌<◌}
use native.Mathlib.Nat.{mul_right_comm, mul-lt-mul_of_pos_right, lt_of_mul-lt-mul_right}
use native.Mathlib.Omega.{arith}
use lib.IntN.{ℤ, pos, nat_abs, ◌-ℤ◌}
use lib.Ieee.{Float, nan, inf, fin}
use Rattle.fractions.specs.Fraction.{Fraction, ◌over◌, Same}
use Rattle.fractions.proofs.Integers.{minus_cases, as_difference_lem, times_right, minus, same_sums}
use Rattle.quantization.specs.Code.{exact}
use Rattle.quantization_laws.specs.Nearest.{distance, Nearer, NearestTo}
use Rattle.quantization_laws.proofs.Values.{gap}
use Rattle.quantization_laws.proofs.Nearest.{gap_mul}

-- |(p - n) / b - (q - m) / d|
distance_is : (p n b q m d : ℕ) → distance (pos p -ℤ pos n over b) (pos q -ℤ pos m over d) ≡ gap (p * d + m * b) (n * d + q * b)
distance_is p n b q m d =
    ap (λ (z : ℤ). nat_abs z) (ap₂ (λ (x y : ℤ). x -ℤ y) (times_right p n d) (times_right q m b) ∙ minus (p * d) (n * d) (q * b) (m * b))
    ∙ minus_cases (λ (z : ℤ). nat_abs z ≡ gap (p * d + m * b) (n * d + q * b)) (p * d + m * b) (n * d + q * b) (λ l. omega arith) (λ l. omega arith)

gap_same : (a b c d : ℕ) → a + d ≡ c + b → gap a b ≡ gap c d
gap_same a b c d e = omega arith

-- the distances from z to the two, each times the other's denominator
alike : (z x y : Fraction) → Same x y → distance z x * y.den ≡ distance z y * x.den
alike z x y =
    as_difference_lem (λ (k : ℤ). Same x y → distance (k over z.den) x * y.den ≡ distance (k over z.den) y * x.den)
    (λ p n. as_difference_lem (λ (k : ℤ). Same (k over x.den) y → distance (pos p -ℤ pos n over z.den) (k over x.den) * y.den ≡ distance (pos p -ℤ pos n over z.den) y * x.den)
    (λ q m. as_difference_lem (λ (k : ℤ). Same (pos q -ℤ pos m over x.den) (k over y.den) → distance (pos p -ℤ pos n over z.den) (pos q -ℤ pos m over x.den) * y.den ≡ distance (pos p -ℤ pos n over z.den) (k over y.den) * x.den)
    (λ r s e. numbers p n z.den q m x.den r s y.den (same_sums (q * y.den) (m * y.den) (r * x.den) (s * x.den) (sym (times_right q m y.den) ∙ e ∙ times_right r s x.den)))
    y.num)
    x.num)
    z.num
  where
    numbers : (p n b q m d r s f : ℕ) → q * f + s * d ≡ r * d + m * f
        → distance (pos p -ℤ pos n over b) (pos q -ℤ pos m over d) * f ≡ distance (pos p -ℤ pos n over b) (pos r -ℤ pos s over f) * d
    numbers p n b q m d r s f e =
        ap (λ (x : ℕ). x * f) (distance_is p n b q m d)
        ∙ gap_mul (p * d + m * b) (n * d + q * b) f
        ∙ gap_same ((p * d + m * b) * f) ((n * d + q * b) * f) ((p * f + s * b) * d) ((n * f + r * b) * d) (omega (arith, ap (λ (x : ℕ). x * b) e))
        ∙ sym (gap_mul (p * f + s * b) (n * f + r * b) d)
        ∙ sym (ap (λ (x : ℕ). x * d) (distance_is p n b r s f))

-- nearer to the one is nearer to the other
nearer_same : (x y a b : Fraction) → 0 < y.den → Same x y → Nearer x a b → Nearer y a b
nearer_same x y a b Y e h =
    let side : (u v : Fraction) → distance u y * v.den * x.den ≡ distance u x * v.den * y.den = λ u v. mul_right_comm (distance u y) v.den x.den ∙ ap (λ (k : ℕ). k * v.den) (sym (alike u x y e)) ∙ mul_right_comm (distance u x) y.den v.den in
    lt_of_mul-lt-mul_right x.den (rw (side a b, side b a) (mul-lt-mul_of_pos_right h Y))

pub nearest_same : (x y : Fraction) (v : Float) → 0 < y.den → Same x y → NearestTo x v → NearestTo y v
unfolding NearestTo
nearest_same x y nan Y e h = h
nearest_same x y (inf s) Y e h = h
nearest_same x y (fin s m e) Y q h = (h.0, λ t p d f. ⊎_elim inl (λ l. inr (nearer_same x y (exact s m e) (exact t p d) Y q l)) (h.1 t p d f))
