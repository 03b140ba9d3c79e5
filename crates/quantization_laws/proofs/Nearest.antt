-- The float of a code is the nearest to the code's fraction of all that the format holds. Assumes nothing.
use mathlib.Core.Path.{◌≡◌, refl, sym, ap, ap₂, ◌∙◌, subst}
use mathlib.Core.Logic.{◌⊎◌, inl, inr, ⊎_elim}
use Prim.Native.Nat.{ℕ, zero, suc, ◌+◌, ◌-◌, ◌*◌, ◌^◌, ◌≤◌, ◌<◌}
use native.Mathlib.Nat.{add-mul, mul_assoc, mul_comm, mul_right_comm, zero-mul, mul-pos, mul-le-mul_right, mul-lt-mul_of_pos_right, eq_of_mul-eq-mul_right, lt_of_not-le, not-le_of_lt, le_refl}
use native.Mathlib.Omega.{arith}
use mathlib.Core.Bool.{Bool, true, false, Bool-discrete}
use borrow.Author.Tests.{le-ltb}
use lib.Dec.{T, ltb, lit<}
use lib.Pow.{pow_pos}
use lib.IntN.{ℤ, pos, nat_abs, ◌-ℤ◌, ◌*ℤ◌}
use lib.Ieee.{Float, nan, inf, fin, binary32, up, down, round, fits}
use lib.Ieee.Fits.{round-fits, down_pos}
use lib.Ieee.Exact.{HasValue}
use lib.Ieee.Scale.{grid, round_same}
use Rattle.lists.proofs.Numbers.{sub_mul}
use Rattle.fractions.specs.Fraction.{◌over◌, Same}
use Rattle.fractions.proofs.Integers.{minus_cases, minus}
use Rattle.parameters.specs.declared.range.Range.{Range}
use Rattle.parameters.specs.declared.kind.Kind.{Kind}
use Rattle.parameters.specs.Parameters.{top_of}
use Rattle.parameters.proofs.Depths.{steps}
use Rattle.scale.specs.declared.Scale.{Scale}
use Rattle.scale.specs.Scale.{scale_of}
use Rattle.scale.specs.Value.{fraction_of, value_of}
use Rattle.quantization.specs.Code.{signed, exact}
use Rattle.quantization.proofs.Codes.{Small}
use Rattle.quantization_laws.specs.Nearest.{distance, Nearer, NearestTo}
use Rattle.quantization_laws.proofs.Units.{U, round_value}
use Rattle.quantization_laws.proofs.Values.{plus_part, minus_part, as_parts, gap, by_sign, value_rounds}
use Rattle.quantization_laws.proofs.Closest.{Held, held, Beats, beats, Faces, faces}
use Rattle.quantization_laws.proofs.Return.{paper}

-- ---- distances of signed numbers
size_of : (s t : Bool) (x y : ℕ) → nat_abs (signed s x -ℤ signed t y) ≡ gap (plus_part s x + minus_part t y) (minus_part s x + plus_part t y)
size_of s t x y =
    ap (λ (z : ℤ). nat_abs z)
    (ap₂ (λ (a b : ℤ). a -ℤ b) (as_parts s x) (as_parts t y) ∙ minus (plus_part s x) (minus_part s x) (plus_part t y) (minus_part t y))
    ∙ go (plus_part s x + minus_part t y) (minus_part s x + plus_part t y)
  where
    go : (a b : ℕ) → nat_abs (pos a -ℤ pos b) ≡ gap a b
    go a b = minus_cases (λ (z : ℤ). nat_abs z ≡ gap a b) a b (λ l. omega arith) (λ l. omega arith)

pub signed-times : (s : Bool) (n p : ℕ) → signed s n *ℤ pos p ≡ signed s (n * p)
signed-times false n p = refl
signed-times true zero p = ap pos (zero-mul p) ∙ sym (ap (signed true) (zero-mul p))
signed-times true (suc n) p = refl

distance_is : (s t : Bool) (a b d p : ℕ) → distance (signed s a over b) (signed t d over p) ≡ gap (plus_part s (a * p) + minus_part t (d * b)) (minus_part s (a * p) + plus_part t (d * b))
distance_is s t a b d p = ap₂ (λ (x y : ℤ). nat_abs (x -ℤ y)) (signed-times s a p) (signed-times t d b) ∙ size_of s t (a * p) (d * b)

same_sign : (s : Bool) (a b d p : ℕ) → distance (signed s a over b) (signed s d over p) ≡ gap (a * p) (d * b)
same_sign false a b d p = distance_is false false a b d p ∙ omega arith
same_sign true a b d p = distance_is true true a b d p ∙ omega arith

other_sign : (s t : Bool) (a b d p : ℕ) → (s ≡ t → ⊥) → distance (signed s a over b) (signed t d over p) ≡ a * p + d * b
other_sign false false a b d p n = absurd (n refl)
other_sign false true a b d p n = distance_is false true a b d p ∙ omega arith
other_sign true false a b d p n = distance_is true false a b d p ∙ omega arith
other_sign true true a b d p n = absurd (n refl)

-- ---- from units to fractions: a / b is g units
pub gap_mul : (x y k : ℕ) → gap x y * k ≡ gap (x * k) (y * k)
gap_mul x y k = add-mul (x - y) (y - x) k ∙ ap₂ (λ (u v : ℕ). u + v) (sub_mul x y k) (sub_mul y x k)

module _ (a b g d p u : ℕ) (e : a * u ≡ g * b) where
  first : a * p * u ≡ p * g * b
  first = mul_right_comm a p u ∙ ap (λ (x : ℕ). x * p) e ∙ mul_right_comm g b p ∙ ap (λ (x : ℕ). x * b) (mul_comm g p)

  in_units_lem : gap (a * p) (d * b) * u ≡ gap (p * g) (d * u) * b
  in_units_lem = gap_mul (a * p) (d * b) u ∙ ap₂ gap first (mul_right_comm d b u) ∙ sym (gap_mul (p * g) (d * u) b)

  sum_in_units : (a * p + d * b) * u ≡ (p * g + d * u) * b
  sum_in_units = add-mul (a * p) (d * b) u ∙ ap₂ (λ (x y : ℕ). x + y) first (mul_right_comm d b u) ∙ sym (add-mul (p * g) (d * u) b)

-- x / (b p) and y / (c p), from their numbers of units n and m
compare_units : (x y b c n m u : ℕ) → 0 < b → 0 < c → x * u ≡ n * b → y * u ≡ m * c → n < m → x * c < y * b
compare_units x y b c n m u B C ex ey l =
    let left : x * c * u ≡ n * (b * c) = mul_right_comm x c u ∙ ap (λ (z : ℕ). z * c) ex ∙ mul_assoc n b c in
    let right : y * b * u ≡ m * (b * c) = mul_right_comm y b u ∙ ap (λ (z : ℕ). z * b) ey ∙ mul_assoc m c b ∙ ap (λ (z : ℕ). m * z) (mul_comm c b) in
    let strict : n * (b * c) < m * (b * c) = mul-lt-mul_of_pos_right l (mul-pos B C) in
    lt_of_not-le (λ (h : y * b ≤ x * c). not-le_of_lt strict (subst (λ (z : ℕ). z ≤ n * (b * c)) right (subst (λ (z : ℕ). y * b * u ≤ z) left (mul-le-mul_right u h))))

-- equal numbers of units
equal_units : (a b c d g u : ℕ) → 0 < u → a * u ≡ g * b → c * u ≡ g * d → c * b ≡ a * d
equal_units a b c d g u P e f =
    eq_of_mul-eq-mul_right u P (c * b) (a * d)
    (mul_right_comm c b u ∙ ap (λ (z : ℕ). z * b) f ∙ mul_right_comm g d b ∙ ap (λ (z : ℕ). z * d) (sym e) ∙ mul_right_comm a u d)

-- no units
zero_units : (a b g u : ℕ) → 0 < u → a * u ≡ g * b → g ≡ 0 → a ≡ 0
zero_units a b g u P e f = eq_of_mul-eq-mul_right u P a 0 (e ∙ ap (λ (z : ℕ). z * b) f ∙ zero-mul b ∙ sym (zero-mul u))

zero-times : (s : Bool) (a b : ℕ) → a ≡ 0 → signed s a *ℤ pos b ≡ pos 0
zero-times s a b e = signed-times s a b ∙ ap (signed s) (ap (λ (z : ℕ). z * b) e ∙ zero-mul b) ∙ go s
  where
    go : (s : Bool) → signed s 0 ≡ pos 0
    go false = refl
    go true = refl

-- ---- the law, for ±d / p of 16 bits, rounded to ±m * 2 ^ e
module _ (s : Bool) (d p : ℕ) (P : 0 < p) (p-lt : p < 65536) (d-lt : d < 65536) (m : ℕ) (e : ℤ) (v : m * up e * U ≡ grid binary32 d p * down e) where
  of_same_sign : (q : ℕ) (f : ℤ) → Held q f → Same (exact s q f) (exact s m e) ⊎ Nearer (signed s d over p) (exact s m e) (exact s q f)
  unfolding Beats
  of_same_sign q f x =
      let n = x.digits * 2 ^ x.shift in
      let g = grid binary32 d p in
      ⊎_elim
      (λ i. inl
      (signed-times s (q * up f) (down e)
      ∙ ap (signed s) (equal_units (m * up e) (down e) (q * up f) (down f) g U (pow_pos 149) v (x.is ∙ ap (λ (z : ℕ). z * down f) i))
      ∙ sym (signed-times s (m * up e) (down f))))
      (λ l. inr
      (rw (same_sign s (m * up e) (down e) d p, same_sign s (q * up f) (down f) d p)
      (compare_units (gap (m * up e * p) (d * down e)) (gap (q * up f * p) (d * down f)) (down e) (down f) (gap (p * g) (d * U)) (gap (p * n) (d * U)) U
      (down_pos e) (down_pos f) (in_units_lem (m * up e) (down e) g d p U v) (in_units_lem (q * up f) (down f) n d p U x.is) l)))
      (beats d p P p-lt d-lt x.digits x.shift x.small)

  of_other_sign : (t : Bool) → (t ≡ s → ⊥) → (q : ℕ) (f : ℤ) → Held q f → Same (exact t q f) (exact s m e) ⊎ Nearer (signed s d over p) (exact s m e) (exact t q f)
  unfolding Faces
  of_other_sign t o q f x =
      let n = x.digits * 2 ^ x.shift in
      let g = grid binary32 d p in
      ⊎_elim
      (λ i. inl
      (zero-times t (q * up f) (down e) (zero_units (q * up f) (down f) n U (pow_pos 149) x.is i.0)
      ∙ sym (zero-times s (m * up e) (down f) (zero_units (m * up e) (down e) g U (pow_pos 149) v i.1))))
      (λ l. inr
      (rw (same_sign s (m * up e) (down e) d p, other_sign t s (q * up f) (down f) d p o)
      (compare_units (gap (m * up e * p) (d * down e)) (q * up f * p + d * down f) (down e) (down f) (gap (p * g) (d * U)) (p * n + d * U) U
      (down_pos e) (down_pos f) (in_units_lem (m * up e) (down e) g d p U v) (sum_in_units (q * up f) (down f) n d p U x.is) l)))
      (faces d p P p-lt d-lt n)

  against : (t : Bool) (q : ℕ) (f : ℤ) → T (fits binary32 (fin t q f)) → Same (exact t q f) (exact s m e) ⊎ Nearer (signed s d over p) (exact s m e) (exact t q f)
  against t q f h = go (Bool-discrete t s)
    where
      go : Dec (t ≡ s) → Same (exact t q f) (exact s m e) ⊎ Nearer (signed s d over p) (exact s m e) (exact t q f)
      go (yes i) = subst (λ (r : Bool). Same (exact r q f) (exact s m e) ⊎ Nearer (signed s d over p) (exact s m e) (exact r q f)) (sym i) (of_same_sign q f (held t q f h))
      go (no o) = of_other_sign t o q f (held t q f h)

rounded_nearest : (s : Bool) (d p : ℕ) → 0 < p → p < 65536 → d < 65536 → (x : Float) → T (fits binary32 x) → HasValue x s (grid binary32 d p) U → NearestTo (signed s d over p) x
unfolding NearestTo
rounded_nearest s d p P p-lt d-lt nan h v = v
rounded_nearest s d p P p-lt d-lt (inf t) h v = v
rounded_nearest s d p P p-lt d-lt (fin t m e) h v =
    (h, subst (λ (r : Bool). (o : Bool) (q : ℕ) (f : ℤ) → T (fits binary32 (fin o q f)) → Same (exact o q f) (exact r m e) ⊎ Nearer (signed s d over p) (exact r m e) (exact o q f)) (sym v.0) (against s d p P p-lt d-lt m e v.1))

-- at any scale
pub value_nearest : (sc : Scale) → Small sc → 0 < sc.span → (c : ℕ) → c < 2 ^ 16 → NearestTo (fraction_of sc c) (value_of sc c)
value_nearest sc k S c h =
    let s = ltb c sc.base in
    let d = gap c sc.base in
    let p = sc.span in
    let D : d < 65536 = omega arith in
    subst (λ (z : ℤ). NearestTo (z over p) (value_of sc c)) (sym (by_sign c sc.base))
    (subst (NearestTo (signed s d over p)) (sym (value_rounds sc c S))
    (rounded_nearest s d p S k.span D (round binary32 s d p) (round-fits binary32 s d p) (round_value d p S k.span D s)))

-- every code of every range, kind and depth: once over n
pub code_nearest : (r : Range) (k : Kind) (n c : ℕ) → 8 ≤ n → n ≤ 12 → c ≤ top_of n → NearestTo (fraction_of (scale_of r n k) c) (value_of (scale_of r n k) c)
code_nearest r k n c lo hi h =
    let q = paper r k n lo hi in
    let t = steps n lo hi in
    value_nearest (scale_of r n k) q.small q.some c (omega arith)

-- and the code of 0 is plus zero
zero_rounds : (p : ℕ) → 0 < p → round binary32 false 0 p ≡ fin false 0 (pos 0)
zero_rounds p P = round_same binary32 false 0 p 0 1 P (lit< tt) (sym (zero-mul p)) ∙ unfold round in refl

pub zero_plus : (r : Range) (k : Kind) (n : ℕ) → 8 ≤ n → n ≤ 12 → value_of (scale_of r n k) (scale_of r n k).base ≡ fin false 0 (pos 0)
zero_plus r k n lo hi =
    let sc = scale_of r n k in
    let b = sc.base in
    let z : gap b b ≡ 0 = omega arith in
    let S : 0 < sc.span = (paper r k n lo hi).some in
    value_rounds sc b S
    ∙ ap₂ (λ (s : Bool) (d : ℕ). round binary32 s d sc.span) (le-ltb b b (le_refl b)) z
    ∙ zero_rounds sc.span S
