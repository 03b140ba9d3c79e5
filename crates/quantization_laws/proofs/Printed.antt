-- Each line as printed is the one definition, at that range and kind. Assumes nothing.
use mathlib.Core.Path.{◌≡◌, refl, sym, ap, ap₂, ◌∙◌, subst}
use mathlib.Core.Bool.{Bool, true, false, cond, not, ◌&&◌, ◌||◌, true≢false}
use mathlib.Core.Logic.{◌⊎◌, inl, inr}
use borrow.Author.Tests.{leb-true, leb-false, ltb-true, ltb-false, lt-ltb, le-ltb, le-leb, not-false}
use lib.Dec.{eqb, leb, ltb, lit≤}
use Prim.Native.Nat.{ℕ, ◌+◌, ◌-◌, ◌*◌, ◌^◌, ◌≤◌, ◌<◌}
use native.Mathlib.Nat.{mul_comm, mul_assoc, zero-mul}
use native.Mathlib.Omega.{arith}
use lib.Ieee.{Float, nan, inf, fin}
use lib.IntN.{ℤ, pos, negsuc, ◌+ℤ◌, ◌*ℤ◌, +ℤ_idr}
use Rattle.fractions.specs.declared.Clamped.{Clamped}
use Rattle.fractions.specs.Fraction.{Fraction, ◌over◌, Same, ◌·◌, ◌⊕◌, ◌⊞◌, plus_half, quotient, floor, half_up, half_away, bounded, clamped}
use Rattle.fractions.proofs.Integers.{as_difference_lem, same, times, times_right, times-times, times_plus, plus_pos}
use Rattle.fractions.proofs.Floor.{floor_double}
use Rattle.lists.proofs.Tests.{and_left, and_right}
use Rattle.parameters.specs.declared.range.Range.{Range}
use Rattle.parameters.specs.declared.range.Range.TheVariants.{Narrow, Full, LegacyFull}
use Rattle.parameters.specs.declared.kind.Kind.{Kind}
use Rattle.parameters.specs.declared.kind.Kind.TheVariants.{Brightness, Difference}
use Rattle.parameters.specs.declared.depth.Depth.{Depth}
use Rattle.parameters.specs.declared.depth.Depth.TheVariants.{Eight, Ten, Twelve}
use Rattle.parameters.specs.Parameters.{depth_known, depth_of, bits_of, step_of, top_of}
use Rattle.parameters.proofs.Depths.{Steps, known-bits}
use Rattle.scale.specs.Scale.{low_end, high_end, scale_of}
use Rattle.scale.specs.Value.{fraction_of}
use Rattle.scale.proofs.Scales.{ends}
use Rattle.quantization.specs.Code.{unclamped, code_of_value, exact, code_of}
use Rattle.std.specs.Prelude.{Some}
use Rattle.quantization_laws.specs.Printed.{half, printed_value, printed_unclamped, printed_low, printed_high, WithinEnds, nearer_end, excluded}

-- s (a v + b) = (a s) v + b s
spread : (s a b : ℕ) (v : Fraction) → s · (a · v ⊕ b) ≡ (a * s) · v ⊕ (b * s)
spread s a b v =
    ap (λ (z : ℤ). z over v.den)
    (times_plus s (pos a *ℤ v.num) (b * v.den)
    ∙ ap₂ (λ (y : ℤ) (m : ℕ). y +ℤ pos m)
    (times-times s a v.num ∙ ap (λ (m : ℕ). pos m *ℤ v.num) (mul_comm s a))
    (sym (mul_assoc s b v.den) ∙ ap (λ (m : ℕ). m * v.den) (mul_comm s b)))

-- x + 0 = x
no_base : (x : Fraction) → x ⊕ 0 ≡ x
no_base x = ap (λ (z : ℤ). z over x.den) (ap (λ (m : ℕ). x.num +ℤ pos m) (zero-mul x.den) ∙ +ℤ_idr x.num)

-- 2^n = 2 * 2^(n-1)
twice : (n : ℕ) → Steps n → 2 ^ n ≡ 2 * 2 ^ (n - 1)
twice n s = omega (arith, s.whole, s.half)

-- (v + 1/2) w, where w = 2 h: twice what w v + h has above and below
module _ (w h : ℕ) (e : w ≡ 2 * h) (d : ℕ) where
  doubled : (z : ℤ) → pos 2 *ℤ (pos w *ℤ (z *ℤ pos 2 +ℤ pos 1 *ℤ pos d)) +ℤ pos (d * 2) ≡ pos 2 *ℤ (pos 2 *ℤ (pos w *ℤ z +ℤ pos (h * d)) +ℤ pos d)
  doubled = as_difference_lem (λ (z : ℤ). pos 2 *ℤ (pos w *ℤ (z *ℤ pos 2 +ℤ pos 1 *ℤ pos d)) +ℤ pos (d * 2) ≡ pos 2 *ℤ (pos 2 *ℤ (pos w *ℤ z +ℤ pos (h * d)) +ℤ pos d)) (λ a b.
      let inner = ap (λ (z : ℤ). z +ℤ pos (1 * d)) (times_right a b 2) ∙ plus_pos (a * 2) (b * 2) (1 * d) in
      let left = ap (λ (z : ℤ). pos 2 *ℤ z +ℤ pos (d * 2)) (ap (λ (z : ℤ). pos w *ℤ z) inner ∙ times w (a * 2 + 1 * d) (b * 2)) ∙ ap (λ (z : ℤ). z +ℤ pos (d * 2)) (times 2 (w * (a * 2 + 1 * d)) (w * (b * 2))) ∙ plus_pos (2 * (w * (a * 2 + 1 * d))) (2 * (w * (b * 2))) (d * 2) in
      let line = ap (λ (z : ℤ). z +ℤ pos (h * d)) (times w a b) ∙ plus_pos (w * a) (w * b) (h * d) in
      let right = ap (λ (z : ℤ). pos 2 *ℤ (z +ℤ pos d)) (ap (λ (z : ℤ). pos 2 *ℤ z) line ∙ times 2 (w * a + h * d) (w * b)) ∙ ap (λ (z : ℤ). pos 2 *ℤ z) (plus_pos (2 * (w * a + h * d)) (2 * (w * b)) d) ∙ times 2 (2 * (w * a + h * d) + d) (2 * (w * b)) in
      left ∙ same (2 * (w * (a * 2 + 1 * d)) + d * 2) (2 * (w * (b * 2))) (2 * (2 * (w * a + h * d) + d)) (2 * (2 * (w * b))) (omega (arith, ap (λ (x : ℕ). x * d) e)) ∙ sym right)

  half-shifted : (z : ℤ) → half_up (w · (z over d) ⊕ h) ≡ floor (plus_half (w · ((z over d) ⊞ half)))
  half-shifted z =
      sym (floor_double (pos 2 *ℤ (pos w *ℤ z +ℤ pos (h * d)) +ℤ pos d) (2 * d))
      ∙ ap₂ quotient (sym (doubled z)) (omega arith)

pub value_printed : (r : Range) (k : Kind) (n c : ℕ) → Steps n → Same (fraction_of (scale_of r n k) c) (printed_value r k n c)
unfolding scale_of printed_value
value_printed Narrow Brightness n c s = refl
value_printed Narrow Difference n c s = refl
value_printed Full Brightness n c s = ap (λ (z : ℤ). z *ℤ pos (top_of n)) (+ℤ_idr (pos c))
value_printed Full Difference n c s = refl
value_printed LegacyFull Brightness n c s = ap (λ (z : ℤ). z *ℤ pos (2 ^ n)) (+ℤ_idr (pos c))
value_printed LegacyFull Difference n c s =
    times_right c (2 ^ (n - 1)) (2 ^ n * 2)
    ∙ same (c * (2 ^ n * 2)) (2 ^ (n - 1) * (2 ^ n * 2)) (c * 2 * 2 ^ n) (1 * 2 ^ n * 2 ^ n) (omega (arith, ap (λ (x : ℕ). x * 2 ^ n) (twice n s)))
    ∙ sym (times_right (c * 2) (1 * 2 ^ n) (2 ^ n))

-- no line divides by 0
pub printed_over : (r : Range) (k : Kind) (n c : ℕ) → Steps n → 0 < (printed_value r k n c).den
unfolding printed_value
printed_over Narrow Brightness n c s = omega (arith, s)
printed_over Narrow Difference n c s = omega (arith, s)
printed_over Full Brightness n c s = omega (arith, s)
printed_over Full Difference n c s = omega (arith, s)
printed_over LegacyFull Brightness n c s = omega (arith, s)
printed_over LegacyFull Difference n c s = omega (arith, s)

pub unclamped_printed : (r : Range) (k : Kind) (n : ℕ) (v : Fraction) → Steps n → unclamped (scale_of r n k) v ≡ printed_unclamped r k n v
unfolding scale_of printed_unclamped
unclamped_printed Narrow Brightness n v s = ap half_up (sym (spread (step_of n) 219 16 v))
unclamped_printed Narrow Difference n v s = ap half_up (sym (spread (step_of n) 224 128 v))
unclamped_printed Full Brightness n v s = ap half_away (no_base (top_of n · v))
unclamped_printed Full Difference n v s = refl
unclamped_printed LegacyFull Brightness n v s = ap half_up (no_base (2 ^ n · v))
unclamped_printed LegacyFull Difference n v s = half-shifted (2 ^ n) (2 ^ (n - 1)) (twice n s) v.den v.num

-- what a clamp makes: a code within the ends, and one of them if it was cut
pub record Kept (low high : ℕ) (c : Clamped) : Type 0 where
  pub within : (low ≤ c.code) × (c.code ≤ high)
  pub cut : c.cut ≡ true → (c.code ≡ low) ⊎ (c.code ≡ high)

pub kept : (low high : ℕ) → low ≤ high → (z : ℤ) → Kept low high (clamped low high z)
kept low high h (negsuc m) = record { within = omega arith; cut = λ t. inl refl }
kept low high h (pos m) = record { within = omega arith; cut = go (ltb m low) refl }
  where
    go : (t : Bool) → ltb m low ≡ t → t || ltb high m ≡ true → (bounded low high m ≡ low) ⊎ (bounded low high m ≡ high)
    go true e t = inl (omega (arith, ltb-true m low e))
    go false e t = inr (omega (arith, ltb-true high m t))

-- of a code, within them and outside
uncut : (low high c : ℕ) → low ≤ c → c ≤ high → clamped low high (pos c) ≡ record { code = c; cut = false }
uncut low high c l h =
    let code : bounded low high c ≡ c = omega arith in
    let cut = ap₂ (λ (s t : Bool). s || t) (le-ltb c low l) (le-ltb high c h) in
    λ i. record { code = code i; cut = cut i }

cut_end : (low high c : ℕ) → low ≤ high → (low ≤ c → high < c) → clamped low high (pos c) ≡ record { code = cond (ltb c low) low high; cut = true }
cut_end low high c o above = go (ltb c low) refl
  where
    go : (t : Bool) → ltb c low ≡ t → ◌≡◌ {A = Clamped} (record { code = bounded low high c; cut = t || ltb high c }) (record { code = cond t low high; cut = true })
    go true q = let code : bounded low high c ≡ low = omega (arith, ltb-true c low q) in ap (λ (x : ℕ). record { code = x; cut = true }) code
    go false q =
        let h = above (ltb-false c low q) in
        let code : bounded low high c ≡ high = omega arith in
        let cut = lt-ltb high c h in
        λ i. record { code = code i; cut = cut i }

-- the ends, and with them which codes lie outside, depth by depth
module _ (n : ℕ) (d : depth_known n ≡ true) where
  by-depth : (P : ℕ → Type 0) → P 8 → P 10 → P 12 → P n
  by-depth P eight ten twelve = subst P (known-bits n d) (go (depth_of n))
    where
      go : (d : Depth) → P (bits_of d)
      go Eight = eight
      go Ten = ten
      go Twelve = twelve

  pub ends_printed : (r : Range) → (low_end r n ≡ printed_low r n) × (high_end r n ≡ printed_high r n)
  ends_printed Narrow = by-depth (λ n. (low_end Narrow n ≡ printed_low Narrow n) × (high_end Narrow n ≡ printed_high Narrow n)) (refl, refl) (refl, refl) (refl, refl)
  ends_printed Full = (refl, refl)
  ends_printed LegacyFull = (refl, by-depth (λ n. high_end LegacyFull n ≡ printed_high LegacyFull n) refl refl refl)

  -- every code that is not left out lies within the ends
  pub within-ends : (r : Range) (c : ℕ) → c ≤ top_of n → excluded r n c ≡ false → WithinEnds r n c
  within-ends Narrow c h e =
      let s = step_of n in
      let w = not-false (leb s c && leb c (255 * s - 1)) e in
      omega (arith, ends_printed Narrow, leb-true s c (and_left (leb s c) (leb c (255 * s - 1)) w), leb-true c (255 * s - 1) (and_right (leb s c) (leb c (255 * s - 1)) w))
  within-ends Full c h e = (omega arith, h)
  within-ends LegacyFull c h e = (omega arith, omega (arith, ends_printed LegacyFull, go (eqb n 12) e))
    where
      go : (t : Bool) → t && leb 4093 c ≡ false → c ≤ cond t 4092 (top_of n)
      go true e = omega (arith, leb-false 4093 c e)
      go false e = h

  -- and one that is left out, and not below them, lies above
  above_ends : (r : Range) (c : ℕ) → excluded r n c ≡ true → printed_low r n ≤ c → printed_high r n < c
  above_ends Narrow c e low =
      let s = step_of n in
      let f = ends_printed Narrow in
      omega (arith, f, leb-false c (255 * s - 1) (passes (leb s c) (leb c (255 * s - 1)) (le-leb s c (omega arith)) e))
    where
      passes : (a b : Bool) → a ≡ true → not (a && b) ≡ true → b ≡ false
      passes true true p e = sym e
      passes true false p e = refl
      passes false b p e = absurd (true≢false (sym p))
  above_ends Full c e low = absurd (true≢false (sym e))
  above_ends LegacyFull c e low = omega (arith, ends_printed LegacyFull, go (eqb n 12) e)
    where
      go : (t : Bool) → t && leb 4093 c ≡ true → cond t 4092 (top_of n) < c
      go true e = omega (arith, leb-true 4093 c e)
      go false e = absurd (true≢false (sym e))

  ordered : (r : Range) → printed_low r n ≤ printed_high r n
  ordered Narrow = by-depth (λ n. printed_low Narrow n ≤ printed_high Narrow n) (lit≤ tt) (lit≤ tt) (lit≤ tt)
  ordered Full = omega arith
  ordered LegacyFull = omega arith

  -- a value's code lies within them, and is one of them if it was cut
  pub value_kept : (r : Range) (k : Kind) (v : Fraction) → Kept (printed_low r n) (printed_high r n) (code_of_value (scale_of r n k) v)
  unfolding code_of_value
  value_kept r k v =
      let sc = scale_of r n k in
      let e = ends r k n in
      let f = ends_printed r in
      subst (Kept (printed_low r n) (printed_high r n)) (λ i. clamped (sym (e.0 ∙ f.0) i) (sym (e.1 ∙ f.1) i) (unclamped sc v)) (kept (printed_low r n) (printed_high r n) (ordered r) (unclamped sc v))

  pub code_kept : (r : Range) (k : Kind) (v : Float) (c : Clamped) → code_of (scale_of r n k) v ≡ Some c → Kept (printed_low r n) (printed_high r n) c
  unfolding code_of
  code_kept r k nan c e = let z : ◌≡◌ {A = ℕ} 0 1 = cc in absurd (omega arith)
  code_kept r k (inf false) c e =
      let d : ◌≡◌ {A = Clamped} (record { code = (scale_of r n k).high; cut = true }) c = cc in
      let h : c.code ≡ printed_high r n = sym (ap (λ (x : Clamped). x.code) d) ∙ (ends r k n).1 ∙ (ends_printed r).1 in
      record { within = omega (arith, ordered r); cut = λ t. inr h }
  code_kept r k (inf true) c e =
      let d : ◌≡◌ {A = Clamped} (record { code = (scale_of r n k).low; cut = true }) c = cc in
      let h : c.code ≡ printed_low r n = sym (ap (λ (x : Clamped). x.code) d) ∙ (ends r k n).0 ∙ (ends_printed r).0 in
      record { within = omega (arith, ordered r); cut = λ t. inl h }
  code_kept r k (fin s m x) c e = let d : code_of_value (scale_of r n k) (exact s m x) ≡ c = cc in subst (Kept (printed_low r n) (printed_high r n)) d (value_kept r k (exact s m x))

  -- a code that is not left out is as it was,
  pub included_code : (r : Range) (c : ℕ) → c ≤ top_of n → excluded r n c ≡ false → clamped (printed_low r n) (printed_high r n) (pos c) ≡ record { code = c; cut = false }
  included_code r c h e = let w = within-ends r c h e in uncut (printed_low r n) (printed_high r n) c w.0 w.1

  -- and one that is left out is cut to the nearer end
  pub excluded_code : (r : Range) (c : ℕ) → excluded r n c ≡ true → clamped (printed_low r n) (printed_high r n) (pos c) ≡ record { code = nearer_end r n c; cut = true }
  excluded_code r c e = cut_end (printed_low r n) (printed_high r n) c (ordered r) (above_ends r c e)
