-- The difference of two numbers that an f64 holds, as the machine takes it. Assumes nothing.
use mathlib.Core.Path.{◌≡◌, sym, ap, ap₂, ◌∙◌, subst}
use Prim.Native.Nat.{ℕ, suc, ◌+◌, ◌-◌, ◌^◌, ◌≤◌, ◌<◌}
use native.Mathlib.Omega.{arith}
use lib.Dec.{T, le→leb, lt→ltb}
use lib.IntN.{ℤ, pos, ◌-ℤ◌}
use lib.Ieee.{binary64, of_int, in_float}
use lib.Signed.{mag}
use mir.Syntax.{w64}
use mir.Val.{hbits, SFits, to_z, of_z}
use mir.ValLaws.{to_z_pos, to_z-of_z}
use Rattle.fractions.proofs.Integers.{minus_cases}
use Rattle.color_rows.specs.inner.Rows.{difference_of}

module _ (a b : ℕ) (h : a + b ≤ 2 ^ 53) where
  small_fits : SFits w64 (pos a -ℤ pos b)
  small_fits = record { sfits = minus_cases (λ (z : ℤ). mag z < 2 ^ hbits w64) a b (λ l. omega arith) (λ l. omega arith) }

  plain : to_z w64 a -ℤ to_z w64 b ≡ pos a -ℤ pos b
  plain = ap₂ (λ (x y : ℤ). x -ℤ y) (to_z_pos w64 a (omega arith)) (to_z_pos w64 b (omega arith))

  -- it fits 64 bits
  pub difference-fits : SFits w64 (to_z w64 a -ℤ to_z w64 b)
  difference-fits = subst (SFits w64) (sym plain) small_fits

  difference_is : to_z w64 (of_z w64 (to_z w64 a -ℤ to_z w64 b)) ≡ pos a -ℤ pos b
  difference_is = to_z-of_z w64 (to_z w64 a -ℤ to_z w64 b) difference-fits ∙ plain

  in_float_lem : T (in_float binary64 (pos a -ℤ pos b))
  unfolding in_float
  in_float_lem = minus_cases (λ (z : ℤ). T (in_float binary64 z)) a b (λ l. le→leb (a - b) (2 ^ 53) (omega arith)) (λ l. lt→ltb (b - suc a) (2 ^ 53) (omega arith))

  -- an f64 holds it, and has it
  pub difference_held : T (in_float binary64 (to_z w64 (of_z w64 (to_z w64 a -ℤ to_z w64 b))))
  difference_held = subst (λ (z : ℤ). T (in_float binary64 z)) (sym difference_is) in_float_lem

  pub difference-has : of_int binary64 (to_z w64 (of_z w64 (to_z w64 a -ℤ to_z w64 b))) ≡ difference_of a b
  difference-has = ap (of_int binary64) difference_is
