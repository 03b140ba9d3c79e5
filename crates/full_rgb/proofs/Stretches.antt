-- A code stretched: how large its numbers are, and a line of such codes. Assumes nothing.
use mathlib.Core.Path.{◌≡◌, refl, sym, ap, ◌∙◌}
use mathlib.Core.List.{List}
use Prim.Native.Nat.{ℕ, zero, suc, ◌+◌, ◌*◌, ◌/◌, ◌%◌, ◌^◌, ◌≤◌, ◌<◌}
use native.Mathlib.Nat.{mul-le-mul}
use native.Mathlib.Omega.{arith}
use lib.ListN.{length, get_or}
use Rattle.lists.specs.Lists.{tabulate}
use Rattle.lists.proofs.Lists.{tabulate_same}
use Rattle.lists.proofs.Filled.{Filled, filled_all}
use Rattle.color_equations.specs.Conversion.{pick}
use Rattle.color_equations.specs.Line.{converted_at, converted_of}
use Rattle.full_rgb.specs.declared.stretch.Stretch.{Stretch}
use Rattle.full_rgb.specs.inner.Way.{stretched_by, each_code}

-- a product of two numbers of 16 bits
pub product_small : {a b : ℕ} → a < 2 ^ 16 → b < 2 ^ 16 → a * b ≤ 65535 * 65535
product_small {a} {b} h k =
    let p : a ≤ 65535 = omega arith in
    let q : b ≤ 65535 = omega arith in
    mul-le-mul p q

-- a code's place in its point
pub pick_code : (cs : List ℕ) (k : ℕ) → pick (k % 3) (get_or cs (3 * (k / 3)) 0) (get_or cs (3 * (k / 3) + 1) 0) (get_or cs (3 * (k / 3) + 2) 0) ≡ get_or cs k 0
pick_code cs k = by (k % 3) refl
  where
    by : (j : ℕ) → k % 3 ≡ j → pick j (get_or cs (3 * (k / 3)) 0) (get_or cs (3 * (k / 3) + 1) 0) (get_or cs (3 * (k / 3) + 2) 0) ≡ get_or cs k 0
    by zero e = ap (λ (m : ℕ). get_or cs m 0) (omega (arith, e))
    by (suc zero) e = ap (λ (m : ℕ). get_or cs m 0) (omega (arith, e))
    by (suc (suc j)) e = ap (λ (m : ℕ). get_or cs m 0) (omega (arith, e))

module _ (s : Stretch) (cs : List ℕ) where
  pub each_at : (k : ℕ) → (converted_at (each_code s) cs k).code ≡ stretched_by s (get_or cs k 0)
  unfolding converted_at each_code
  each_at k = ap (stretched_by s) (pick_code cs k)

  pub each_all : {out xs : List ℕ} {n : ℕ} → length out ≡ length cs → n ≡ length cs → Filled out (λ k. stretched_by s (get_or cs k 0)) n xs → xs ≡ converted_of (each_code s) cs
  unfolding converted_of
  each_all {out} {xs} {n} e m f =
      filled_all 0 (e ∙ sym m) f
      ∙ ap (λ (j : ℕ). tabulate j (λ k. stretched_by s (get_or cs k 0))) m
      ∙ tabulate_same 0 (length cs) (λ k. stretched_by s (get_or cs k 0)) (λ k. (converted_at (each_code s) cs k).code) (λ k h. sym (each_at k))
