-- What the numbers of a conversion say. Assumes nothing.
use mathlib.Core.Path.{◌≡◌, refl}
use mathlib.Core.Bool.{Bool, true, false, cond, ◌&&◌}
use Prim.Native.Nat.{ℕ}
use native.Mathlib.Omega.{arith}
use Rattle.lists.proofs.Tests.{and_left, and_right}
use Rattle.parameters.specs.Parameters.{primaries_known, depth_known, range_known}
use Rattle.color_equations.specs.Line.{convertible}
use Rattle.color_numbers.specs.declared.Numbers.{Numbers}
use Rattle.std.specs.Prelude.{Some, None}
use Rattle.color_numbers.specs.inner.Numbers.{numbers_of, known_numbers}
use Rattle.color_numbers.specs.inner.Sizes.{SmallNumbers}
use Rattle.color_numbers.proofs.Table.{weights_small, green_small}

-- what convertible numbers have passed
pub record Passed (p d f t : ℕ) : Type 0 where
  pub primaries : primaries_known p ≡ true
  pub depth : depth_known d ≡ true
  pub from : range_known f ≡ true
  pub to : range_known t ≡ true

pub passed : (p d f t : ℕ) → convertible p d f t ≡ true → Passed p d f t
passed p d f t e =
    let k = and_left (primaries_known p && depth_known d && range_known f) (range_known t) e in
    let l = and_left (primaries_known p && depth_known d) (range_known f) k in
    record { primaries = and_left (primaries_known p) (depth_known d) l; depth = and_right (primaries_known p) (depth_known d) l; from = and_right (primaries_known p && depth_known d) (range_known f) k; to = and_right (primaries_known p && depth_known d && range_known f) (range_known t) e }

pub numbers_small : (p d f t : ℕ) → convertible p d f t ≡ true → SmallNumbers (numbers_of p d f t)
numbers_small p d f t e = let h = passed p d f t e in record { weights = weights_small p h.primaries; green = green_small p h.primaries }

module _ (p d f t : ℕ) where
  pub numbers_told : {m : Numbers} → known_numbers p d f t ≡ Some m → (convertible p d f t ≡ true) × (m ≡ numbers_of p d f t)
  numbers_told {m} e = go (convertible p d f t) refl e
    where
      go : (b : Bool) → convertible p d f t ≡ b → cond b (Some (numbers_of p d f t)) None ≡ Some m → (convertible p d f t ≡ true) × (m ≡ numbers_of p d f t)
      go true k e = (k, cc)
      go false k e = let z : ◌≡◌ {A = ℕ} 0 1 = cc in absurd (omega arith)
