-- The scales that the code makes, by the depth's step, and their ends. Assumes nothing.
use mathlib.Core.Path.{◌≡◌, refl, sym, subst}
use mathlib.Core.Bool.{Bool, true, false, cond}
use Prim.Native.Nat.{ℕ, ◌+◌, ◌-◌, ◌*◌, ◌/◌, ◌^◌, ◌≤◌}
use native.Mathlib.Omega.{arith}
use borrow.Author.Tests.{eqb-true}
use lib.Dec.{eqb, lit≤}
use Rattle.parameters.specs.declared.range.Range.{Range}
use Rattle.parameters.specs.declared.range.Range.TheVariants.{Narrow, Full, LegacyFull}
use Rattle.parameters.specs.declared.kind.Kind.{Kind}
use Rattle.parameters.specs.declared.kind.Kind.TheVariants.{Brightness, Difference}
use Rattle.parameters.specs.Parameters.{step_of, top_of}
use Rattle.parameters.proofs.Depths.{Steps}
use Rattle.scale.specs.declared.Scale.{Scale}
use Rattle.scale.specs.declared.Rounding.{Rounding}
use Rattle.scale.specs.declared.Rounding.TheVariants.{HalfUp, HalfAway}
use Rattle.scale.specs.Scale.{low_end, high_end, scale_of}

-- base, span and rounding, as the code makes them of a step and a highest code
abbrev pub parts_by : Range → (s m : ℕ) → Kind → ℕ × ℕ × Rounding
parts_by Narrow s m Brightness = (16 * s, 219 * s, HalfUp)
parts_by Narrow s m Difference = (128 * s, 224 * s, HalfUp)
parts_by Full s m Brightness = (0, m, HalfAway)
parts_by Full s m Difference = ((m + 1) / 2, m, HalfAway)
parts_by LegacyFull s m Brightness = (0, m + 1, HalfUp)
parts_by LegacyFull s m Difference = ((m + 1) / 2, m + 1, HalfUp)

-- and the scale of them, a highest code and two ends
abbrev pub scale_by : ℕ × ℕ × Rounding → (m low high : ℕ) → Scale
scale_by b m low high = record { base = b.0; span = b.1; top = m; low = low; high = high; rounding = b.2 }

pub by_step : (r : Range) (k : Kind) (n : ℕ) → Steps n → scale_by (parts_by r (step_of n) (top_of n) k) (top_of n) (low_end r n) (high_end r n) ≡ scale_of r n k
unfolding scale_of
by_step Narrow Brightness n h = refl
by_step Narrow Difference n h = refl
by_step Full Brightness n h = refl
by_step Full Difference n h =
    let e : (top_of n + 1) / 2 ≡ 2 ^ (n - 1) = omega arith in
    rw e
by_step LegacyFull Brightness n h =
    let e : top_of n + 1 ≡ 2 ^ n = omega (arith, h) in
    rw e
by_step LegacyFull Difference n h =
    let e : top_of n + 1 ≡ 2 ^ n = omega (arith, h) in
    let f : 2 ^ n / 2 ≡ 2 ^ (n - 1) = omega (arith, h) in
    rw (e, f)

-- the ends of a scale are those of its range, for both kinds
pub ends : (r : Range) (k : Kind) (n : ℕ) → ((scale_of r n k).low ≡ low_end r n) × ((scale_of r n k).high ≡ high_end r n)
unfolding scale_of
ends Narrow Brightness n = (refl, refl)
ends Narrow Difference n = (refl, refl)
ends Full Brightness n = (refl, refl)
ends Full Difference n = (refl, refl)
ends LegacyFull Brightness n = (refl, refl)
ends LegacyFull Difference n = (refl, refl)

-- the 4092 of 12 bits is below 2^12 - 1
pub legacy_le : (n : ℕ) → high_end LegacyFull n ≤ top_of n
legacy_le n = go (eqb n 12) refl
  where
    go : (t : Bool) → eqb n 12 ≡ t → cond t 4092 (top_of n) ≤ top_of n
    go true e = subst (λ (k : ℕ). 4092 ≤ top_of k) (sym (eqb-true n 12 e)) (lit≤ tt)
    go false e = omega arith

-- no end is above the highest code
pub ends_le : (r : Range) (n : ℕ) → Steps n → (low_end r n ≤ top_of n) × (high_end r n ≤ top_of n)
ends_le Narrow n h = (omega (arith, h), omega (arith, h))
ends_le Full n h = (omega arith, omega arith)
ends_le LegacyFull n h = (omega arith, legacy_le n)
