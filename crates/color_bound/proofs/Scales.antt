-- The paper's scales of ranges 1 and 2, each pair of ranges once, for every n from 8 on, by the step s = 2 ^ (n - 8): half a code of Y'CbCr is small enough, and the codes that the bound speaks of stand for values from 0 to 1. Assumes nothing.
use mathlib.Core.Path.{◌≡◌, refl, sym, subst}
use mathlib.Core.Bool.{true}
use mathlib.Core.Logic.{⊎_elim}
use Prim.Native.Nat.{ℕ, ◌*◌, ◌≤◌}
use native.Mathlib.Omega.{arith}
use borrow.Author.Tests.{eqb-true, leb-true}
use lib.Dec.{eqb, leb}
use Rattle.lists.proofs.Tests.{and_left, and_right, or_cases}
use Rattle.parameters.specs.declared.kind.Kind.TheVariants.{Brightness, Difference}
use Rattle.parameters.specs.Parameters.{range_known, range_of, step_of, top_of}
use Rattle.parameters.proofs.Depths.{Powers, powers}
use Rattle.scale.specs.Scale.{scale_of}
use Rattle.color_bound.specs.Bound.{covered, nominal, allowed}
use Rattle.color_bound.proofs.Return.{Fit, Inside}

abbrev pub Fits : ℕ → ℕ → ℕ → Type 0
Fits n from to = Fit (scale_of (range_of from) n Brightness) (scale_of (range_of to) n Brightness) (scale_of (range_of to) n Difference) (allowed from to)

abbrev pub Lies : ℕ → ℕ → ℕ → Type 0
Lies n from c = nominal from n c ≡ true → Inside (scale_of (range_of from) n Brightness) c

module _ (n : ℕ) (h : Powers n) where
  narrow_narrow : Fits n 1 1
  unfolding scale_of
  narrow_narrow = omega arith

  narrow_full : Fits n 1 2
  unfolding scale_of
  narrow_full = omega arith

  full_narrow : Fits n 2 1
  unfolding scale_of
  full_narrow = omega arith

  full_full : Fits n 2 2
  unfolding scale_of
  full_full = omega arith

  narrow_lies : (c : ℕ) → Lies n 1 c
  unfolding scale_of
  narrow_lies c e =
      let l = leb-true _ c (and_left (leb _ c) (leb c _) e) in
      let m = leb-true c _ (and_right (leb _ c) (leb c _) e) in
      omega arith

  full_lies : (c : ℕ) → Lies n 2 c
  unfolding scale_of
  full_lies c e = let l = leb-true c (top_of n) e in omega arith

-- what holds of 1 and of 2 holds of a range that is covered
by_range : (P : ℕ → Type 0) → P 1 → P 2 → (range : ℕ) → covered range ≡ true → P range
by_range P f g range e =
    ⊎_elim (λ h. subst P (sym (eqb-true range 1 h)) f) (λ h. subst P (sym (eqb-true range 2 h)) g) (or_cases (eqb range 1) (eqb range 2) e)

-- and the paper has it
pub known : (range : ℕ) → covered range ≡ true → range_known range ≡ true
known = by_range (λ x. range_known x ≡ true) refl refl

pub fits : (n from to : ℕ) → 8 ≤ n → covered from ≡ true → covered to ≡ true → Fits n from to
fits n from to l F T =
    let h = powers n l in
    by_range (λ f. Fits n f to)
    (by_range (λ t. Fits n 1 t) (narrow_narrow n h) (narrow_full n h) to T)
    (by_range (λ t. Fits n 2 t) (full_narrow n h) (full_full n h) to T)
    from F

pub lies : (n from c : ℕ) → 8 ≤ n → covered from ≡ true → Lies n from c
lies n from c l F = by_range (λ f. Lies n f c) (narrow_lies n (powers n l) c) (full_lies n (powers n l) c) from F

-- such a code is one of the depth
pub in_depth : (n from c : ℕ) → 8 ≤ n → covered from ≡ true → nominal from n c ≡ true → c ≤ top_of n
in_depth n from c l F = by_range (λ f. nominal f n c ≡ true → c ≤ top_of n) narrow (λ e. leb-true c (top_of n) e) from F
  where
    narrow : nominal 1 n c ≡ true → c ≤ top_of n
    narrow e =
        let h = powers n l in
        let m = leb-true c (235 * step_of n) (and_right (leb (16 * step_of n) c) (leb c (235 * step_of n)) e) in
        omega (arith, h.least, h.whole)
