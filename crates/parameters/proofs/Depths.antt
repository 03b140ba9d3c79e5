-- What holds of the paper's numbers of range and depth: of every depth n, once over n from 8 to 12, by the step s = 2 ^ (n - 8). Assumes nothing.
use mathlib.Core.Path.{◌≡◌, refl, sym, ap, ◌∙◌, subst}
use mathlib.Core.Bool.{true, ◌||◌}
use mathlib.Core.Logic.{inl, inr}
use Prim.Native.Nat.{ℕ, ◌+◌, ◌-◌, ◌*◌, ◌^◌, ◌≤◌}
use native.Mathlib.Omega.{arith}
use borrow.Author.Tests.{eqb-true}
use lib.Dec.{eqb, lit≤}
use lib.Pow.{pow-add, pow_pos, pow_mono}
use Rattle.lists.proofs.Tests.{or_cases}
use Rattle.parameters.specs.declared.depth.Depth.{Depth}
use Rattle.parameters.specs.declared.depth.Depth.TheVariants.{Eight, Ten, Twelve}
use Rattle.parameters.specs.Parameters.{depth_known, depth_of, bits_of, step_of}

-- k bits above those of the step
above : (k n m : ℕ) → m ≡ k + (n - 8) → 2 ^ m ≡ 2 ^ k * step_of n
above k n m e = ap (λ (x : ℕ). 2 ^ x) e ∙ pow-add 2 k (n - 8)

-- every power of two that the paper names is a multiple of the step, so that what is said of them is linear in it: from 8 on,
pub record Powers (n : ℕ) : Type 0 where
  pub least : 1 ≤ step_of n
  pub whole : 2 ^ n ≡ 256 * step_of n
  pub half : 2 ^ (n - 1) ≡ 128 * step_of n

pub powers : (n : ℕ) → 8 ≤ n → Powers n
powers n lo = record {
  least = pow_pos (n - 8);
  whole = above 8 n n (omega arith);
  half = above 7 n (n - 1) (omega arith);
}

-- and up to 12 the step is at most 16
pub record Steps (n : ℕ) : Type 0 where
  pub least : 1 ≤ step_of n
  pub most : step_of n ≤ 16
  pub whole : 2 ^ n ≡ 256 * step_of n
  pub half : 2 ^ (n - 1) ≡ 128 * step_of n

pub steps : (n : ℕ) → 8 ≤ n → n ≤ 12 → Steps n
steps n lo hi =
    let p = powers n lo in
    record {
      least = p.least;
      most = pow_mono {j = 4} (omega arith);
      whole = p.whole;
      half = p.half;
    }

-- the paper's depths lie there
pub bits_least : (d : Depth) → 8 ≤ bits_of d
bits_least Eight = lit≤ tt
bits_least Ten = lit≤ tt
bits_least Twelve = lit≤ tt

pub bits_most : (d : Depth) → bits_of d ≤ 12
bits_most Eight = lit≤ tt
bits_most Ten = lit≤ tt
bits_most Twelve = lit≤ tt

pub depth_steps : (d : Depth) → Steps (bits_of d)
depth_steps d = steps (bits_of d) (bits_least d) (bits_most d)

-- and a known number is that of its depth
pub known-bits : (n : ℕ) → depth_known n ≡ true → bits_of (depth_of n) ≡ n
known-bits n e = elim (or_cases (eqb n 8 || eqb n 10) (eqb n 12) e) [
  | inl q ↦ elim (or_cases (eqb n 8) (eqb n 10) q) [ inl r ↦ at n 8 refl (eqb-true n 8 r) | inr r ↦ at n 10 refl (eqb-true n 10 r) ]
  | inr q ↦ at n 12 refl (eqb-true n 12 q)
]
  where
    at : (n k : ℕ) → bits_of (depth_of k) ≡ k → n ≡ k → bits_of (depth_of n) ≡ n
    at n k h q = subst (λ (x : ℕ). bits_of (depth_of x) ≡ x) (sym q) h

pub known_between : (n : ℕ) → depth_known n ≡ true → (8 ≤ n) × (n ≤ 12)
known_between n e = let q = known-bits n e in omega (arith, bits_least (depth_of n), bits_most (depth_of n))
