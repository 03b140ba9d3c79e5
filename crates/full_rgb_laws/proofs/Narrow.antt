-- Every narrow code of every depth, computed: the code's own arithmetic is the code's fraction and its one rounding. Assumes nothing.
use mathlib.Core.Path.{◌≡◌, refl, subst, sym}
use mathlib.Core.Logic.{⊎_elim}
use mathlib.Core.Bool.{Bool, true, ◌&&◌}
use Prim.Native.Nat.{ℕ, zero, suc, ◌≤◌, ◌<◌}
use native.Mathlib.Nat.{not-suc-le-zero, eq-or-lt_of_le, le_of_suc-le-suc}
use native.Mathlib.Omega.{arith}
use borrow.Author.Tests.{eqb-true}
use lib.Dec.{eqb}
use Rattle.lists.proofs.Tests.{and_left, and_right}
use Rattle.parameters.specs.declared.depth.Depth.{Depth}
use Rattle.parameters.specs.declared.depth.Depth.TheVariants.{Eight, Ten, Twelve}
use Rattle.parameters.specs.Parameters.{bits_of, top_of}
use Rattle.scale.specs.Scale.{scale_of}
use Rattle.quantization.specs.Code.{code_of_value}
use Rattle.full_rgb.specs.Full.{stretched_of}
use Rattle.full_rgb.specs.inner.Way.{narrow_stretch, stretched_by}

-- the first n pass a test
all : ℕ → (ℕ → Bool) → Bool
all zero t = true
all (suc n) t = t n && all n t

one_of : (n : ℕ) (t : ℕ → Bool) → all n t ≡ true → (k : ℕ) → k < n → t k ≡ true
unfolding all
one_of zero t e k h = absurd (not-suc-le-zero h)
one_of (suc n) t e k h =
    ⊎_elim
    (λ (z : k ≡ n). subst (λ (m : ℕ). t m ≡ true) (sym z) (and_left (t n) (all n t) e))
    (λ (l : k < n). one_of n t (and_right (t n) (all n t) e) k l)
    (eq-or-lt_of_le (le_of_suc-le-suc h))

right : Depth → ℕ → Bool
unfolding stretched_of
right d c = eqb (stretched_by (narrow_stretch d) c) (stretched_of (bits_of d) c).code

eight : all 256 (right Eight) ≡ true
unfolding all right stretched_of code_of_value scale_of
eight = refl

ten : all 1024 (right Ten) ≡ true
unfolding all right stretched_of code_of_value scale_of
ten = refl

twelve : all 4096 (right Twelve) ≡ true
unfolding all right stretched_of code_of_value scale_of
twelve = refl

pub narrow_exact : (d : Depth) (c : ℕ) → c ≤ top_of (bits_of d) → stretched_by (narrow_stretch d) c ≡ (stretched_of (bits_of d) c).code
unfolding right
narrow_exact Eight c h = eqb-true _ _ (one_of 256 (right Eight) eight c (omega (arith, h)))
narrow_exact Ten c h = eqb-true _ _ (one_of 1024 (right Ten) ten c (omega (arith, h)))
narrow_exact Twelve c h = eqb-true _ _ (one_of 4096 (right Twelve) twelve c (omega (arith, h)))
