-- The depth of a header's largest code, and its bytes a point. Assumes nothing.
use mathlib.Core.Path.{◌≡◌, refl, sym, ap, ap₂, ◌∙◌}
use mathlib.Core.Bool.{Bool, true, false, cond, ◌||◌}
use Prim.Native.Nat.{ℕ, ◌≤◌}
use borrow.Author.Tests.{eqb-true, ne_eqb}
use lib.Dec.{eqb, lit≤}
use Rattle.parameters.specs.declared.depth.Depth.{Depth}
use Rattle.parameters.specs.declared.depth.Depth.TheVariants.{Eight, Ten, Twelve}
use Rattle.parameters.specs.Parameters.{bits_of, depth_of, top_of}
use Rattle.ppm_header.specs.Header.{top_known}
use Rattle.ppm_card.specs.Card.{depth_of_top, bytes_of_top}

-- the depth of its largest code
pub depth_back : (d : Depth) → depth_of_top (top_of (bits_of d)) ≡ bits_of d
depth_back Eight = refl
depth_back Ten = refl
depth_back Twelve = refl

pub few_bytes : (d : Depth) → bytes_of_top (top_of (bits_of d)) ≤ 5
few_bytes Eight = lit≤ tt
few_bytes Ten = lit≤ tt
few_bytes Twelve = lit≤ tt

-- a number that is none of the first two
pub last-depth : (top : ℕ) → (top ≡ 255 → ⊥) → (top ≡ 1023 → ⊥) → depth_of (depth_of_top top) ≡ Twelve
last-depth top n m = ap₂ (λ (a b : Bool). depth_of (cond a 8 (cond b 10 12))) (ne_eqb top 255 n) (ne_eqb top 1023 m)

-- the largest code of its depth
pub top_back : (top : ℕ) → top_known top ≡ true → top_of (bits_of (depth_of (depth_of_top top))) ≡ top
top_back top k = by (eqb top 255) (eqb top 1023) refl refl
  where
    by : (a b : Bool) → eqb top 255 ≡ a → eqb top 1023 ≡ b → top_of (bits_of (depth_of (depth_of_top top))) ≡ top
    by true b e f = let t = eqb-true top 255 e in ap (λ (n : ℕ). top_of (bits_of (depth_of (depth_of_top n)))) t ∙ sym t
    by false true e f = let t = eqb-true top 1023 f in ap (λ (n : ℕ). top_of (bits_of (depth_of (depth_of_top n)))) t ∙ sym t
    by false false e f = let t = eqb-true top 4095 (ap₂ (λ (a b : Bool). a || b || eqb top 4095) (sym e) (sym f) ∙ k) in ap (λ (n : ℕ). top_of (bits_of (depth_of (depth_of_top n)))) t ∙ sym t
