-- Whether a text begins with another: by the library's method, and what it says. Assumes nothing.
use mathlib.Core.Path.{◌≡◌, refl, sym, ap₂, ◌∙◌}
use mathlib.Core.Bool.{Bool, true, false, ◌&&◌, true≢false}
use mathlib.Core.List.{List, [], ◌∷◌, ◌++◌}
use Prim.Native.Nat.{ℕ}
use Rattle.std.specs.List.{starts_with}
use borrow.Author.Tests.{eq-eqb, eqb-true, ne_eqb}
use lib.Dec.{eqb}
use lib.ListN.{length, drop}
use Rattle.lists.proofs.Tests.{and_left, and_right}
use Rattle.ppm_header.specs.Header.{begins}

eqb_swap : (a b : ℕ) → eqb a b ≡ eqb b a
eqb_swap a b = by (eqb b a) refl
  where
    by : (t : Bool) → eqb b a ≡ t → eqb a b ≡ t
    by true e = eq-eqb a b (sym (eqb-true b a e))
    by false e = ne_eqb a b (λ z. true≢false (sym (eq-eqb b a (sym z)) ∙ e))

-- what the library's method answers
pub begins_is : (s t : List ℕ) → starts_with eqb s t ≡ begins t s
unfolding begins
begins_is s [] = refl
begins_is [] (b ∷ t) = refl
begins_is (c ∷ s) (b ∷ t) = ap₂ ◌&&◌ (eqb_swap b c) (begins_is s t)

-- a text begins with its front, and with no other text
pub begins-front : (t s : List ℕ) → begins t (t ++ s) ≡ true
unfolding begins
begins-front [] s = refl
begins-front (b ∷ t) s = ap₂ ◌&&◌ (eq-eqb b b refl) (begins-front t s)

pub begins_says : (t s : List ℕ) → begins t s ≡ true → s ≡ t ++ drop (length t) s
unfolding begins
begins_says [] s e = refl
begins_says (b ∷ t) [] e = let z : false ≡ true = e in cc
begins_says (b ∷ t) (c ∷ s) e =
    ap₂ (λ (x : ℕ) (xs : List ℕ). x ∷ xs) (eqb-true c b (and_left (eqb c b) (begins t s) e)) (begins_says t s (and_right (eqb c b) (begins t s) e))
