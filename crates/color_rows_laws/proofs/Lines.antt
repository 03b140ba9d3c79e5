-- Lines that two functions convert alike, and a conversion that is known. Assumes nothing.
use mathlib.Core.Path.{◌≡◌, refl}
use mathlib.Core.Bool.{Bool, true, false, cond}
use mathlib.Core.List.{List, [], ◌∷◌}
use Prim.Native.Nat.{ℕ, zero, suc, ◌+◌, ◌*◌, ◌/◌, ◌%◌, ◌≤◌}
use native.Mathlib.Omega.{arith}
use borrow.Author.Tests.{leb-true}
use lib.Dec.{leb}
use lib.ListN.{length, get_or}
use Rattle.lists.specs.Lists.{every}
use Rattle.lists.proofs.Lists.{tabulate_same}
use Rattle.lists.proofs.Counts.{count_same}
use Rattle.lists.proofs.Tests.{and_left, and_right}
use Rattle.fractions.specs.declared.Clamped.{Clamped}
use Rattle.color_equations.specs.Line.{Converter, converted_at, converted_of, converted_cuts}
use Rattle.std.specs.Prelude.{Some, None}
use Rattle.color_rows.specs.declared.Conversion.{Conversion}

-- a code of a line, and what stands past its end, is at most the top
pub code_le : (top : ℕ) (cs : List ℕ) → every (λ c. leb c top) cs ≡ true → (k : ℕ) → get_or cs k 0 ≤ top
unfolding every
code_le top [] e k = omega arith
code_le top (c ∷ cs) e zero = leb-true c top (and_left (leb c top) (every (λ c. leb c top) cs) e)
code_le top (c ∷ cs) e (suc k) = code_le top cs (and_right (leb c top) (every (λ c. leb c top) cs) e) k

-- what converts every point up to the top to the same codes does so with every such line, and what cuts the same of them cuts as many
module _ (f g : Converter) (top : ℕ) (cs : List ℕ) (e : every (λ c. leb c top) cs ≡ true) where
  at_same : {A : Type 0} (p : Clamped → A) → ((x y z j : ℕ) → x ≤ top → y ≤ top → z ≤ top → p (f x y z j) ≡ p (g x y z j)) → (k : ℕ) → p (converted_at f cs k) ≡ p (converted_at g cs k)
  unfolding converted_at
  at_same p h k =
      h (get_or cs (3 * (k / 3)) 0) (get_or cs (3 * (k / 3) + 1) 0) (get_or cs (3 * (k / 3) + 2) 0) (k % 3) (code_le top cs e (3 * (k / 3))) (code_le top cs e (3 * (k / 3) + 1)) (code_le top cs e (3 * (k / 3) + 2))

  pub converted_same : ((x y z j : ℕ) → x ≤ top → y ≤ top → z ≤ top → (f x y z j).code ≡ (g x y z j).code) → converted_of f cs ≡ converted_of g cs
  unfolding converted_of
  converted_same h = tabulate_same 0 (length cs) (λ k. (converted_at f cs k).code) (λ k. (converted_at g cs k).code) (λ k l. at_same (λ x. x.code) h k)

  pub cuts_same : ((x y z j : ℕ) → x ≤ top → y ≤ top → z ≤ top → (f x y z j).cut ≡ (g x y z j).cut) → converted_cuts f cs ≡ converted_cuts g cs
  unfolding converted_cuts
  cuts_same h = count_same (length cs) (λ k. (converted_at f cs k).cut) (λ k. (converted_at g cs k).cut) (λ k l. at_same (λ x. x.cut) h k)

-- ---- a conversion that is known
pub conversion_told : (b : Bool) (k : Conversion) {m : Conversion} → cond b (Some k) None ≡ Some m → (b ≡ true) × (m ≡ k)
conversion_told true k e = (refl, cc)
conversion_told false k e = let z : ◌≡◌ {A = ℕ} 0 1 = cc in absurd (omega arith)

pub conversion_unknown : (b : Bool) (k : Conversion) → cond b (Some k) None ≡ None → b ≡ false
conversion_unknown true k e = let z : ◌≡◌ {A = ℕ} 0 1 = cc in absurd (omega arith)
conversion_unknown false k e = refl
