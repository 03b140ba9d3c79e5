-- A line of groups, where it is looked at: all but the second point's colour. Assumes nothing.
use mathlib.Core.Path.{◌≡◌, refl, ap, ap₂, ◌∙◌}
use mathlib.Core.Bool.{Bool, true, false, cond, ◌&&◌}
use mathlib.Core.List.{List}
use Prim.Native.Nat.{ℕ, ◌+◌, ◌-◌, ◌*◌, ◌%◌, ◌≤◌, ◌<◌}
use native.Mathlib.Omega.{arith}
use borrow.Author.Tests.{le-leb, lt-leb}
use lib.ListN.{length, drop, get_or}
use Rattle.lists.specs.Lists.{every}
use Rattle.lists.proofs.Every.{every_next, every_end}
use Rattle.lists.proofs.Lists.{length-tabulate, get_or-tabulate}
use Rattle.lists.proofs.Tests.{and_true}
use Rattle.line.specs.Group.{second_color}
use Rattle.line.specs.inner.Groups.{group_shared}

-- of a group's six elements the first four are no second colour, and the last two are
pub first_four : (k i j : ℕ) → k ≡ 6 * i + j → j < 4 → second_color k ≡ false
first_four k i j e h = lt-leb 4 (k % 6) (omega arith)

pub last_two : (k i j : ℕ) → k ≡ 6 * i + j → 4 ≤ j → j < 6 → second_color k ≡ true
last_two k i j e h f = le-leb 4 (k % 6) (omega arith)

module _ {A : Type 0} (d : A) (xs : List A) where
  pub length-shared : length (group_shared d xs) ≡ length xs
  length-shared = length-tabulate (length xs) (λ k. get_or xs (cond (second_color k) (k - 3) k) d)

  shared_is : (k m : ℕ) (t : Bool) → k < length xs → second_color k ≡ t → cond t (k - 3) k ≡ m → get_or (group_shared d xs) k d ≡ get_or xs m d
  shared_is k m t h e f =
      get_or-tabulate (length xs) (λ k. get_or xs (cond (second_color k) (k - 3) k) d) k d h ∙ ap (λ (x : ℕ). get_or xs x d) (ap (λ (t : Bool). cond t (k - 3) k) e ∙ f)

  pub shared-first : (k i j : ℕ) → k ≡ 6 * i + j → j < 4 → k < length xs → get_or (group_shared d xs) k d ≡ get_or xs k d
  shared-first k i j e h l = shared_is k k false l (first_four k i j e h) refl

  shared_second : (k i j m : ℕ) → k ≡ 6 * i + j → 4 ≤ j → j < 6 → k < length xs → m + 3 ≡ k → get_or (group_shared d xs) k d ≡ get_or xs m d
  shared_second k i j m e h f l g = shared_is k m true l (last_two k i j e h f) (omega arith)

  -- ---- a scan that looks at four elements of each group

  module _ (p : A → Bool) where
    abbrev at : ℕ → Bool
    at k = p (get_or xs k d)

    abbrev left : ℕ → Bool
    left k = every p (drop k (group_shared d xs))

    one : (ok : Bool) (k m next : ℕ) → k < length xs → get_or (group_shared d xs) k d ≡ get_or xs m d → k + 1 ≡ next → ok && left k ≡ ok && at m && left next
    one ok k m next h e f =
        every_next p d ok (group_shared d xs) k (omega (arith, length-shared)) ∙ ap₂ (λ (x : A) (n : ℕ). ok && p x && left n) e f

    -- what was tested of the first point's colour holds of the second's
    again : (ok a b c e : Bool) → ok && a && b && c && e && b && c ≡ ok && (a && b && c && e)
    again false a b c e = refl
    again true false b c e = refl
    again true true false c e = refl
    again true true true false e = refl
    again true true true true false = refl
    again true true true true true = refl

    -- one turn, of group i
    pub every_group : (ok : Bool) (i : ℕ) → 6 * i + 6 ≤ length xs → ok && left (6 * i) ≡ ok && (at (6 * i) && at (6 * i + 1) && at (6 * i + 2) && at (6 * i + 3)) && left (6 * (i + 1))
    every_group ok i h =
        let k = 6 * i in
        let a = at k in
        let b = at (k + 1) in
        let c = at (k + 2) in
        let e = at (k + 3) in
        one ok k k (k + 1) (omega arith) (shared-first k i 0 (omega arith) (omega arith) (omega arith)) refl
        ∙ one (ok && a) (k + 1) (k + 1) (k + 2) (omega arith) (shared-first (k + 1) i 1 refl (omega arith) (omega arith)) (omega arith)
        ∙ one (ok && a && b) (k + 2) (k + 2) (k + 3) (omega arith) (shared-first (k + 2) i 2 refl (omega arith) (omega arith)) (omega arith)
        ∙ one (ok && a && b && c) (k + 3) (k + 3) (k + 4) (omega arith) (shared-first (k + 3) i 3 refl (omega arith) (omega arith)) (omega arith)
        ∙ one (ok && a && b && c && e) (k + 4) (k + 1) (k + 5) (omega arith) (shared_second (k + 4) i 4 (k + 1) refl (omega arith) (omega arith) (omega arith) (omega arith)) (omega arith)
        ∙ one (ok && a && b && c && e && b) (k + 5) (k + 2) (6 * (i + 1)) (omega arith) (shared_second (k + 5) i 5 (k + 2) refl (omega arith) (omega arith) (omega arith) (omega arith)) (omega arith)
        ∙ ap (λ (t : Bool). t && left (6 * (i + 1))) (again ok a b c e)

    -- all turns
    pub every_group_end : (ok : Bool) (i : ℕ) → length xs ≤ 6 * i → ok && left (6 * i) ≡ ok
    every_group_end ok i h = ap (λ (t : Bool). ok && t) (every_end p d (group_shared d xs) (6 * i) (omega (arith, length-shared))) ∙ and_true ok
