-- A line's codes filled in group by group. Assumes nothing.
use mathlib.Core.Path.{◌≡◌, ap, ap₂, ◌∙◌}
use mathlib.Core.List.{List}
use Prim.Native.Nat.{ℕ, ◌+◌, ◌*◌, ◌/◌, ◌%◌, ◌≤◌, ◌<◌}
use native.Mathlib.Nat.{add-zero}
use native.Mathlib.Omega.{arith}
use lib.ListN.{length, get_or, set}
use Rattle.lists.specs.Lists.{tabulate}
use Rattle.lists.specs.inner.Stores.{written}
use Rattle.lists.proofs.Filled.{Filled, filled_more, filled_all}
use Rattle.line.specs.Group.{byte_of_code, group_code}
use Rattle.line.specs.inner.Groups.{group_codes}

module _ (s : List ℕ) where
  -- code 6 i + j is code j of group i
  code_at_lem : (i j : ℕ) → j < 6 → get_or s (4 * i + byte_of_code j) 0 ≡ group_code s (6 * i + j)
  unfolding group_code
  code_at_lem i j h =
      let q : i ≡ (6 * i + j) / 6 = omega arith in
      let r : j ≡ (6 * i + j) % 6 = omega arith in
      ap₂ (λ (a b : ℕ). get_or s (4 * a + byte_of_code b) 0) q r

  -- one turn of a loop
  pub codes_more : (out xs ys : List ℕ) (i : ℕ) → 6 * i + 6 ≤ length out → Filled out (group_code s) (6 * i) xs
      → ys ≡ written xs (6 * i) (λ j. get_or s (4 * i + byte_of_code j) 0) 6 → Filled out (group_code s) (6 * (i + 1)) ys
  codes_more out xs ys i h f g = filled_more (λ j. get_or s (4 * i + byte_of_code j) 0) 6 (omega arith) (omega arith) (code_at_lem i) f g

  -- all turns
  pub codes_all : (out xs : List ℕ) (i n : ℕ) → length s ≡ 4 * n → length out ≡ 6 * n → n ≤ i → i ≤ n → Filled out (group_code s) (6 * i) xs → xs ≡ group_codes s
  codes_all out xs i n es eo lo hi f =
      let e : 6 * i ≡ 6 * (length s / 4) = omega arith in
      filled_all 0 (omega arith) f ∙ ap (λ (m : ℕ). tabulate m (group_code s)) e

-- the six codes of a group, stored
pub six_codes : (s xs : List ℕ) (i y cb cr y' : ℕ) → y ≡ get_or s (4 * i + 1) 0 → cb ≡ get_or s (4 * i) 0 → cr ≡ get_or s (4 * i + 2) 0 → y' ≡ get_or s (4 * i + 3) 0
    → set (set (set (set (set (set xs (6 * i) y) (6 * i + 1) cb) (6 * i + 2) cr) (6 * i + 3) y') (6 * i + 4) cb) (6 * i + 5) cr ≡ written xs (6 * i) (λ j. get_or s (4 * i + byte_of_code j) 0) 6
unfolding written
six_codes s xs i y cb cr y' e0 e1 e2 e3 = rw (e0, e1, e2, e3, add-zero (6 * i), add-zero (4 * i))
