-- A line's bytes filled in group by group. Assumes nothing.
use mathlib.Core.Path.{◌≡◌, ap, ap₂, ◌∙◌}
use mathlib.Core.List.{List}
use Prim.Native.Nat.{ℕ, ◌+◌, ◌*◌, ◌/◌, ◌%◌, ◌≤◌, ◌<◌}
use native.Mathlib.Nat.{add-zero}
use native.Mathlib.Omega.{arith}
use lib.ListN.{length, get_or, set}
use Rattle.lists.specs.Lists.{tabulate}
use Rattle.lists.specs.inner.Stores.{written}
use Rattle.lists.proofs.Filled.{Filled, filled_more, filled_all}
use Rattle.line.specs.Group.{code_of_byte, group_byte}
use Rattle.line.specs.inner.Groups.{groups_packed}

module _ (cs : List ℕ) where
  -- byte 4 i + j is byte j of group i
  byte_at_lem : (i j : ℕ) → j < 4 → get_or cs (6 * i + code_of_byte j) 0 ≡ group_byte cs (4 * i + j)
  unfolding group_byte
  byte_at_lem i j h =
      let q : i ≡ (4 * i + j) / 4 = omega arith in
      let r : j ≡ (4 * i + j) % 4 = omega arith in
      ap₂ (λ (a b : ℕ). get_or cs (6 * a + code_of_byte b) 0) q r

  -- one turn of a loop
  pub bytes_more : (out xs ys : List ℕ) (i : ℕ) → 4 * i + 4 ≤ length out → Filled out (group_byte cs) (4 * i) xs
      → ys ≡ written xs (4 * i) (λ j. get_or cs (6 * i + code_of_byte j) 0) 4 → Filled out (group_byte cs) (4 * (i + 1)) ys
  bytes_more out xs ys i h f g = filled_more (λ j. get_or cs (6 * i + code_of_byte j) 0) 4 (omega arith) (omega arith) (byte_at_lem i) f g

  -- all turns
  pub bytes-all : (out xs : List ℕ) (i n : ℕ) → length cs ≡ 6 * n → length out ≡ 4 * n → n ≤ i → i ≤ n → Filled out (group_byte cs) (4 * i) xs → xs ≡ groups_packed cs
  bytes-all out xs i n es eo lo hi f =
      let e : 4 * i ≡ 4 * (length cs / 6) = omega arith in
      filled_all 0 (omega arith) f ∙ ap (λ (m : ℕ). tabulate m (group_byte cs)) e

-- the four bytes of a group, stored
pub four_bytes : (cs xs : List ℕ) (i : ℕ)
    → set (set (set (set xs (4 * i) (get_or cs (6 * i + 1) 0)) (4 * i + 1) (get_or cs (6 * i) 0)) (4 * i + 2) (get_or cs (6 * i + 2) 0)) (4 * i + 3) (get_or cs (6 * i + 3) 0)
    ≡ written xs (4 * i) (λ j. get_or cs (6 * i + code_of_byte j) 0) 4
unfolding written
four_bytes cs xs i = rw (add-zero (4 * i), add-zero (6 * i))
