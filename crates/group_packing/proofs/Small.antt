-- 14's test, group by group: only the first four codes of each are looked at. Assumes nothing.
use mathlib.Core.Path.{◌≡◌, refl, sym, ap, ap₂, ◌∙◌, subst}
use mathlib.Core.Bool.{Bool, true, false, cond, ◌&&◌, true≢false}
use mathlib.Core.List.{List}
use mathlib.Core.Logic.{⊎_elim}
use Prim.Native.Nat.{ℕ, zero, suc, ◌+◌, ◌-◌, ◌*◌, ◌%◌, ◌≤◌, ◌<◌}
use native.Mathlib.Nat.{add-zero, eq-zero-or-pos, not-suc-le-zero}
use native.Mathlib.Omega.{arith}
use borrow.Author.Tests.{leb-true, leb-false, le-leb, lt-leb}
use lib.Dec.{leb}
use lib.ListN.{length, get_or}
use Rattle.lists.proofs.Every.{every_at, every_of}
use Rattle.lists.proofs.Lists.{length-tabulate, get_or-tabulate}
use Rattle.lists.proofs.Tests.{and_left, and_right, and3}
use Rattle.line.specs.Group.{second_color}
use Rattle.line.specs.inner.Groups.{group_shared}
use Rattle.group_packing.specs.inner.Within.{group_within, groups_within}

module _ (cs : List ℕ) where
  -- what stands at place k
  abbrev shared_code : ℕ → ℕ
  shared_code k = get_or cs (cond (second_color k) (k - 3) k) 0

  -- the codes of the first n places that are packed fit a byte
  abbrev pub Small : ℕ → Type 0
  Small n = (k : ℕ) → k < n → k % 6 < 4 → get_or cs k 0 ≤ 255

  pub small_none : Small 0
  small_none k h looked = absurd (not-suc-le-zero h)

  pub small_if_within : groups_within cs ≡ true → Small (length cs)
  small_if_within e k h looked =
      let at : get_or (group_shared 0 cs) k 0 ≡ get_or cs k 0 = get_or-tabulate (length cs) shared_code k 0 h ∙ ap (λ (t : Bool). get_or cs (cond t (k - 3) k) 0) (lt-leb 4 (k % 6) looked) in
      let long : k < length (group_shared 0 cs) = omega (arith, length-tabulate (length cs) shared_code) in
      subst (λ (x : ℕ). x ≤ 255) at (leb-true (get_or (group_shared 0 cs) k 0) 255 (every_at (λ c. leb c 255) 0 (group_shared 0 cs) k e long))

  -- a second point's colour is the first's, three places before it
  stands : Small (length cs) → (k : ℕ) → k < length cs → shared_code k ≤ 255
  stands small k h = go (leb 4 (k % 6)) (leb-true 4 (k % 6)) (leb-false 4 (k % 6))
    where
      go : (t : Bool) → (t ≡ true → 4 ≤ k % 6) → (t ≡ false → k % 6 < 4) → get_or cs (cond t (k - 3) k) 0 ≤ 255
      go true f g = let second : 4 ≤ k % 6 = f refl in small (k - 3) (omega arith) (omega arith)
      go false f g = small k h (g refl)

  pub within_if_small : Small (length cs) → groups_within cs ≡ true
  within_if_small small = every_of (λ c. leb c 255) 0 (group_shared 0 cs) (λ k h.
      let inside : k < length cs = omega (arith, length-tabulate (length cs) shared_code) in
      ap (λ (x : ℕ). leb x 255) (get_or-tabulate (length cs) shared_code k 0 inside) ∙ le-leb (shared_code k) 255 (stands small k inside))

  -- the first four of group i
  first_four : (i j : ℕ) → j < 4 → group_within cs i ≡ true → get_or cs (6 * i + j) 0 ≤ 255
  first_four i j h e = go j h
    where
      fits : ℕ → Bool
      fits j = leb (get_or cs (6 * i + j) 0) 255

      four : (fits 0 && fits 1 ≡ true) × (fits 2 ≡ true) × (fits 3 ≡ true)
      four = and3 (fits 0 && fits 1) (fits 2) (fits 3) (rw (add-zero (6 * i)) e)

      go : (j : ℕ) → j < 4 → get_or cs (6 * i + j) 0 ≤ 255
      go zero h = leb-true (get_or cs (6 * i + 0) 0) 255 (and_left (fits 0) (fits 1) four.0)
      go (suc zero) h = leb-true (get_or cs (6 * i + 1) 0) 255 (and_right (fits 0) (fits 1) four.0)
      go (suc (suc zero)) h = leb-true (get_or cs (6 * i + 2) 0) 255 four.1
      go (suc (suc (suc zero))) h = leb-true (get_or cs (6 * i + 3) 0) 255 four.2
      go (suc (suc (suc (suc j)))) h = absurd (omega arith)

  -- one group more
  pub small_more : (i : ℕ) → group_within cs i ≡ true → Small (6 * i) → Small (6 * (i + 1))
  small_more i e small k h looked = ⊎_elim new (λ (z : 0 < 6 * i - k). small k (omega arith) looked) (eq-zero-or-pos (6 * i - k))
    where
      new : 6 * i - k ≡ 0 → get_or cs k 0 ≤ 255
      new z =
          let s : 6 * i + (k - 6 * i) ≡ k = omega arith in
          subst (λ (m : ℕ). get_or cs m 0 ≤ 255) s (first_four i (k - 6 * i) (omega arith) e)

  -- each group where all are so
  group_if_within : (i : ℕ) → 6 * i + 6 ≤ length cs → groups_within cs ≡ true → group_within cs i ≡ true
  group_if_within i h e =
      let small = small_if_within e in
      ap₂ ◌&&◌ (ap₂ ◌&&◌ (ap₂ ◌&&◌
      (le-leb (get_or cs (6 * i) 0) 255 (small (6 * i) (omega arith) (omega arith)))
      (le-leb (get_or cs (6 * i + 1) 0) 255 (small (6 * i + 1) (omega arith) (omega arith))))
      (le-leb (get_or cs (6 * i + 2) 0) 255 (small (6 * i + 2) (omega arith) (omega arith))))
      (le-leb (get_or cs (6 * i + 3) 0) 255 (small (6 * i + 3) (omega arith) (omega arith)))

  -- and so one group that is not decides
  pub too_high : (i : ℕ) → 6 * i + 6 ≤ length cs → group_within cs i ≡ false → groups_within cs ≡ false
  too_high i h e = go (groups_within cs) (group_if_within i h)
    where
      go : (t : Bool) → (t ≡ true → group_within cs i ≡ true) → t ≡ false
      go true f = let z : true ≡ false = sym (f refl) ∙ e in absurd (true≢false z)
      go false f = refl
