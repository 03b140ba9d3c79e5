-- Runs of stores, and a copy into a part of a list. Assumes nothing.
use mathlib.Core.Path.{◌≡◌, sym, ap, ap₂, ◌∙◌}
use mathlib.Core.List.{List, [], ◌∷◌, ◌++◌, append_assoc, append-nil}
use Prim.Native.Nat.{ℕ, ◌+◌, ◌-◌, ◌≤◌, suc}
use native.Mathlib.Nat.{add-zero, add-suc, suc-add}
use native.Mathlib.Omega.{arith}
use borrow.Rule.Slice.PartMut.{put_mid, Post-is}
use lib.ListN.{length, take, drop, set, drop_of_length-le}
use lib.Seq.{sets, sets-eq}

module _ {A : Type 0} where
  -- two runs of stores, the second right after the first
  pub sets_join : (xs : List A) (at : ℕ) (p q : List A) → sets (sets xs at p) (at + length p) q ≡ sets xs at (p ++ q)
  sets_join xs at [] q = ap (λ (m : ℕ). sets xs m q) (add-zero at)
  sets_join xs at (a ∷ p) q =
      ap (λ (m : ℕ). sets (sets (set xs at a) (suc at) p) m q) (add-suc at (length p) ∙ sym (suc-add at (length p)))
      ∙ sets_join (set xs at a) (suc at) p q

  -- a run as long as the list
  pub sets_whole : (xs p : List A) → length xs ≡ length p → sets xs 0 p ≡ p
  sets_whole xs p e =
      sets-eq p xs 0 (omega (arith, e))
      ∙ ap (λ (r : List A). p ++ r) (let g : length xs ≤ 0 + length p = omega (arith, e) in drop_of_length-le xs g)
      ∙ append-nil p

  -- a part of a list, after a copy into the whole of it
  pub copied : (xs p ys : List A) (at : ℕ) → at + length p ≤ length xs → ys ≡ p → put_mid at (at + length p - at) xs ys ≡ sets xs at p
  copied xs p ys at h is =
      let end = at + length p in
      ap₂ (λ (a b : List A). take at xs ++ (a ++ b)) is (Post-is at end xs (omega arith))
      ∙ sym (append_assoc (take at xs) p (drop end xs))
      ∙ sym (sets-eq p xs at h)
