-- A part of a line copied over, as a run of stores. Assumes nothing.
use mathlib.Core.Path.{◌≡◌, sym, ap, ◌∙◌}
use mathlib.Core.Logic.{⊎_elim}
use mathlib.Core.List.{List}
use Prim.Native.Nat.{ℕ, zero, suc, ◌+◌, ◌-◌, ◌≤◌, ◌<◌}
use native.Mathlib.Nat.{eq-zero-or-pos}
use native.Mathlib.Omega.{arith}
use lib.ListN.{length, get_or, drop}
use Rattle.std.proofs.Common.{get_or-drop, get_or-take, get_or-set_other}
use Rattle.std.proofs.lemmas.List.{ext_get_or}
use Rattle.std.proofs.lemmas.Slice.{take-put_mid_below, between-put_mid, drop-put_mid}
use borrow.Rule.Slice.PartMut.{put_mid, same_len_mid, mid_len}
use Rattle.lists.specs.inner.Stores.{written}
use Rattle.lists.proofs.Lists.{length-written, get_or-written, get_or-before}

module _ {A : Type 0} (d : A) (xs : List A) (at : ℕ) (f : ℕ → A) where
  after : (n k : ℕ) → at + n ≤ k → get_or (written xs at f n) k d ≡ get_or xs k d
  unfolding written
  after zero k h = λ i. get_or xs k d
  after (suc n) k h = get_or-set_other (written xs at f n) (at + n) k (f n) d (λ q. omega arith) ∙ after n k (omega arith)

  -- the elements of ys copied over those from `at` to `end`
  pub copied : (ys : List A) (n end : ℕ) → end ≡ at + n → end ≤ length xs → length ys ≡ n → ((j : ℕ) → j < n → get_or ys j d ≡ f j)
      → put_mid at (end - at) xs ys ≡ written xs at f n
  copied ys n end e fits long same = ext_get_or d zs ws (size ∙ sym (length-written xs at f n)) each
    where
      zs : List A
      zs = put_mid at (end - at) xs ys

      ws : List A
      ws = written xs at f n

      size : length zs ≡ length xs
      size = same_len_mid at (end - at) xs ys (omega (arith, mid_len at end xs fits))

      before : (k : ℕ) → k < at → get_or zs k d ≡ get_or ws k d
      before k h =
          sym (get_or-take at zs k d h) ∙ ap (λ (l : List A). get_or l k d) (take-put_mid_below at (end - at) xs ys at (omega arith) (omega arith)) ∙ get_or-take at xs k d h
          ∙ sym (get_or-before d xs at f n k h)

      within : (j : ℕ) → j < n → get_or zs (at + j) d ≡ get_or ws (at + j) d
      within j h =
          sym (get_or-drop at zs j d) ∙ sym (get_or-take (end - at) (drop at zs) j d (omega arith))
          ∙ ap (λ (l : List A). get_or l j d) (between-put_mid at (end - at) xs ys end (omega arith) (omega arith))
          ∙ same j h ∙ sym (get_or-written d xs at f n j (omega arith) h)

      beyond : (j : ℕ) → get_or zs (end + j) d ≡ get_or ws (end + j) d
      beyond j =
          sym (get_or-drop end zs j d) ∙ ap (λ (l : List A). get_or l j d) (drop-put_mid at (end - at) xs ys end (omega arith) (omega arith) (omega arith)) ∙ get_or-drop end xs j d
          ∙ sym (after n (end + j) (omega arith))

      each : (k : ℕ) → k < length zs → get_or zs k d ≡ get_or ws k d
      each k h =
          ⊎_elim (λ (z : at - k ≡ 0). ⊎_elim
          (λ (w : end - k ≡ 0). let s : end + (k - end) ≡ k = omega arith in ap (λ (m : ℕ). get_or zs m d) (sym s) ∙ beyond (k - end) ∙ ap (λ (m : ℕ). get_or ws m d) s)
          (λ (w : 0 < end - k). let s : at + (k - at) ≡ k = omega arith in ap (λ (m : ℕ). get_or zs m d) (sym s) ∙ within (k - at) (omega arith) ∙ ap (λ (m : ℕ). get_or ws m d) s)
          (eq-zero-or-pos (end - k)))
          (λ (z : 0 < at - k). before k (omega arith)) (eq-zero-or-pos (at - k))
