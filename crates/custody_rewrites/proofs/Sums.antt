-- A total from which lengths are taken, one after the other: what is left is the sum of the rest. Assumes nothing.
use mathlib.Core.Path.{◌≡◌, refl, sym, ap, ◌∙◌}
use mathlib.Core.Bool.{Bool, true, false}
use mathlib.Core.List.{List}
use Prim.Native.Nat.{ℕ, ◌+◌, ◌-◌, ◌<◌, ◌≤◌}
use native.Mathlib.Numerals.{add-one}
use native.Mathlib.Omega.{arith}
use borrow.Author.Tests.{eq-eqb, ne_eqb, eqb-true, eqb-false}
use lib.Dec.{eqb}
use lib.ListN.{length, get_or, drop, drop_of_length-le}
use lib.Seq.{drop-cons}
use Rattle.custody_rewrites.specs.Lists.{sum}

sum_drop : (ns : List ℕ) (i : ℕ) → i < length ns → sum (drop i ns) ≡ get_or ns i 0 + sum (drop (i + 1) ns)
sum_drop ns i h = rw add-one (ap sum (drop-cons ns i 0 h))

-- one length of them
taken : (n s left : ℕ) → n ≤ left → eqb (n + s) left ≡ eqb s (left - n)
taken n s left h = go (eqb s (left - n)) refl
  where
    go : (t : Bool) → eqb s (left - n) ≡ t → eqb (n + s) left ≡ t
    go true p = let q = eqb-true s (left - n) p in eq-eqb (n + s) left (omega arith)
    go false p = let q = eqb-false s (left - n) p in ne_eqb (n + s) left (λ e. q (omega arith))

eqb_swap : (a b : ℕ) → eqb a b ≡ eqb b a
eqb_swap a b = go (eqb b a) refl
  where
    go : (t : Bool) → eqb b a ≡ t → eqb a b ≡ t
    go true p = eq-eqb a b (sym (eqb-true b a p))
    go false p = ne_eqb a b (λ e. eqb-false b a p (sym e))

module _ (ns : List ℕ) (total left i : ℕ) (h : eqb (sum (drop i ns)) left ≡ eqb (sum ns) total) where
  pub sum_more : i < length ns → get_or ns i 0 ≤ left → eqb (sum (drop (i + 1) ns)) (left - get_or ns i 0) ≡ eqb (sum ns) total
  sum_more l m = sym (taken (get_or ns i 0) (sum (drop (i + 1) ns)) left m) ∙ ap (λ (s : ℕ). eqb s left) (sym (sum_drop ns i l)) ∙ h

  pub sum_over : i < length ns → left < get_or ns i 0 → false ≡ eqb (sum ns) total
  sum_over l m = sym (ne_eqb (sum (drop i ns)) left (λ e. let d = sum_drop ns i l in absurd (omega arith))) ∙ h

  pub sum-all : length ns ≤ i → eqb left 0 ≡ eqb (sum ns) total
  sum-all l = eqb_swap left 0 ∙ ap (λ (xs : List ℕ). eqb (sum xs) left) (sym (drop_of_length-le ns l)) ∙ h
