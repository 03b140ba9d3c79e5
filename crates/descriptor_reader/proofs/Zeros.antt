-- Whether bytes are all zero. Assumes nothing.
use mathlib.Core.Path.{◌≡◌, refl, sym, ap, ap₂, ◌∙◌, subst}
use mathlib.Core.Bool.{Bool, true, false, ◌&&◌}
use mathlib.Core.List.{List}
use mathlib.Core.Logic.{◌≢◌, ⊎_elim}
use Prim.Native.Nat.{ℕ, zero, suc, ◌+◌, ◌≤◌, ◌<◌}
use native.Mathlib.Nat.{zero-add, le_of_suc-le-suc, eq-or-lt_of_le}
use native.Mathlib.Omega.{arith}
use borrow.Author.Tests.{eqb-true, eq-eqb}
use borrow.Rule.Slice.PartMut.{mid_of}
use lib.Dec.{eqb}
use lib.ListN.{length, get_or, length-take, length-drop}
use Rattle.std.specs.List.{AllWithin, HoldsAt}
use Rattle.std.specs.Bool.{MatchBool}
use Rattle.std.proofs.lemmas.List.{get_or-take, get_or-drop}
use Rattle.lists.proofs.Tests.{and_left, and_right}
use Rattle.descriptor_reader.specs.Header.{zeros}

-- where they are, each is
pub zero_at : (b : List ℕ) (i k j : ℕ) → zeros b i k ≡ true → j < k → 0 ≡ get_or b (i + j) 0
zero_at b i zero j e h = absurd (omega arith)
zero_at b i (suc k) j e h =
    ⊎_elim
    (λ q. subst (λ (m : ℕ). 0 ≡ get_or b (i + m) 0) (sym q) (sym (eqb-true (get_or b (i + k) 0) 0 (and_right (zeros b i k) (eqb (get_or b (i + k) 0) 0) e))))
    (λ l. zero_at b i k j (and_left (zeros b i k) (eqb (get_or b (i + k) 0) 0) e) l)
    (eq-or-lt_of_le (le_of_suc-le-suc h))

-- where each is, they are
all_zeros : (b : List ℕ) (k : ℕ) → AllWithin (λ (x : ℕ). x ≡ 0) b 0 k → zeros b 0 k ≡ true
all_zeros b zero h = refl
all_zeros b (suc k) h =
    ap₂ ◌&&◌ (all_zeros b k (λ j d p q. h j d p (omega arith))) (rw zero-add (eq-eqb (get_or b k 0) 0 (h k 0 (omega arith) (omega arith))))

-- what `all` answers of them
pub zeros_by_all : (b : List ℕ) (r : Bool)
    → MatchBool r (AllWithin (λ (x : ℕ). x ≡ 0) b 0 (length b)) ((k : ℕ) × (k < length b) × HoldsAt (λ (x : ℕ). x ≢ 0) b k)
    → r ≡ zeros b 0 (length b)
zeros_by_all b true h = sym (all_zeros b (length b) h)
zeros_by_all b false h = go (zeros b 0 (length b)) refl
  where
    go : (t : Bool) → zeros b 0 (length b) ≡ t → false ≡ t
    go true e = absurd (h.2 0 (ap (λ (m : ℕ). get_or b m 0) (sym (zero-add h.0)) ∙ sym (zero_at b 0 (length b) h.0 e h.1)))
    go false e = refl

-- of a part of the bytes
pub zeros_in_part : (b : List ℕ) (i k : ℕ) → i + k ≤ length b → zeros (mid_of i k b) 0 (length (mid_of i k b)) ≡ zeros b i k
zeros_in_part b i k h = ap (zeros (mid_of i k b) 0) long ∙ up_to k (omega arith)
  where
    long : length (mid_of i k b) ≡ k
    long = simp (length-take, length-drop) (omega arith)

    up_to : (j : ℕ) → j ≤ k → zeros (mid_of i k b) 0 j ≡ zeros b i j
    up_to zero p = refl
    up_to (suc j) p =
        let q : j < k = omega arith in
        ap₂ ◌&&◌ (up_to j (omega arith)) (ap (λ (x : ℕ). eqb x 0) (rw (zero-add, get_or-take, get_or-drop) refl))
