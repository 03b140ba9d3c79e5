-- What is shown of any bytes. Assumes nothing.
use mathlib.Core.Path.{◌≡◌, refl, sym, ap, ◌∙◌, subst}
use mathlib.Core.Bool.{Bool, true, false, not, cond, ◌&&◌, ◌||◌, and-false}
use mathlib.Core.Logic.{◌⊎◌, inl, inr, ⊎_elim}
use mathlib.Core.List.{List}
use Prim.Native.Nat.{ℕ, ◌≤◌}
use native.Mathlib.Omega.{arith}
use borrow.Author.Tests.{eqb-true}
use lib.Dec.{eqb, leb, ltb}
use lib.ListN.{get_or}
use Rattle.lists.proofs.Tests.{and_left, and3}
use Rattle.card_table.specs.declared.facts.Facts.{Facts}
use Rattle.card_edition.specs.Edition.{has_access}
use Rattle.card_table.specs.Facts.{least_edition, facts_valid}
use Rattle.card_edition.specs.Access.{closed, access_known, access_of}
use Rattle.card_reader.specs.Reading.{writer_of, facts_in, front_right}
use Rattle.card_reader.proofs.Shown.{Accepted}
use Rattle.card_writer.specs.Writing.{unwritable, valid_at}

-- ---- the access that is shown

at_most : (w x e : ℕ) → access_of w x e ≤ x
unfolding access_of
at_most w x e = go (has_access w && has_access e && access_known x)
  where
    go : (t : Bool) → cond t x closed ≤ x
    go true = omega arith
    go false = omega arith

-- closed to an edition without access
unseen : (w x e : ℕ) → has_access e ≡ false → access_of w x e ≡ closed
unfolding access_of
unseen w x e h = rw (h, and-false (has_access w))

-- else as it stands
stands : (w x e : ℕ) → (access_of w x e ≡ closed) ⊎ ((access_of w x e ≡ x) × (has_access e ≡ true) × (has_access w ≡ true))
unfolding access_of
stands w x e = go (has_access w) (has_access e) (access_known x) refl refl
  where
    go : (t u k : Bool) → has_access w ≡ t → has_access e ≡ u → (cond (t && u && k) x closed ≡ closed) ⊎ ((cond (t && u && k) x closed ≡ x) × (has_access e ≡ true) × (has_access w ≡ true))
    go true true true p q = inr (refl, q, p)
    go true true false p q = inl refl
    go true false k p q = inl refl
    go false u k p q = inl refl

silent : (w x e : ℕ) → not (has_access e) && not (eqb (access_of w x e) closed) ≡ false
silent w x e = go (has_access e) refl
  where
    go : (t : Bool) → has_access e ≡ t → not (has_access e) && not (eqb (access_of w x e) closed) ≡ false
    go true h = rw h
    go false h = rw (unseen w x e h) (and-false (not (has_access e)))

-- ---- the facts that are shown

-- byte 0 and the facts, of bytes 0 to 23 that are right
front_says : (s t u x : Bool) → s && t && u && x ≡ true → (s ≡ true) × (u ≡ true)
front_says s t u x h = let p = and3 s t u (and_left (s && t && u) x h) in (p.0, p.2)

module _ (b : List ℕ) (e : ℕ) (f : Facts) (a : Accepted b e f) where
  says : (eqb (get_or b 0 0) (least_edition (facts_in b e)) ≡ true) × (facts_valid (facts_in b e) ≡ true)
  unfolding front_right facts_in
  says = front_says (eqb (get_or b 0 0) (least_edition (facts_in b e))) (leb (get_or b 0 0) (writer_of b)) (facts_valid (facts_in b e)) (eqb (get_or b 11 0) 0) a.front

  readable : ltb e (least_edition (facts_in b e)) ≡ false
  readable = ap (ltb e) (sym (eqb-true (get_or b 0 0) (least_edition (facts_in b e)) says.0)) ∙ a.readable

  writable : unwritable e (facts_in b e) ≡ false
  unfolding unwritable facts_in
  writable = λ i. readable i || silent (writer_of b) (get_or b 24 0) e i

  valid_in : valid_at e (facts_in b e) ≡ true
  unfolding valid_at
  valid_in = λ i. a.edition i && says.1 i && not (a.even i) && not (writable i)

  pub valid-shown : valid_at e f ≡ true
  valid-shown = subst (λ (g : Facts). valid_at e g ≡ true) a.is valid_in

  access_is : f.access ≡ access_of (writer_of b) (get_or b 24 0) e
  unfolding facts_in
  access_is = sym (ap (λ (g : Facts). g.access) a.is)

  pub never_more : f.access ≤ get_or b 24 0
  never_more = subst (λ (x : ℕ). x ≤ get_or b 24 0) (sym access_is) (at_most (writer_of b) (get_or b 24 0) e)

  pub as_it_stands : (f.access ≡ closed) ⊎ ((f.access ≡ get_or b 24 0) × (has_access e ≡ true) × (has_access (writer_of b) ≡ true))
  as_it_stands = ⊎_elim (λ p. inl (access_is ∙ p)) (λ p. inr (access_is ∙ p.0, p.1, p.2)) (stands (writer_of b) (get_or b 24 0) e)

  pub closed_to : has_access e ≡ false → f.access ≡ closed
  closed_to h = access_is ∙ unseen (writer_of b) (get_or b 24 0) e h
