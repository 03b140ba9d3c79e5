-- What a rewrite answers, and what its result shows. Assumes nothing.
use mathlib.Core.Path.{◌≡◌, refl, sym, ap, ◌∙◌}
use mathlib.Core.Bool.{Bool, true, false, not, cond}
use mathlib.Core.Logic.{◌⊎◌, inl, inr}
use mathlib.Core.List.{List}
use Prim.Native.Nat.{ℕ}
use lib.Dec.{ltb}
use lib.ListN.{length}
use Rattle.card_table.specs.declared.facts.Facts.{Facts}
use Rattle.card_edition.specs.Edition.{edition_known, has_access}
use Rattle.card_table.specs.Facts.{least_edition, with_access}
use Rattle.card_edition.specs.Access.{closed}
use Rattle.card_table.specs.Table.{card_bytes}
use Rattle.card_reader.specs.Reading.{read_card}
use Rattle.card_reader.proofs.Shown.{Accepted, accepted, passed, same_facts}
use Rattle.card_writer.specs.Writing.{valid_at, write_answer}
use Rattle.card_writer.proofs.Answers.{changed}
use Rattle.card.specs.Rewriting.{then_write, rewrite_answer, rewrite_output}
use Rattle.card.proofs.Answers.{written}
use Rattle.card_laws.specs.Claims.{shows, then_length}
use Rattle.card_laws.proofs.Valid.{at, write_valid}
use Rattle.card_laws.proofs.Written.{read_card_lem}
use Rattle.std.specs.Prelude.{Result, Ok, Err}
use Rattle.refusal.specs.declared.Refusal.{Refusal}
use Rattle.refusal.specs.declared.Refusal.TheVariants.{LaterEdition, UnknownEdition}
use Rattle.card_laws.proofs.Any.{valid-shown, closed_to}

-- ---- the answer

pub rewrite_order : (b : List ℕ) (e bytes : ℕ) → rewrite_answer b e bytes ≡ then_length (read_card b e) bytes
unfolding rewrite_answer
rewrite_order b e bytes = go (read_card b e) (λ f h. valid-shown b e f (accepted b e f h))
  where
    go : (r : Result Facts Refusal) → ((f : Facts) → r ≡ Ok f → valid_at e f ≡ true) → then_write r e bytes ≡ then_length r bytes
    go (Err k) v = refl
    go (Ok f) v = write_valid e f bytes (at e f (v f refl))

-- ---- what the result shows

module _ (b : List ℕ) (e : ℕ) (f : Facts) (out : List ℕ) (h : read_card b e ≡ Ok f) (d : write_answer e f (length out) ≡ (Ok tt)) where
  output_is : card_bytes e f ≡ rewrite_output b e out
  output_is = (written b e out f (Ok tt) (card_bytes e f) h (sym d) (changed e f out (card_bytes e f) (sym d) refl)).1

  pub result_shows : (e' : ℕ) → read_card (rewrite_output b e out) e' ≡ shows f e'
  result_shows e' = ap (λ (c : List ℕ). read_card c e') (sym output_is) ∙ read_card_lem e e' f (at e f (valid-shown b e f (accepted b e f h)))

-- the facts that are shown of facts
seen_is : (f g : Facts) (e : ℕ) → shows f e ≡ Ok g → with_access f (cond (has_access e) f.access closed) ≡ g
unfolding shows
seen_is f g e h =
    let r₃ : (Result Facts Refusal) = Ok (with_access f (cond (has_access e) f.access closed)) in
    let r₂ : (Result Facts Refusal) = cond (ltb e (least_edition f)) (Err LaterEdition) r₃ in
    let h₂ = passed (not (edition_known e)) UnknownEdition r₂ g h in
    let h₃ = passed (ltb e (least_edition f)) LaterEdition r₃ g h₂.1 in
    same_facts (with_access f (cond (has_access e) f.access closed)) g h₃.1

-- closed, or shown at the same edition before
not_opened : (b : List ℕ) (e e' : ℕ) (f g : Facts) → Accepted b e f → read_card b e ≡ Ok f → shows f e' ≡ Ok g
    → (g.access ≡ closed) ⊎ ((has_access e ≡ true) × (read_card b e ≡ Ok g))
not_opened b e e' f g a h s = go (has_access e) (has_access e') refl (seen_is f g e' s)
  where
    go : (t u : Bool) → has_access e ≡ t → with_access f (cond u f.access closed) ≡ g → (g.access ≡ closed) ⊎ ((has_access e ≡ true) × (read_card b e ≡ Ok g))
    go t false p q = inl (sym (ap (λ (x : Facts). x.access) q))
    go true true p q = inr (p, h ∙ ap Ok q)
    go false true p q = inl (sym (ap (λ (x : Facts). x.access) q) ∙ closed_to b e f a p)

pub never_opens : (b : List ℕ) (e e' : ℕ) (g : Facts) (out : List ℕ) → rewrite_answer b e (length out) ≡ (Ok tt)
    → read_card (rewrite_output b e out) e' ≡ Ok g → (g.access ≡ closed) ⊎ ((has_access e ≡ true) × (read_card b e ≡ Ok g))
unfolding rewrite_answer
never_opens b e e' g out d s = go (read_card b e) refl d
  where
    go : (r : Result Facts Refusal) → read_card b e ≡ r → then_write r e (length out) ≡ (Ok tt) → (g.access ≡ closed) ⊎ ((has_access e ≡ true) × (read_card b e ≡ Ok g))
    go (Err k) p q = cc
    go (Ok f) p q = not_opened b e e' f g (accepted b e f p) p (sym (result_shows b e f out p q e') ∙ s)
