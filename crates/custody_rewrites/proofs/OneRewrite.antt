-- What one rewrite leaves, from its answer. Assumes nothing.
use mathlib.Core.Path.{◌≡◌, refl, sym, ◌∙◌}
use mathlib.Core.Bool.{Bool, true, false, not, cond}
use mathlib.Core.List.{List}
use Prim.Native.Nat.{ℕ}
use borrow.Author.Tests.{eqb-true}
use lib.Dec.{eqb}
use lib.ListN.{length}
use Rattle.lists.specs.Lists.{new_or_kept}
use Rattle.card_table.specs.Table.{card_size}
use Rattle.card_reader.specs.Reading.{read_card}
use Rattle.card.specs.Rewriting.{rewrite_answer, rewrite_output}
use Rattle.card_laws.specs.Claims.{then_length}
use Rattle.card_laws.proofs.Claims.{rewrites_in_order}
use Rattle.std.specs.Prelude.{Result, Ok, Err, is_ok, ⊤}
use Rattle.refusal.specs.Refusal as slip
use Rattle.refusal.specs.declared.Refusal.{Refusal}
use Rattle.card_table.specs.declared.facts.Facts.{Facts}
use Rattle.refusal.specs.declared.Refusal.TheVariants.{WrongLineOrOutput}
use Rattle.custody_rewrites.specs.Lists.{number_of}

-- an accepted one has an output as long as a card
pub rewrite_done : (b : List ℕ) (e bytes : ℕ) → rewrite_answer b e bytes ≡ (Ok tt) → bytes ≡ card_size
rewrite_done b e bytes h = go (read_card b e) (sym (rewrites_in_order b e bytes) ∙ h)
  where
    fits : (t : Bool) → eqb bytes card_size ≡ t → ◌≡◌ {A = Result ⊤ Refusal} (cond (not t) (Err WrongLineOrOutput) (Ok tt)) (Ok tt) → bytes ≡ card_size
    fits true p q = eqb-true bytes card_size p
    fits false p q = cc

    go : (r : Result Facts Refusal) → then_length r bytes ≡ (Ok tt) → bytes ≡ card_size
    go (Err k) q = cc
    go (Ok f) q = fits (eqb bytes card_size) refl q

module _ (card : List ℕ) (e : ℕ) (out : List ℕ) where
  -- its number, and the output and the card after it
  abbrev pub Left : ℕ → List ℕ → List ℕ → Type 0
  Left n out' card' =
      (n ≡ number_of (rewrite_answer card e (length out)))
      × (out' ≡ rewrite_output card e out)
      × (card' ≡ new_or_kept (is_ok (rewrite_answer card e (length out))) (rewrite_output card e out) card)

  pub left_refused : {n : ℕ} (refusal : Refusal) (out' : List ℕ) → n ≡ slip.number_of refusal → rewrite_answer card e (length out) ≡ Err refusal → out' ≡ rewrite_output card e out → Left n out' card
  left_refused refusal out' q h k = (rw h q, k, rw h refl)

  pub left_done : (out' card' : List ℕ) → rewrite_answer card e (length out) ≡ (Ok tt) → out' ≡ rewrite_output card e out → card' ≡ out' → Left 0 out' card'
  left_done out' card' h k l = (rw h refl, k, rw h (l ∙ k))
