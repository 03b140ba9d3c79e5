-- A rewrite, from what the reading and the writing answered. Assumes nothing.
use mathlib.Core.Path.{◌≡◌, sym, ap, ◌∙◌}
use mathlib.Core.List.{List}
use Prim.Native.Nat.{ℕ}
use lib.ListN.{length}
use Rattle.card_table.specs.declared.facts.Facts.{Facts}
use Rattle.card_reader.specs.Reading.{read_card}
use Rattle.card_writer.specs.Writing.{write_answer, write_output}
use Rattle.std.specs.Prelude.{Result, Ok, Err, ⊤}
use Rattle.refusal.specs.declared.Refusal.{Refusal}
use Rattle.card.specs.Rewriting.{then_write, then_output, rewrite_answer, rewrite_output}

module _ (b : List ℕ) (e : ℕ) (out : List ℕ) where
  -- nothing was shown
  pub refused : (refusal : Refusal) → read_card b e ≡ Err refusal → (Err refusal ≡ rewrite_answer b e (length out)) × (out ≡ rewrite_output b e out)
  unfolding rewrite_answer rewrite_output
  refused refusal h = (sym (ap (λ (r : Result Facts Refusal). then_write r e (length out)) h), sym (ap (λ (r : Result Facts Refusal). then_output r e out) h))

  -- facts were shown, and then written
  pub written : (f : Facts) (answer : Result ⊤ Refusal) (last : List ℕ) → read_card b e ≡ Ok f → answer ≡ write_answer e f (length out) → last ≡ write_output e f out
      → (answer ≡ rewrite_answer b e (length out)) × (last ≡ rewrite_output b e out)
  unfolding rewrite_answer rewrite_output
  written f answer last h a m = (a ∙ sym (ap (λ (r : Result Facts Refusal). then_write r e (length out)) h), m ∙ sym (ap (λ (r : Result Facts Refusal). then_output r e out) h))
