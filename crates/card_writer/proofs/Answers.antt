-- That a card is written, by the tests that lead to it, and what the output then holds: the laws of cards cite these. Assumes nothing.
use mathlib.Core.Path.{◌≡◌, refl, sym, ap, ◌∙◌}
use mathlib.Core.Bool.{true, false, not}
use mathlib.Core.List.{List}
use Prim.Native.Nat.{ℕ}
use lib.Dec.{eqb}
use lib.ListN.{length}
use Rattle.lists.specs.Lists.{new_or_kept}
use Rattle.lists.proofs.Tests.{pass}
use Rattle.card_table.specs.declared.facts.Facts.{Facts}
use Rattle.card_edition.specs.Edition.{edition_known}
use Rattle.card_table.specs.Facts.{facts_valid, odd_width}
use Rattle.card_table.specs.Table.{card_size, card_bytes}
use Rattle.std.specs.Prelude.{Result, Ok, Err, is_ok, ⊤}
use Rattle.refusal.specs.declared.Refusal.{Refusal}
use Rattle.card_writer.specs.Writing.{unwritable, write_answer, write_output}

module _ (e : ℕ) (f : Facts) (out : List ℕ) where
  pub done : edition_known e ≡ true → facts_valid f ≡ true → odd_width f ≡ false → unwritable e f ≡ false → eqb (length out) card_size ≡ true
      → (Ok tt) ≡ write_answer e f (length out)
  unfolding write_answer
  done k v o u t = sym (pass _ (ap not k) (pass _ (ap not v) (pass _ o (pass _ u (pass _ (ap not t) refl)))))

  -- what the output then holds
  pub unchanged : (refusal : Refusal) → Err refusal ≡ write_answer e f (length out) → out ≡ write_output e f out
  unfolding write_output
  unchanged refusal t = ap (λ (a : Result ⊤ Refusal). new_or_kept (is_ok a) (card_bytes e f) out) t

  pub changed : (bytes : List ℕ) → (Ok tt) ≡ write_answer e f (length out) → bytes ≡ card_bytes e f → bytes ≡ write_output e f out
  unfolding write_output
  changed bytes t q = q ∙ ap (λ (a : Result ⊤ Refusal). new_or_kept (is_ok a) (card_bytes e f) out) t
