-- The answers of writing, by the tests that lead to them, and what the output then holds. Assumes nothing.
use mathlib.Core.Path.{◌≡◌, refl, sym, ap, ◌∙◌}
use mathlib.Core.Bool.{true, false, not}
use mathlib.Core.List.{List}
use Prim.Native.Nat.{ℕ}
use lib.Dec.{eqb}
use lib.ListN.{length}
use Rattle.lists.specs.Lists.{new_or_kept}
use Rattle.lists.proofs.Tests.{pass, stop}
use Rattle.layout.specs.declared.Layout.{Layout}
use Rattle.layout.specs.Layout.{valid_points}
use Rattle.std.specs.Prelude.{Result, Ok, Err, is_ok, ⊤}
use Rattle.refusal.specs.declared.Refusal.{Refusal}
use Rattle.refusal.specs.declared.Refusal.TheVariants.{Outside}
use Rattle.descriptor_writer.specs.Writing.{descriptor_bytes, write_answer, write_output}

module _ (l : Layout) (out : List ℕ) where
  pub refused_9 : valid_points l ≡ false → Err Outside ≡ write_answer l (length out)
  unfolding write_answer
  refused_9 e = sym (stop _ (ap not e))

  pub done : valid_points l ≡ true → eqb (length out) 76 ≡ true → (Ok tt) ≡ write_answer l (length out)
  unfolding write_answer
  done v e = sym (pass _ (ap not v) (pass _ (ap not e) refl))

  -- what the output then holds
  pub changed : (bytes : List ℕ) → (Ok tt) ≡ write_answer l (length out) → bytes ≡ descriptor_bytes l → bytes ≡ write_output l out
  unfolding write_output
  changed bytes e q = q ∙ ap (λ (a : Result ⊤ Refusal). new_or_kept (is_ok a) (descriptor_bytes l) out) e
