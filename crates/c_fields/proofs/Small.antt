-- A field's numbers are small, so that C gets them as they are. Assumes nothing.
use mathlib.Core.Path.{◌≡◌, refl, sym, ap, subst}
use mathlib.Core.Bool.{Bool, true, false, not}
use Prim.Native.Nat.{ℕ, ◌≤◌}
use native.Mathlib.Omega.{arith}
use Rattle.lists.proofs.Tests.{and_left, stop, pass}
use Rattle.layout.specs.declared.Layout.{Layout}
use Rattle.parameters.specs.Parameters.{channel_known}
use Rattle.layout.specs.Layout.{valid_points}
use Rattle.layout.proofs.Facts.{points_say}
use Rattle.field.specs.declared.field.Field.{Field}
use Rattle.field.specs.Answer.{field_known, bytes_answer}
use Rattle.std.specs.Prelude.{Result, Ok, Err}
use Rattle.refusal.specs.declared.Refusal.{Refusal}
use Rattle.field.proofs.Facts.{placed}

abbrev Small : Result Field Refusal → Type 0
Small (Ok f) = (f.first ≤ 8) × (f.count ≤ 8)
Small (Err k) = Unit

small : (l : Layout) (channel : ℕ) → Small (bytes_answer l channel)
unfolding bytes_answer
small l channel = go (field_known l channel) refl
  where
    go : (t : Bool) → field_known l channel ≡ t → Small (bytes_answer l channel)
    go false e = subst Small (sym (stop _ (ap not e))) tt
    go true e =
        let ok = and_left (valid_points l) (channel_known channel) e in
        let p = placed l channel ok in
        let v = points_say l ok in
        subst Small (sym (pass _ (ap not e) refl)) (omega (arith, p.inside, v.bytes_most), omega (arith, p.inside, v.bytes_most))

pub held_small : (l : Layout) (channel : ℕ) (f : Field) → bytes_answer l channel ≡ Ok f → (f.first ≤ 8) × (f.count ≤ 8)
held_small l channel f e = subst Small e (small l channel)
