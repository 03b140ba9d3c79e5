-- The claims of specs/Claims.antt. Assumes nothing.
use mathlib.Core.Path.{◌≡◌, refl, sym, ap, ◌∙◌}
use mathlib.Core.Bool.{Bool, true, false, not, cond, true≢false}
use mathlib.Core.List.{List}
use Prim.Native.Nat.{ℕ}
use native.Mathlib.Omega.{arith}
use borrow.Author.Tests.{eq-eqb}
use lib.Dec.{eqb}
use lib.ListN.{length}
use Rattle.layout.specs.declared.Layout.{Layout}
use Rattle.layout.specs.Layout.{grouped, valid_points}
use Rattle.layout.proofs.Facts.{not_grouped}
use Rattle.descriptor_reader.specs.Reading.{read_descriptor}
use Rattle.descriptor_writer.specs.Writing.{descriptor_bytes, write_answer, write_output}
use Rattle.descriptor_writer.proofs.Answers.{refused_9, done, changed}
use Rattle.descriptor_laws.specs.Claims.{Accepts, AcceptsNoOther, ReadsWhatWasWritten, WritesWhatWasRead, OneLayout, OneDescriptor, NoneOfGroups}
use Rattle.descriptor_laws.proofs.Written.{accepts}
use Rattle.std.specs.Prelude.{Result, Ok, Err, ⊤}
use Rattle.refusal.specs.declared.Refusal.{Refusal}
use Rattle.refusal.specs.declared.Refusal.TheVariants.{Outside, WrongLineOrOutput}
use Rattle.descriptor_laws.proofs.Read.{same_ok, accepts_no_other}

-- a layout that was written is valid
written-valid : (l : Layout) (out : List ℕ) → write_answer l (length out) ≡ (Ok tt) → valid_points l ≡ true
unfolding write_answer
written-valid l out = go (valid_points l) (cond (not (eqb (length out) 76)) (Err WrongLineOrOutput) (Ok tt))
  where
    go : (t : Bool) (y : Result ⊤ Refusal) → cond (not t) (Err Outside) y ≡ (Ok tt) → t ≡ true
    go true y e = refl
    go false y e = let z : ◌≡◌ {A = ℕ} 0 1 = cc in absurd (omega arith)

-- what it left
written_is : (l : Layout) (out : List ℕ) → write_answer l (length out) ≡ (Ok tt) → write_output l out ≡ descriptor_bytes l
written_is l out e = sym (changed l out (descriptor_bytes l) (sym e) refl)

pub descriptor_accepted : Accepts
descriptor_accepted = accepts

pub no_other_accepted : AcceptsNoOther
no_other_accepted = accepts_no_other

pub reads_what_was_written : ReadsWhatWasWritten
reads_what_was_written l out e = ap read_descriptor (written_is l out e) ∙ accepts l (written-valid l out e)

pub writes_what_was_read : WritesWhatWasRead
writes_what_was_read b l out e h n =
    let q = accepts_no_other b l e h in
    let d = sym (done l out q.0 (eq-eqb (length out) 76 n)) in
    (d, written_is l out d ∙ sym q.1)

pub one_layout : OneLayout
one_layout l m v w e = same_ok l m (sym (accepts l v) ∙ ap read_descriptor e ∙ accepts m w)

pub one_descriptor : OneDescriptor
one_descriptor b c l eb ec hb hc = (accepts_no_other b l eb hb).1 ∙ sym (accepts_no_other c l ec hc).1

-- a layout of groups is none of points
groups_invalid : (l : Layout) → grouped l ≡ true → valid_points l ≡ true → ⊥
groups_invalid l g e = let z : true ≡ false = sym g ∙ not_grouped l e in true≢false z

pub none_of_groups : NoneOfGroups
none_of_groups l g =
    (λ out. go out (valid_points l) refl, λ b e h. groups_invalid l g (accepts_no_other b l e h).0)
  where
    go : (out : List ℕ) (t : Bool) → valid_points l ≡ t → write_answer l (length out) ≡ Err Outside
    go out true e = absurd (groups_invalid l g e)
    go out false e = sym (refused_9 l out e)
