-- The claims of specs/Claims.antt. Assumes nothing.
use mathlib.Core.Path.{◌≡◌, refl, sym, ap, ◌∙◌}
use mathlib.Core.Bool.{Bool, true, false, not, cond, ◌&&◌}
use mathlib.Core.List.{List}
use Prim.Native.Nat.{ℕ}
use native.Mathlib.Omega.{arith}
use borrow.Author.Tests.{eq-eqb, not-false}
use lib.Dec.{eqb}
use lib.ListN.{length}
use Rattle.lists.specs.Lists.{new_or_kept}
use Rattle.lists.specs.Bytes.{bytes_of}
use Rattle.lists.proofs.Tests.{pass, stop}
use Rattle.card_edition.specs.Edition.{edition_known}
use Rattle.card_table.specs.Facts.{facts_valid, odd_width}
use Rattle.card_table.specs.Table.{card_size, card_bytes}
use Rattle.card_reader.specs.Reading.{read_card}
use Rattle.card_reader.proofs.Shown.{accepted as shown-says}
use Rattle.card_writer.specs.Writing.{unwritable, valid_at, write_answer, write_output}
use Rattle.card.specs.Rewriting.{then_write, then_output, rewrite_answer, rewrite_output}
use Rattle.card_writer.proofs.Answers.{changed}
use Rattle.card_laws.specs.Claims.{ShowsWhatWasWritten, WritesValidFacts, WritesNoOther, ReadsWhatWasWritten, ShowsValidFacts, NeverMoreOpen, ClosedOrAsItStands, ShowsNoOther, ShowsLaterCards, WritesNoOddWidth, ShowsNoOddWidth, WritesNothingRefused, RewritesNothingRefused, RewritesInOrder, RewritesWhatWasShown, NeverOpens}
use Rattle.card_laws.proofs.Valid.{at, write_valid}
use Rattle.card_laws.proofs.Written.{read_card_lem}
use Rattle.card_laws.proofs.Any.{valid-shown, never_more, as_it_stands}
use Rattle.card_laws.proofs.NoOther.{no_other}
use Rattle.card_laws.proofs.Later.{later_shown, odd_refused}
use Rattle.std.specs.Prelude.{Result, Ok, Err, is_ok, ⊤}
use Rattle.refusal.specs.declared.Refusal.{Refusal}
use Rattle.card_table.specs.declared.facts.Facts.{Facts}
use Rattle.refusal.specs.declared.Refusal.TheVariants.{OddCount, Outside, UnknownEdition, Unwritable, WrongLineOrOutput}
use Rattle.card_laws.proofs.Rewritten.{rewrite_order, result_shows, never_opens}

-- a row that did not apply
row : (t : Bool) (refusal : Refusal) (rest : Result ⊤ Refusal) → cond t (Err refusal) rest ≡ (Ok tt) → (t ≡ false) × (rest ≡ (Ok tt))
row true refusal rest h = cc
row false refusal rest h = (refl, h)

pub writes_no_other : WritesNoOther
unfolding write_answer valid_at
writes_no_other e f bytes h =
    let r₄ : (Result ⊤ Refusal) = cond (not (eqb bytes card_size)) (Err WrongLineOrOutput) (Ok tt) in
    let r₃ : (Result ⊤ Refusal) = cond (unwritable e f) (Err Unwritable) r₄ in
    let r₂ : (Result ⊤ Refusal) = cond (odd_width f) (Err OddCount) r₃ in
    let r₁ : (Result ⊤ Refusal) = cond (not (facts_valid f)) (Err Outside) r₂ in
    let h₁ = row (not (edition_known e)) UnknownEdition r₁ h in
    let h₂ = row (not (facts_valid f)) Outside r₂ h₁.1 in
    let h₃ = row (odd_width f) OddCount r₃ h₂.1 in
    let h₄ = row (unwritable e f) Unwritable r₄ h₃.1 in
    λ i. not-false (edition_known e) h₁.0 i && not-false (facts_valid f) h₂.0 i && not (h₃.0 i) && not (h₄.0 i)

pub shows_what_was_written : ShowsWhatWasWritten
shows_what_was_written e e' f v = read_card_lem e e' f (at e f v)

pub writes_valid-facts : WritesValidFacts
writes_valid-facts e f bytes v = write_valid e f bytes (at e f v)

pub reads_what_was_written : ReadsWhatWasWritten
reads_what_was_written e e' f out d =
    ap (λ (c : List ℕ). read_card c e') (sym (changed e f out (card_bytes e f) (sym d) refl))
    ∙ read_card_lem e e' f (at e f (writes_no_other e f (length out) d))

pub shows-valid-facts : ShowsValidFacts
shows-valid-facts b e f h = valid-shown b e f (shown-says b e f h)

pub never_more_open : NeverMoreOpen
never_more_open b e f h = never_more b e f (shown-says b e f h)

pub closed_or_as_it_stands : ClosedOrAsItStands
closed_or_as_it_stands b e f h = as_it_stands b e f (shown-says b e f h)

pub shows_no_other : ShowsNoOther
shows_no_other b e f y h l = no_other b e f y (shown-says b e f h) l

pub shows_later_cards : ShowsLaterCards
unfolding card_bytes bytes_of
shows_later_cards w e f others v o n k l m = later_shown w e f others v n k l (omega arith) o m

pub writes_no_odd_width : WritesNoOddWidth
unfolding write_answer
writes_no_odd_width e f bytes k v o = pass _ (ap not k) (pass _ (ap not v) (stop _ o))

pub shows_no_odd_width : ShowsNoOddWidth
unfolding card_bytes bytes_of
shows_no_odd_width w e f others v o n k l lw = odd_refused w e f others v n k l lw o

pub writes_nothing_refused : WritesNothingRefused
unfolding write_output
writes_nothing_refused e f out k h = ap (λ (w : Result ⊤ Refusal). new_or_kept (is_ok w) (card_bytes e f) out) h

pub rewrites_nothing_refused : RewritesNothingRefused
unfolding rewrite_answer rewrite_output
rewrites_nothing_refused b e out k h = go (read_card b e) h
  where
    go : (r : Result Facts Refusal) → then_write r e (length out) ≡ Err k → then_output r e out ≡ out
    go (Err n) q = refl
    go (Ok f) q = writes_nothing_refused e f out k q

pub rewrites_in_order : RewritesInOrder
rewrites_in_order = rewrite_order

pub rewrites_what_was_shown : RewritesWhatWasShown
rewrites_what_was_shown b e e' f out h n =
    let v = at e f (valid-shown b e f (shown-says b e f h)) in
    result_shows b e f out h (write_valid e f (length out) v ∙ pass _ (ap not (eq-eqb (length out) card_size n)) refl) e'

pub rewrites_never_open : NeverOpens
rewrites_never_open = never_opens
