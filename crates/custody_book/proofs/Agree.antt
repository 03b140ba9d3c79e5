-- Calls and book agree: the card is always one of the first facts with the book's access, valid at the edition that wrote it. Assumes nothing.
use mathlib.Core.Path.{◌≡◌, refl, sym, ap, ◌∙◌}
use mathlib.Core.Bool.{Bool, true, false, not, cond, ◌&&◌}
use mathlib.Core.List.{List, [], ◌∷◌}
use Prim.Native.Nat.{ℕ, ◌^◌}
use borrow.Author.Tests.{eq-eqb}
use lib.Dec.{eqb, leb, ltb}
use lib.Ieee.{Float}
use lib.ListN.{length}
use Rattle.lists.proofs.Tests.{and_right, and3, pass, stop}
use Rattle.layout.specs.Layout.{valid_layout}
use Rattle.line.specs.Answer.{unpack_answer}
use Rattle.card_table.specs.declared.facts.Facts.{Facts}
use Rattle.card_edition.specs.Edition.{edition_known}
use Rattle.card_table.specs.Facts.{least_edition, side_known, facts_valid, odd_width, with_access}
use Rattle.card_edition.specs.Access.{access_known}
use Rattle.card_table.specs.Table.{card_size, card_bytes}
use Rattle.card_table.proofs.Least.{least_with}
use Rattle.card_reader.specs.Reading.{read_card}
use Rattle.card_writer.specs.Writing.{unwritable, valid_at, write_answer, write_output}
use Rattle.card_writer.proofs.Answers.{unchanged, changed}
use Rattle.card.specs.Rewriting.{rewrite_answer, rewrite_output}
use Rattle.card.proofs.Answers.{refused, written}
use Rattle.card_laws.specs.Claims.{shows}
use Rattle.card_laws.proofs.Claims.{shows_what_was_written, writes_valid-facts, shows-valid-facts}
use Rattle.custody_book.specs.History.{Rewrite, Trace, Trace.ended, Trace.rewritten}
use Rattle.custody_book.specs.Book.{access_at, book_at, book_reading, decodable, book_decoding, book_values, book_end, book_from, book}
use Rattle.custody_book.specs.Calls.{then_decode, then_values, calls_end, calls_from, calls}
use Rattle.std.specs.Prelude.{Result, Ok, Err, ⊤}
use Rattle.refusal.specs.declared.Refusal.{Refusal}
use Rattle.refusal.specs.declared.Refusal.TheVariants.{LaterEdition, UnknownEdition, WrongLineOrOutput}
use Rattle.custody_book.specs.Claims.{Agrees}

-- ---- the decoding: no row but 13 is left

first : (a b c d e f : Bool) → a && b && c && d && e && f ≡ true → a ≡ true
first true b c d e f h = refl
first false b c d e f h = h

pub layout_valid : (f : Facts) → facts_valid f ≡ true → valid_layout f.layout ≡ true
unfolding facts_valid
layout_valid f v =
    first (valid_layout f.layout) (side_known f.width) (side_known f.height) (leb 1 f.item) (ltb f.item (2 ^ 64)) (access_known f.access) v

module _ (g : Facts) (v : facts_valid g ≡ true) (packed : List ℕ) (values : List Float) where
  decoding_is : then_decode (Ok g) (length packed) (length values) ≡ book_decoding (Ok g) packed values
  unfolding unpack_answer
  decoding_is = pass _ (ap not (layout_valid g v)) refl

  values_is : then_values (Ok g) packed values ≡ book_values (Ok g) packed values
  unfolding unpack_answer
  values_is = go (decodable g.layout packed values) refl
    where
      go : (t : Bool) → decodable g.layout packed values ≡ t → then_values (Ok g) packed values ≡ book_values (Ok g) packed values
      go true p = rw (layout_valid g v, p) refl
      go false p = rw (layout_valid g v, p) refl

-- ---- one rewrite

next : {answer : Result ⊤ Refusal} {output card : List ℕ} {s s' : Trace} → s ≡ s' → rewritten answer output card s ≡ rewritten answer output card s'
next {answer} {output} {card} h = ap (rewritten answer output card) h

module _ (e : ℕ) (f : Facts) (a : ℕ) (v : valid_at e (with_access f a) ≡ true) where
  abbrev card : List ℕ
  card = card_bytes e (with_access f a)

  -- what the card shows is what the book says
  reading_is : (e' : ℕ) → read_card card e' ≡ book_reading f (book_at e f a) e'
  unfolding shows
  reading_is e' = shows_what_was_written e e' (with_access f a) v ∙ rw (least_with f a) refl

  -- an edition that reads it: the facts with the access that it leaves, which are valid there
  module _ (e' : ℕ) (k : edition_known e' ≡ true) (l : ltb e' (least_edition f) ≡ false) where
    abbrev seen : Facts
    seen = with_access f (access_at e' a)

    shown : read_card card e' ≡ Ok seen
    shown = reading_is e' ∙ pass _ (ap not k) (pass _ l refl)

    pub seen_valid : valid_at e' seen ≡ true
    seen_valid = shows-valid-facts card e' seen shown

  -- a rewrite: its answer and its output
  module _ (r : Rewrite) where
    abbrev Wrote : Result ⊤ Refusal → List ℕ → Type 0
    Wrote answer output = (rewrite_answer card r.edition (length r.output) ≡ answer) × (rewrite_output card r.edition r.output ≡ output)

    declined : (refusal : Refusal) → read_card card r.edition ≡ Err refusal → Wrote (Err refusal) r.output
    declined refusal h = let d = refused card r.edition r.output refusal h in (sym d.0, sym d.1)

    module _ (k : edition_known r.edition ≡ true) (l : ltb r.edition (least_edition f) ≡ false) where
      abbrev facts : Facts
      facts = seen r.edition k l

      writing_is : write_answer r.edition facts (length r.output) ≡ cond (not (eqb (length r.output) card_size)) (Err WrongLineOrOutput) (Ok tt)
      writing_is = writes_valid-facts r.edition facts (length r.output) (seen_valid r.edition k l)

      wrote : (answer : Result ⊤ Refusal) (output : List ℕ) → answer ≡ write_answer r.edition facts (length r.output) → output ≡ write_output r.edition facts r.output
          → Wrote answer output
      wrote answer output h m =
          let d = written card r.edition r.output facts answer output (shown r.edition k l) h m in
          (sym d.0, sym d.1)

      too_long : eqb (length r.output) card_size ≡ false → Wrote (Err WrongLineOrOutput) r.output
      too_long m =
          let h = sym (writing_is ∙ stop _ (ap not m)) in
          wrote (Err WrongLineOrOutput) r.output h (unchanged r.edition facts r.output WrongLineOrOutput h)

      done : eqb (length r.output) card_size ≡ true → Wrote (Ok tt) (card_bytes r.edition facts)
      done m =
          let h = sym (writing_is ∙ pass _ (ap not m) refl) in
          wrote (Ok tt) (card_bytes r.edition facts) h (changed r.edition facts r.output (card_bytes r.edition facts) h refl)

    module _ (rs : List Rewrite) (last : ℕ) (packed : List ℕ) (values : List Float) where
      -- a refused one leaves all as it was, and an accepted one a card of the same facts, valid again
      step : calls_from card rs last packed values ≡ book_from f (book_at e f a) rs last packed values
          → (valid_at r.edition (with_access f (access_at r.edition a)) ≡ true
          → calls_from (card_bytes r.edition (with_access f (access_at r.edition a))) rs last packed values
          ≡ book_from f (book_at r.edition f (access_at r.edition a)) rs last packed values)
          → (k l m : Bool) → edition_known r.edition ≡ k → ltb r.edition (least_edition f) ≡ l → eqb (length r.output) card_size ≡ m
          → calls_from card (r ∷ rs) last packed values ≡ book_from f (book_at e f a) (r ∷ rs) last packed values
      step stays goes false l m p q s =
          let w = declined UnknownEdition (reading_is r.edition ∙ stop _ (ap not p)) in
          rw (w.0, w.1, p) (next stays)
      step stays goes true true m p q s =
          let w = declined LaterEdition (reading_is r.edition ∙ pass _ (ap not p) (stop _ q)) in
          rw (w.0, w.1, p, q) (next stays)
      step stays goes true false false p q s =
          let w = too_long p q s in
          rw (w.0, w.1, p, q, s) (next stays)
      step stays goes true false true p q s =
          let w = done p q s in
          rw (w.0, w.1, p, q, s) (next (goes (seen_valid r.edition p q)))

-- ---- the whole list

-- what is read of a card that is valid at an edition, and decoded by it
pub valid-facts : (e : ℕ) (f : Facts) → valid_at e f ≡ true → facts_valid f ≡ true
unfolding valid_at
valid-facts e f v = and_right (edition_known e) (facts_valid f) (and3 (edition_known e && facts_valid f) (not (odd_width f)) (not (unwritable e f)) v).0

end_is : (r : Result Facts Refusal) (packed : List ℕ) (values : List Float) → ((g : Facts) → r ≡ Ok g → facts_valid g ≡ true) → calls_end r packed values ≡ book_end r packed values
end_is (Err k) packed values v = refl
end_is (Ok g) packed values v = λ i. ended (Ok g) (decoding_is g (v g refl) packed values i) (values_is g (v g refl) packed values i)

from : (e : ℕ) (f : Facts) (a : ℕ) → valid_at e (with_access f a) ≡ true → (rs : List Rewrite) (last : ℕ) (packed : List ℕ) (values : List Float)
    → calls_from (card_bytes e (with_access f a)) rs last packed values ≡ book_from f (book_at e f a) rs last packed values
from e f a v [] last packed values =
    end_is (read_card (card_bytes e (with_access f a)) last) packed values (λ g h. valid-facts last g (shows-valid-facts (card_bytes e (with_access f a)) last g h))
    ∙ ap (λ (r : Result Facts Refusal). book_end r packed values) (reading_is e f a v last)
from e f a v (r ∷ rs) last packed values =
    step e f a v r rs last packed values (from e f a v rs last packed values)
    (λ w. from r.edition f (access_at r.edition a) w rs last packed values)
    (edition_known r.edition) (ltb r.edition (least_edition f)) (eqb (length r.output) card_size) refl refl refl

pub from_the_first : Agrees
unfolding calls book write_output
from_the_first a output v n =
    let e = a.first in
    let f = a.facts in
    let w = writes_valid-facts e f (length output) v ∙ pass _ (ap not (eq-eqb (length output) card_size n)) refl in
    rw w (λ i. record { answer = (Ok tt); card = card_bytes e f; trace = from e f f.access v a.rewrites a.last a.packed a.values i })
