-- Demand 3, sentence by sentence, of what is to be seen of one card, over all editions that there are. specs/Printed.antt has the sentences that name editions with the editions' numbers. Assumes nothing.
use Rattle.std.specs.Prelude.{ℕ, ◌*◌, ◌%◌, ◌<◌, Bool, true, false, not, cond, ◌&&◌, ◌||◌, ◌≡◌, List, [], ◌∷◌, eqb, ltb, Float, length, get_or, Result, Ok, Err, is_ok, ⊤}
use Rattle.std.specs.Float.{nan}
use Rattle.lists.specs.Bytes.{are_bytes}
use Rattle.parameters.specs.Parameters.{kind_of}
use Rattle.quantization.specs.Answer.{named, dequantized}
use Rattle.line.specs.Line.{code_at}
use Rattle.line_values.specs.Decode.{values_of}
use Rattle.card_table.specs.declared.facts.Facts.{Facts}
use Rattle.card_edition.specs.Edition.{edition_known, has_access}
use Rattle.card_table.specs.Facts.{least_edition}
use Rattle.card_edition.specs.Access.{closed}
use Rattle.card_table.specs.Table.{card_size, card_bytes}
use Rattle.custody_book.specs.History.{Rewrite, Asked, Trace, Trace.ended, Trace.rewritten, History}
use Rattle.refusal.specs.declared.Refusal.TheVariants.{WrongLineOrOutput}
use Rattle.refusal.specs.declared.Refusal.{Refusal}
use Rattle.custody_book.specs.Book.{captured, points_of}

-- ---- what a trace ends with

abbrev pub reading_of : Trace → Result Facts Refusal
reading_of (ended reading decoding values) = reading
reading_of (rewritten answer output card s) = reading_of s

abbrev pub decoding_of : Trace → Result ℕ Refusal
decoding_of (ended reading decoding values) = decoding
decoding_of (rewritten answer output card s) = decoding_of s

abbrev pub values_after : Trace → List Float
values_after (ended reading decoding values) = values
values_after (rewritten answer output card s) = values_after s

-- ---- refusals

abbrev pub refused : Result ⊤ Refusal → Bool
refused answer = not (is_ok answer)

abbrev pub not_shown : Result Facts Refusal → Bool
not_shown (Ok f) = false
not_shown (Err k) = true

-- ---- a rewrite

-- a rewrite of the card `before`, where the first facts are f: its answer, and the output and the card after it
pub record RewriteRight (f : Facts) (r : Rewrite) (before : List ℕ) (answer : Result ⊤ Refusal) (output card : List ℕ) : Type 0 where
  -- at a known edition, into an output as long as a card, it is refused exactly if the edition is under the least edition of the first facts
  pub exactly : edition_known r.edition ≡ true → length r.output ≡ card_size → refused answer ≡ ltb r.edition (least_edition f)
  -- at any other edition, or into any other output, it is refused
  pub others : edition_known r.edition && eqb (length r.output) card_size ≡ false → refused answer ≡ true
  -- refused, it changes nothing
  pub unchanged : refused answer ≡ true → (output ≡ r.output) × (card ≡ before)
  -- accepted, its output is the card that the next one takes
  pub taken : refused answer ≡ false → card ≡ output

-- every rewrite that was asked for, one after the other
pub data EachRight (f : Facts) : (before : List ℕ) (rewrites : List Rewrite) → Trace → Type 0 where
  none : {before : List ℕ} {reading : Result Facts Refusal} {decoding : Result ℕ Refusal} {values : List Float} → EachRight f before [] (ended reading decoding values)
  each : {before : List ℕ} {r : Rewrite} {rs : List Rewrite} {answer : Result ⊤ Refusal} {output card : List ℕ} {s : Trace}
      → RewriteRight f r before answer output card → EachRight f card rs s → EachRight f before (r ∷ rs) (rewritten answer output card s)

-- ---- the last reading

-- every accepted rewrite was at an edition that passes the test; a refused one does not count (a trace is never shorter than its rewrites: `EachRight`)
abbrev pub accepted_at : (ℕ → Bool) → List Rewrite → Trace → Bool
accepted_at p [] s = true
accepted_at p (r ∷ rs) (ended reading decoding values) = true
accepted_at p (r ∷ rs) (rewritten answer output card s) = (refused answer || p r.edition) && accepted_at p rs s

pub record ReadingRight (a : Asked) (s : Trace) : Type 0 where
  -- at a known edition it is refused exactly if the edition is under the least edition of the first facts
  pub exactly : edition_known a.last ≡ true → not_shown (reading_of s) ≡ ltb a.last (least_edition a.facts)
  -- at any other it is refused
  pub others : edition_known a.last ≡ false → not_shown (reading_of s) ≡ true
  -- accepted, it gives the size, item and layout first given
  pub first : (g : Facts) → reading_of s ≡ Ok g
      → (g.layout ≡ a.facts.layout) × (g.width ≡ a.facts.width) × (g.height ≡ a.facts.height) × (g.item ≡ a.facts.item)
  -- and the access first given if every accepted rewrite and the last reading were at an edition that has access, and closed if not
  pub access : (g : Facts) → reading_of s ≡ Ok g → g.access ≡ cond (accepted_at has_access a.rewrites s && has_access a.last) a.facts.access closed

-- ---- the decoding, after an accepted reading

pub record DecodingRight (a : Asked) (s : Trace) : Type 0 where
  -- a captured line, into three floats a point: the count of points, and the floats of its codes by the layout first given
  pub decoded : (g : Facts) → reading_of s ≡ Ok g → captured a.facts.layout a.packed ≡ true → length a.values ≡ 3 * points_of a.facts.layout a.packed
      → (decoding_of s ≡ Ok (points_of a.facts.layout a.packed)) × (values_after s ≡ values_of a.facts.layout a.packed)
  -- these are the very floats of one value: what dequantizing code k answers, under the name of its kind
  pub floats : (g : Facts) → reading_of s ≡ Ok g → captured a.facts.layout a.packed ≡ true → length a.values ≡ 3 * points_of a.facts.layout a.packed
      → are_bytes a.packed ≡ true → (k : ℕ) → k < 3 * points_of a.facts.layout a.packed → let l = a.facts.layout in
      dequantized l.model l.range l.depth (k % 3) (code_at l a.packed k) ≡ named (kind_of l.model (k % 3)) (get_or (values_after s) k nan)
  -- into a line of any other length: 13, and nothing is changed
  pub misfit : (g : Facts) → reading_of s ≡ Ok g → eqb (length a.values) (3 * points_of a.facts.layout a.packed) ≡ false
      → (decoding_of s ≡ Err WrongLineOrOutput) × (values_after s ≡ a.values)

-- ---- the whole

pub record Meaning (a : Asked) (h : History) : Type 0 where
  -- the first writing is accepted, and leaves the table's card
  pub written : (h.answer ≡ (Ok tt)) × (h.card ≡ card_bytes a.first a.facts)
  pub rewrites : EachRight a.facts h.card a.rewrites h.trace
  pub reading : ReadingRight a h.trace
  pub decoding : DecodingRight a h.trace
