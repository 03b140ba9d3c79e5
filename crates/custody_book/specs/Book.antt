-- Document 01, "The book of one card" (the book is the paper's own word): what is to be seen, worked out from the first facts and the card's table alone, with no card read. Assumes nothing.
use Rattle.std.specs.Prelude.{ℕ, ◌*◌, Bool, not, cond, ◌&&◌, List, [], ◌∷◌, eqb, ltb, Float, length, Result, Ok, Err, is_ok, ⊤}
use Rattle.lists.specs.Lists.{new_or_kept}
use Rattle.layout.specs.declared.Layout.{Layout}
use Rattle.line.specs.Line.{points_in}
use Rattle.line.specs.Answer.{whole_bytes}
use Rattle.line_values.specs.Decode.{values_of}
use Rattle.card_table.specs.declared.facts.Facts.{Facts}
use Rattle.card_edition.specs.Edition.{edition_known, has_access}
use Rattle.card_table.specs.Facts.{least_edition, with_access}
use Rattle.card_edition.specs.Access.{closed}
use Rattle.card_table.specs.Table.{card_size, card_bytes}
use Rattle.refusal.specs.declared.Refusal.TheVariants.{LaterEdition, UnknownEdition, WrongLineOrOutput}
use Rattle.refusal.specs.declared.Refusal.{Refusal}
use Rattle.custody_book.specs.History.{Rewrite, Asked, Trace, Trace.ended, Trace.rewritten, History}

-- beside the first facts the book holds the card last written, and one access
pub record Book : Type 0 where
  pub card : List ℕ
  pub access : ℕ

-- at the start these are the table's card of the first facts, written at the first edition, and the access given
abbrev pub start_of : ℕ → Facts → Book
start_of e f = record { card = card_bytes e f; access = f.access }

-- ---- a rewrite

-- it answers 7 where there is no such edition; else 8 where the edition is under the least edition of the first facts; else 13 where the output is not as long as a card; else it is accepted
abbrev pub book_answer : Facts → Rewrite → Result ⊤ Refusal
book_answer f r =
    cond (not (edition_known r.edition)) (Err UnknownEdition)
    (cond (ltb r.edition (least_edition f)) (Err LaterEdition)
    (cond (not (eqb (length r.output) card_size)) (Err WrongLineOrOutput)
    (Ok tt)))

-- the access that an edition leaves: as it is where the edition has access (at 2 or later), and else closed (at 1)
abbrev pub access_at : ℕ → ℕ → ℕ
access_at e access = cond (has_access e) access closed

-- the book after an accepted rewrite: that access, and the table's card of the first facts with it, written at the rewrite's edition
abbrev pub book_at : ℕ → Facts → ℕ → Book
book_at e f access = record { card = card_bytes e (with_access f access); access = access }

-- the book after any rewrite: a refused one leaves it as it was
abbrev pub book_after : Result ⊤ Refusal → Facts → Book → ℕ → Book
book_after answer f b e = new_or_kept (is_ok answer) (book_at e f (access_at e b.access)) b

-- ---- the last reading

-- 7 and 8 as for a rewrite; else the first layout, size and item, with the access that the edition leaves
abbrev pub book_reading : Facts → Book → ℕ → Result Facts Refusal
book_reading f b e =
    cond (not (edition_known e)) (Err UnknownEdition)
    (cond (ltb e (least_edition f)) (Err LaterEdition)
    (Ok (with_access f (access_at e b.access))))

-- ---- the decoding

-- a captured line is of whole points of the layout, or of whole groups (A6), from none to 4,096 points
abbrev pub captured : Layout → List ℕ → Bool
captured l packed = whole_bytes l (length packed)

-- its count of points
abbrev pub points_of : Layout → List ℕ → ℕ
points_of l packed = points_in l (length packed)

-- such a line, and a line of three floats a point
abbrev pub decodable : Layout → List ℕ → List Float → Bool
decodable l packed values = captured l packed && eqb (length values) (3 * points_of l packed)

-- decoded by the layout of an accepted reading: 13, also of a line that is not captured, or the count of points. (The paper decodes nothing after a refused reading; that its number then stands here too is our own choice)
abbrev pub book_decoding : Result Facts Refusal → List ℕ → List Float → Result ℕ Refusal
book_decoding (Err k) packed values = Err k
book_decoding (Ok g) packed values = cond (not (decodable g.layout packed values)) (Err WrongLineOrOutput) (Ok (points_of g.layout packed))

-- the floats afterwards: what was there, or the float of each code
abbrev pub book_values : Result Facts Refusal → List ℕ → List Float → List Float
book_values (Err k) packed values = values
book_values (Ok g) packed values = new_or_kept (decodable g.layout packed values) (values_of g.layout packed) values

-- ---- the whole

abbrev pub book_end : Result Facts Refusal → List ℕ → List Float → Trace
book_end r packed values = ended r (book_decoding r packed values) (book_values r packed values)

abbrev pub book_from : Facts → Book → List Rewrite → ℕ → List ℕ → List Float → Trace
book_from f b [] last packed values = book_end (book_reading f b last) packed values
book_from f b (r ∷ rs) last packed values =
    let answer = book_answer f r in
    let b' = book_after answer f b r.edition in
    rewritten answer (new_or_kept (is_ok answer) b'.card r.output) b'.card (book_from f b' rs last packed values)

-- the first writing is accepted, and leaves the first card
unfoldable pub book : Asked → History
book a =
    let b = start_of a.first a.facts in
    record { answer = (Ok tt); card = b.card; trace = book_from a.facts b a.rewrites a.last a.packed a.values }
