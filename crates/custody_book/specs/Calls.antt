-- What the calls do, one after the other, to one card: each rewrite takes the card that the last accepted one wrote, or else the first card. Every definition used here is the contract of a function that runs. Assumes nothing.
use Rattle.std.specs.Prelude.{ℕ, List, [], ◌∷◌, Float, length, Result, Ok, Err, is_ok}
use Rattle.lists.specs.Lists.{new_or_kept}
use Rattle.line_values.specs.Decode.{decode_answer, decode_output}
use Rattle.card_reader.specs.Reading.{read_card}
use Rattle.card_writer.specs.Writing.{write_answer, write_output}
use Rattle.card.specs.Rewriting.{rewrite_answer, rewrite_output}
use Rattle.refusal.specs.declared.Refusal.{Refusal}
use Rattle.card_table.specs.declared.facts.Facts.{Facts}
use Rattle.custody_book.specs.History.{Rewrite, Asked, Trace, Trace.ended, Trace.rewritten, History}

-- decoding by the layout that a reading shows; after a refused one nothing is decoded, and its number stands (our own choice)
abbrev pub then_decode : Result Facts Refusal → ℕ → ℕ → Result ℕ Refusal
then_decode (Err k) bytes floats = Err k
then_decode (Ok g) bytes floats = decode_answer g.layout bytes floats

abbrev pub then_values : Result Facts Refusal → List ℕ → List Float → List Float
then_values (Err k) packed values = values
then_values (Ok g) packed values = decode_output g.layout packed values

-- the last reading of a card, and the decoding by it
abbrev pub calls_end : Result Facts Refusal → List ℕ → List Float → Trace
calls_end r packed values = ended r (then_decode r (length packed) (length values)) (then_values r packed values)

-- the card after a rewrite: what it wrote, or the one before
abbrev pub card_after : List ℕ → Rewrite → List ℕ
card_after card r = new_or_kept (is_ok (rewrite_answer card r.edition (length r.output))) (rewrite_output card r.edition r.output) card

abbrev pub calls_from : List ℕ → List Rewrite → ℕ → List ℕ → List Float → Trace
calls_from card [] last packed values = calls_end (read_card card last) packed values
calls_from card (r ∷ rs) last packed values =
    rewritten (rewrite_answer card r.edition (length r.output)) (rewrite_output card r.edition r.output) (card_after card r)
    (calls_from (card_after card r) rs last packed values)

-- the first card is written into an output, as it lies before
unfoldable pub calls : Asked → List ℕ → History
calls a output =
    let card = write_output a.first a.facts output in
    record { answer = write_answer a.first a.facts (length output); card = card; trace = calls_from card a.rewrites a.last a.packed a.values }
