-- What a replay of one card answers, and leaves in memory: the book's history, in flat lists. Assumes nothing.
use Rattle.std.specs.Prelude.{ℕ, Bool, not, cond, List, Float, length, Result, Ok, Err, is_ok, ⊤}
use Rattle.lists.specs.Lists.{new_or_kept}
use Rattle.card_table.specs.declared.facts.Facts.{Facts}
use Rattle.card_table.specs.Table.{card_size}
use Rattle.card_writer.specs.Writing.{write_answer}
use Rattle.custody_book.specs.History.{Asked, Trace, History}
use Rattle.custody_book.specs.Book.{book}
use Rattle.custody_book.specs.Meaning.{reading_of, decoding_of, values_after}
use Rattle.custody_rewrites.specs.Lists.{rewrites_of, fitting}
use Rattle.custody.specs.declared.Replayed.{Replayed}
use Rattle.refusal.specs.declared.Refusal.TheVariants.{WrongLineOrOutput}
use Rattle.refusal.specs.declared.Refusal.{Refusal}
use Rattle.custody.specs.Lists.{answers_of, outputs_of, card_of}

-- all that a replay is given, memory as it lies before
pub record Given : Type 0 where
  pub first : ℕ
  pub facts : Facts
  pub card : List ℕ
  pub editions : List ℕ
  pub lengths : List ℕ
  pub outputs : List ℕ
  pub answers : List ℕ
  pub last : ℕ
  pub packed : List ℕ
  pub values : List Float

-- it asks this of the book
abbrev pub asked_by : Given → Asked
asked_by g =
    record {
      first = g.first;
      facts = g.facts;
      rewrites = rewrites_of g.editions g.lengths g.outputs;
      last = g.last;
      packed = g.packed;
      values = g.values;
    }

-- ---- whether it begins

-- as the first writing answers, 7, 9, 16 or 11; then 13 where the lists do not fit together
abbrev pub then_fitting : Result ⊤ Refusal → Bool → Result ⊤ Refusal
then_fitting (Err k) fits = Err k
then_fitting (Ok tt) fits = cond (not fits) (Err WrongLineOrOutput) (Ok tt)

unfoldable pub beginning : Given → Result ⊤ Refusal
beginning g =
    then_fitting (write_answer g.first g.facts card_size)
    (fitting (length g.card) g.editions g.lengths (length g.outputs) (length g.answers))

-- ---- what it answers and leaves: where it does not begin, all is as it was

abbrev pub history : Given → History
history g = book (asked_by g)

-- the last reading and the decoding by it, or the refusal by which it does not begin
abbrev pub answer_after : Result ⊤ Refusal → Trace → Result Replayed Refusal
answer_after (Err refusal) s = Err refusal
answer_after (Ok tt) s = Ok record { reading = reading_of s; decoding = decoding_of s }

unfoldable pub replay_answer : Given → Result Replayed Refusal
replay_answer g = answer_after (beginning g) (history g).trace

-- the card last written
unfoldable pub replay_card : Given → List ℕ
replay_card g = new_or_kept (is_ok (beginning g)) (card_of (history g).card (history g).trace) g.card

-- the outputs after their rewrites
unfoldable pub replay_outputs : Given → List ℕ
replay_outputs g = new_or_kept (is_ok (beginning g)) (outputs_of (history g).trace) g.outputs

-- the answers of the rewrites
unfoldable pub replay_answers : Given → List ℕ
replay_answers g = new_or_kept (is_ok (beginning g)) (answers_of (history g).trace) g.answers

-- the floats of the decoded line
unfoldable pub replay_values : Given → List Float
replay_values g = new_or_kept (is_ok (beginning g)) (values_after (history g).trace) g.values
