-- Document 01, "The book of one card": what is asked about one card, and what is then to be seen. Assumes nothing.
use Rattle.std.specs.Prelude.{ℕ, List, Float, Result, ⊤}
use Rattle.refusal.specs.declared.Refusal.{Refusal}
use Rattle.card_table.specs.declared.facts.Facts.{Facts}

-- a rewrite, as it is asked for: its edition, and its output as it lies before
pub record Rewrite : Type 0 where
  pub edition : ℕ
  pub output : List ℕ

-- all that is asked: the first edition and facts, the rewrites, the edition of the last reading, a packed line, and the line of floats for it as it lies before
pub record Asked : Type 0 where
  pub first : ℕ
  pub facts : Facts
  pub rewrites : List Rewrite
  pub last : ℕ
  pub packed : List ℕ
  pub values : List Float

-- the trace of what is to be seen from the first card on: of each rewrite its answer, and the output and the card after it; at the end the last reading, the decoding's answer, and the line of floats after it
pub data Trace : Type 0 where
  ended : (reading : Result Facts Refusal) (decoding : Result ℕ Refusal) (values : List Float) → Trace
  rewritten : (answer : Result ⊤ Refusal) (output card : List ℕ) → Trace → Trace

-- and all in all: the first writing's answer, the card that it left, and what came after
pub record History : Type 0 where
  pub answer : Result ⊤ Refusal
  pub card : List ℕ
  pub trace : Trace
