-- The answers of lines are numbers that an i64 holds. Assumes nothing.
use mathlib.Core.Path.{◌≡◌, refl, ap, ◌∙◌}
use mathlib.Core.Bool.{Bool, true, false, cond}
use Prim.Native.Nat.{ℕ, ◌*◌, ◌/◌, ◌%◌, ◌≤◌, ◌<◌}
use native.Mathlib.Omega.{arith}
use borrow.Author.Tests.{leb-true, le-leb, lt-leb}
use lib.Dec.{leb, eqb}
use lib.IntN.{ℤ, pos}
use mir.Syntax.{w64}
use mir.Val.{to_z, of_z}
use Rattle.lists.proofs.Tests.{and3}
use Rattle.line.specs.Answer.{most_points, fitting}
use Rattle.c_types.specs.Numbers.{line_number, without_cuts, clamped_number, cuts_after, counted}
use Rattle.std.specs.Prelude.{Result, Ok, Err}
use Rattle.refusal.specs.declared.Refusal.{Refusal}
use Rattle.refusal.specs.Refusal.{number_of}
use Rattle.refusal.proofs.Small.{number_small}
use Rattle.c_types.proofs.Numbers.{passed, passed_count}

-- one row of a line's refusals, and what follows where it does not apply
pub row : (t : Bool) (k : Refusal) (r : Result ℕ Refusal) → (t ≡ false → counted r ≡ true) → counted (cond t (Err k) r) ≡ true
row true k r h = refl
row false k r h = h refl

-- a line that fits has few points
pub count : (n per output each : ℕ) → fitting n per output each ≡ true → leb (n / per) most_points ≡ true
count n per output each e = (and3 (eqb (n % per) 0) (leb (n / per) most_points) (eqb output (each * (n / per))) e).1

-- the number of a count that a line can have, and of one that none has
pub of_points_lem : {a : Result ℕ Refusal} (n : ℕ) (z : ℤ) → a ≡ Ok n → n ≤ most_points → z ≡ pos n → z ≡ cond (counted a) (line_number a) (pos 0)
of_points_lem n z e h f = rw (e, le-leb n most_points h) f

pub of_too_many : {a : Result ℕ Refusal} (n : ℕ) → a ≡ Ok n → most_points < n → pos 0 ≡ cond (counted a) (line_number a) (pos 0)
of_too_many n e h = rw (e, lt-leb n most_points h) refl

-- a count handed on by a call, whether a line can have it or not
pub passed_points : (n : ℕ) (z : ℤ) → z ≡ cond (leb n most_points) (pos n) (pos 0) → to_z w64 (of_z w64 z) ≡ cond (leb n most_points) (pos n) (pos 0)
passed_points n z e = go (leb n most_points) refl e
  where
    go : (b : Bool) → leb n most_points ≡ b → z ≡ cond b (pos n) (pos 0) → to_z w64 (of_z w64 z) ≡ cond b (pos n) (pos 0)
    go true h f = passed_count n (omega (arith, leb-true n most_points h)) z f
    go false h f = passed_count 0 (omega arith) z f

-- a line's number handed on by a call
passed_line : (a : Result ℕ Refusal) → counted a ≡ true → (z : ℤ) → z ≡ cond (counted a) (line_number a) (pos 0) → to_z w64 (of_z w64 z) ≡ line_number a
passed_line (Ok n) h z e = passed_count n (omega (arith, leb-true n most_points h)) z (e ∙ ap (λ (b : Bool). cond b (pos n) (pos 0)) h)
passed_line (Err k) h z e = passed (number_of k) (omega (arith, number_small k)) z e

-- and that of the answer which the library gave
pub handed : {a : Result ℕ Refusal} (b : Result ℕ Refusal) → counted b ≡ true → a ≡ b → (z : ℤ) → z ≡ cond (counted a) (line_number a) (pos 0) → to_z w64 (of_z w64 z) ≡ line_number b
handed b h e z f = passed_line b h z (f ∙ ap (λ (a : Result ℕ Refusal). cond (counted a) (line_number a) (pos 0)) e)

-- the same of an answer with cuts
pub clamped_row : (t : Bool) (k : Refusal) (r : Result (ℕ × ℕ) Refusal) → (t ≡ false → counted (without_cuts r) ≡ true) → counted (without_cuts (cond t (Err k) r)) ≡ true
clamped_row true k r h = refl
clamped_row false k r h = h refl

-- its number and its cuts, handed on as the library gave them
pub handed_clamped : {a : Result (ℕ × ℕ) Refusal} (b : Result (ℕ × ℕ) Refusal) → counted (without_cuts b) ≡ true → a ≡ b → (z : ℤ) → z ≡ cond (counted (without_cuts a)) (clamped_number a) (pos 0) → to_z w64 (of_z w64 z) ≡ clamped_number b
handed_clamped b h e z f = handed (without_cuts b) h (ap without_cuts e) z f

pub handed_cuts : {a b : Result (ℕ × ℕ) Refusal} (before : ℕ) {after : ℕ} → a ≡ b → after ≡ cuts_after a before → after ≡ cuts_after b before
handed_cuts before e f = f ∙ ap (λ (x : Result (ℕ × ℕ) Refusal). cuts_after x before) e
