-- Answers as C sees them: a number of 0 or more is the answer, and a refusal is minus its number (include/imurraqi.h). Assumes nothing.
use Rattle.std.specs.Prelude.{Bool, true, ℕ, leb, ℤ, pos, neg_ℤ, Result, Ok, Err, ⊤}
use Rattle.refusal.specs.declared.Refusal.{Refusal}
use Rattle.refusal.specs.Refusal.{number_of}
use Rattle.line.specs.Answer.{most_points}

-- 0 for what is written
abbrev pub written_number : Result ⊤ Refusal → ℤ
written_number (Ok tt) = pos 0
written_number (Err k) = neg_ℤ (pos (number_of k))

-- the count of points
abbrev pub line_number : Result ℕ Refusal → ℤ
line_number (Ok n) = pos n
line_number (Err k) = neg_ℤ (pos (number_of k))

-- of an answer with cuts: the count of points too, and the number of cuts behind a pointer, which a refusal leaves as it was
abbrev pub without_cuts : Result (ℕ × ℕ) Refusal → Result ℕ Refusal
without_cuts (Ok (n, cuts)) = Ok n
without_cuts (Err k) = Err k

abbrev pub clamped_number : Result (ℕ × ℕ) Refusal → ℤ
clamped_number a = line_number (without_cuts a)

abbrev pub cuts_after : Result (ℕ × ℕ) Refusal → ℕ → ℕ
cuts_after (Ok (n, cuts)) before = cuts
cuts_after (Err k) before = before

-- no more points than a line can have
abbrev pub counted : Result ℕ Refusal → Bool
counted (Ok n) = leb n most_points
counted (Err k) = true
