-- A field's answers as C sees them: a number of 0 or more is the answer, and a refusal is minus its number (include/imurraqi.h). Assumes nothing.
use Rattle.refusal.specs.declared.Refusal.{Refusal}
use Rattle.refusal.specs.Refusal.{number_of}
use Rattle.field.specs.declared.field.Field.{Field}
use Rattle.std.specs.Prelude.{ℕ, ℤ, pos, neg_ℤ, Result, Ok, Err}

-- the code
abbrev pub code_number : Result ℕ Refusal → ℤ
code_number (Ok c) = pos c
code_number (Err k) = neg_ℤ (pos (number_of k))

-- how many bytes
abbrev pub count_number : Result Field Refusal → ℤ
count_number (Ok f) = pos f.count
count_number (Err k) = neg_ℤ (pos (number_of k))

-- the byte behind the pointer: the place of the first, or what stood there before where it is refused
abbrev pub first_after : Result Field Refusal → ℕ → ℕ
first_after (Ok f) before = f.first
first_after (Err k) before = before
