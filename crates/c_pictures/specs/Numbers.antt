-- The answers of pictures as C sees them: a number of 0 or more is the answer, and a refusal is minus its number (include/imurraqi.h). Assumes nothing.
use Rattle.refusal.specs.declared.Refusal.{Refusal}
use Rattle.refusal.specs.Refusal.{number_of}
use Rattle.std.specs.Prelude.{ℤ, pos, neg_ℤ, Result, Ok, Err, ℕ}

-- the count of points, or how many bytes
abbrev pub picture_number : Result ℕ Refusal → ℤ
picture_number (Ok n) = pos n
picture_number (Err k) = neg_ℤ (pos (number_of k))
