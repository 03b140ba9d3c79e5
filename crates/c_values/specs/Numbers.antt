-- One value's answers as C sees them: a number of 0 or more is the answer, and a refusal is minus its number (include/imurraqi.h). Assumes nothing.
use Rattle.std.specs.Prelude.{ℕ, ℤ, pos, neg_ℤ, Float, Result, Ok, Err}
use Rattle.lists.specs.Lists.{one_if}
use Rattle.quantization.specs.declared.Dequantized.{Dequantized}
use Rattle.refusal.specs.declared.Refusal.{Refusal}
use Rattle.refusal.specs.Refusal.{number_of}
use Rattle.fractions.specs.declared.Clamped.{Clamped}
use Rattle.quantization.specs.declared.Dequantized.TheVariants.{Brightness, Difference, Refused}

-- 0 for a brightness, 1 for a difference
abbrev pub dequantized_number : Dequantized → ℤ
dequantized_number (Brightness v) = pos 0
dequantized_number (Difference v) = pos 1
dequantized_number (Refused k) = neg_ℤ (pos (number_of k))

-- the float behind the pointer: the value, or what stood there before where it is refused
abbrev pub dequantized_value : Dequantized → Float → Float
dequantized_value (Brightness v) before = v
dequantized_value (Difference v) before = v
dequantized_value (Refused k) before = before

-- the code
abbrev pub quantized_number : Result Clamped Refusal → ℤ
quantized_number (Ok c) = pos c.code
quantized_number (Err k) = neg_ℤ (pos (number_of k))

-- the number behind the pointer: how many values were cut, 1 or 0, or what stood there before where it is refused
abbrev pub quantized_cuts : Result Clamped Refusal → ℕ → ℕ
quantized_cuts (Ok c) before = one_if c.cut
quantized_cuts (Err k) before = before
