-- The exact value of a float by its bit pattern: document 01, "Codes and floats". Assumes nothing.
use Rattle.std.specs.Prelude.{ℕ, zero, suc, ◌+◌, ◌*◌, ◌/◌, ◌%◌, ◌^◌, Bool, leb}
use Rattle.fractions.specs.Fraction.{Fraction, ◌over◌}
use Rattle.quantization.specs.Code.{signed}

-- the sign bit, the exponent's field and the fraction of a pattern of 32 bits
abbrev pub sign_bit : ℕ → Bool
sign_bit bits = leb (2 ^ 31) bits

abbrev pub field_of : ℕ → ℕ
field_of bits = bits % 2 ^ 31 / 2 ^ 23

abbrev pub digits_of : ℕ → ℕ
digits_of bits = bits % 2 ^ 23

-- field 0: fraction * 2^-149; fields 1 to 254: (2^23 + fraction) * 2^(field - 150); the sign as the sign bit says
abbrev pub by_field : Bool → ℕ → ℕ → Fraction
by_field s zero t = signed s t over 2 ^ 149
by_field s (suc x) t = signed s ((2 ^ 23 + t) * 2 ^ suc x) over 2 ^ 150

unfoldable pub pattern_value : ℕ → Fraction
pattern_value bits = by_field (sign_bit bits) (field_of bits) (digits_of bits)
