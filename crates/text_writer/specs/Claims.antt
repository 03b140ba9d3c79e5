-- What decimal digits amount to; each claim is proved in proofs/Claims.antt. Assumes nothing.
use Rattle.std.specs.Prelude.{ℕ, ◌+◌, ◌-◌, ◌*◌, ◌^◌, ◌<◌, ◌≡◌, List, [], ◌∷◌, get_or}
use Rattle.text_writer.specs.Decimal.{digit, decimal}

-- the number that digits stand for, after digits that stand for a
unfoldable pub value_after : ℕ → List ℕ → ℕ
value_after a [] = a
value_after a (d ∷ ds) = value_after (10 * a + (d - digit 0)) ds

-- the digits of a number stand for it
abbrev pub StandsForIt : Type 0
StandsForIt = (n : ℕ) → n < 2 ^ 64 → value_after 0 (decimal n) ≡ n

-- only 0 has a zero in front
abbrev pub NoZeroInFront : Type 0
NoZeroInFront = (n : ℕ) → n < 2 ^ 64 → get_or (decimal n) 0 0 ≡ digit 0 → n ≡ 0
