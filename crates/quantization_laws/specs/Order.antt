-- Request A5: what "as the value rises" means, by exact values and with both infinities. Assumes nothing.
use Rattle.std.specs.Prelude.{ℕ, true, false, ◌≡◌, pos, ◌+ℤ◌, ◌*ℤ◌, Float}
use Rattle.std.specs.Float.{nan, inf, fin}
use Rattle.fractions.specs.Fraction.{Fraction}
use Rattle.quantization.specs.Code.{exact}

-- x is at most y: y is more by some natural number d over x.den * y.den
abbrev pub AtMost : Fraction → Fraction → Type 0
AtMost x y = (d : ℕ) × (y.num *ℤ pos x.den ≡ x.num *ℤ pos y.den +ℤ pos d)

-- the float x is not above y: minus infinity is below every number and plus infinity above, finite floats go by their exact values, and a NaN has no place
unfoldable pub NoHigher : Float → Float → Type 0
NoHigher nan y = ⊥
NoHigher (inf s) nan = ⊥
NoHigher (inf true) (inf t) = Unit {0}
NoHigher (inf false) (inf true) = ⊥
NoHigher (inf false) (inf false) = Unit {0}
NoHigher (inf true) (fin t k f) = Unit {0}
NoHigher (inf false) (fin t k f) = ⊥
NoHigher (fin s m e) nan = ⊥
NoHigher (fin s m e) (inf true) = ⊥
NoHigher (fin s m e) (inf false) = Unit {0}
NoHigher (fin s m e) (fin t k f) = AtMost (exact s m e) (exact t k f)
