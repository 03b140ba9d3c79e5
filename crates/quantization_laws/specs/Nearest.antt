-- What "the f32 nearest the fraction" means (document 01, "Codes and floats"), by distances. Assumes nothing.
use Rattle.std.specs.Prelude.{ℕ, ◌*◌, ◌<◌, Bool, ◌⊎◌, T, ℤ, pos, nat_abs, ◌-ℤ◌, ◌*ℤ◌, Float}
use Rattle.std.specs.Float.{nan, inf, fin, binary32}
use Rattle.std.specs.Float.Ieee.{fits}
use Rattle.fractions.specs.Fraction.{Fraction, Same}
use Rattle.quantization.specs.Code.{exact}

-- |x - y|, as the numerator over x.den * y.den
abbrev pub distance : Fraction → Fraction → ℕ
distance x y = nat_abs (x.num *ℤ pos y.den -ℤ y.num *ℤ pos x.den)

-- y is nearer to x than z is: |y - x| < |z - x|, by the numerators over x.den * y.den * z.den
abbrev pub Nearer : Fraction → Fraction → Fraction → Type 0
Nearer x y z = distance y x * z.den < distance z x * y.den

-- v is finite and the format holds it, and every finite value that the format holds is the same number or farther from x.
-- So no other is as near, and the rule for ties has nothing to decide.
unfoldable pub NearestTo : Fraction → Float → Type 0
NearestTo x nan = ⊥
NearestTo x (inf s) = ⊥
NearestTo x (fin s m e) =
    T (fits binary32 (fin s m e))
    × ((t : Bool) (p : ℕ) (d : ℤ) → T (fits binary32 (fin t p d)) → Same (exact t p d) (exact s m e) ⊎ Nearer x (exact s m e) (exact t p d))
