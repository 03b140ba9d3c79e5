-- Document 01, "Codes and floats": from a code to its float. Assumes nothing.
use Rattle.std.specs.Prelude.{ℕ, zero, suc, true, false, cond, eqb, ℤ, pos, negsuc, ◌-ℤ◌, Float}
use Rattle.std.specs.Float.{nan, inf, binary32}
use Rattle.std.specs.Float.Ieee.{round}
use Rattle.fractions.specs.Fraction.{Fraction, ◌over◌}
use Rattle.scale.specs.declared.Scale.{Scale}

-- the fraction that the code c stands for
abbrev pub fraction_of : Scale → ℕ → Fraction
fraction_of sc c = pos c -ℤ pos sc.base over sc.span

-- the f32 nearest to a / b, a tie to the even one, zero as plus zero. (The crate quantization_laws shows that it is that, by distances.)
abbrev pub rounded : ℤ → ℕ → Float
rounded (pos n) b = round binary32 false n b
rounded (negsuc n) b = round binary32 true (suc n) b

-- over 0 there is no fraction, and IEEE 754's quotient stands; no scale of the paper has such a span
abbrev pub over_zero : ℤ → Float
over_zero (pos zero) = nan
over_zero (pos (suc n)) = inf false
over_zero (negsuc n) = inf true

-- the f32 of a fraction
unfoldable pub nearest_float : Fraction → Float
nearest_float x = cond (eqb x.den 0) (over_zero x.num) (rounded x.num x.den)

-- the value of the code c
unfoldable pub value_of : Scale → ℕ → Float
unfolding nearest_float
value_of sc c = nearest_float (fraction_of sc c)
