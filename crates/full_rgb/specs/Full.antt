-- Request A7: codes of a layout as full-range R'G'B' of its depth. Y'CbCr goes by the weights of its primaries, narrow R'G'B' is rounded once, from the fraction that it stands for, and full-range R'G'B' stays as it is. Assumes nothing.
use Rattle.std.specs.Prelude.{ℕ, false, cond, List, eqb}
use Rattle.fractions.specs.declared.Clamped.{Clamped}
use Rattle.layout.specs.declared.Layout.{Layout}
use Rattle.parameters.specs.declared.range.Range.TheVariants.{Narrow, Full}
use Rattle.parameters.specs.Parameters.{range_number, range_of}
use Rattle.color_equations.specs.Weights.{weights_of}
use Rattle.color_equations.specs.Conversion.{brightness, as_brightness, pick, rgb_of}
use Rattle.color_equations.specs.Line.{Converter, converted_of}

-- a narrow code of n bits: the fraction that it stands for, and that fraction's code in full range
unfoldable pub stretched_of : ℕ → ℕ → Clamped
stretched_of n c = as_brightness Full n (brightness Narrow n c)

-- a code as it is
abbrev pub as_it_is : ℕ → Clamped
as_it_is c = record { code = c; cut = false }

-- channel j of a point with the codes x, y, z (range 3 is refused, so that the last line is of range 2)
unfoldable pub full_of : Layout → Converter
unfolding stretched_of
full_of l x y z j =
    cond (eqb l.model 2) (rgb_of (weights_of l.primaries) l.depth (range_of l.range) Full x y z j)
    (cond (eqb l.range (range_number Narrow)) (stretched_of l.depth (pick j x y z))
    (as_it_is (pick j x y z)))

-- a line of codes
abbrev pub full_codes : Layout → List ℕ → List ℕ
full_codes l cs = converted_of (full_of l) cs
