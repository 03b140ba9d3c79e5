-- The code's own arithmetic in f64. A reader need not believe it: crates/color_rows_laws shows that by the rows of a conversion it is `ycbcr_of` and `rgb_of`. Assumes nothing.
use Rattle.std.specs.Prelude.{Bool, cond, ◌&&◌, List, ℕ, zero, suc, ◌+◌, ◌*◌, ◌/◌, ◌%◌, ◌^◌, eqb, pos, Float, length, get_or}
use Rattle.std.specs.Float.{binary64}
use Rattle.std.specs.Float.Ieee.{add, mul, div, of_int}
use Rattle.lists.specs.Lists.{one_if, new_or_kept}
use Rattle.lists.specs.inner.Stores.{written}
use Rattle.fractions.specs.declared.Clamped.{Clamped}
use Rattle.floats.specs.inner.Floor.{clamped_by}
use Rattle.color_equations.specs.Conversion.{pick}
use Rattle.color_equations.specs.Line.{Converter, converted_at, converted_of, converted_cuts}
use Rattle.color_line.specs.declared.row.FloatRow.{FloatRow}
use Rattle.parameters.specs.declared.channels.Channels.{Channels}
use Rattle.line.specs.declared.turns.Joined.{Joined}

-- a coefficient times a code
abbrev pub times : Float → ℕ → Float
times f c = mul binary64 f (of_int binary64 (pos c))

-- a row's quotient at the codes x, y, z, and the code that it is
abbrev pub quotient_of : FloatRow → ℕ → ℕ → ℕ → Float
quotient_of r x y z = div binary64 (add binary64 (add binary64 (add binary64 (times r.first x) (times r.second y)) (times r.third z)) r.more) r.over

unfoldable pub row_code : FloatRow → ℕ → ℕ → ℕ → Clamped
row_code r x y z = clamped_by r.ends (quotient_of r x y z)

-- channel j of the point x, y, z by three rows
unfoldable pub rows_code : Channels FloatRow → Converter
rows_code rows x y z j = pick j (row_code rows.channel0 x y z) (row_code rows.channel1 x y z) (row_code rows.channel2 x y z)

-- the two lines are of one length, and of whole points
abbrev pub alike : ℕ → ℕ → Bool
alike size output = eqb (size % 3) 0 && eqb output size

-- a second line afterwards, and how many of its codes were cut
abbrev pub converted_by : Channels FloatRow → List ℕ → List ℕ → List ℕ
converted_by rows cs before = new_or_kept (alike (length cs) (length before)) (converted_of (rows_code rows) cs) before

abbrev pub cuts_by : Channels FloatRow → List ℕ → ℕ → ℕ
cuts_by rows cs output = cond (alike (length cs) output) (converted_cuts (rows_code rows) cs) 0

-- ---- code k of a line that is converted by f, and whether it was cut

abbrev pub code_at : Converter → List ℕ → ℕ → ℕ
code_at f cs k = (converted_at f cs k).code

abbrev pub cut_at : Converter → List ℕ → ℕ → Bool
cut_at f cs k = (converted_at f cs k).cut

-- ---- points as numbers of three codes, 16 bits each, with how many of them were cut

abbrev pub number_of : (ℕ → ℕ) → ℕ
number_of g = g 0 + 65536 * g 1 + 4294967296 * g 2

abbrev pub point_by : (ℕ → Clamped) → Joined
point_by g = record { number = number_of (λ j. (g j).code); cuts = one_if (g 0).cut + one_if (g 1).cut + one_if (g 2).cut }

-- point i of a line that is converted by f
unfoldable pub point_of : Converter → List ℕ → ℕ → Joined
point_of f cs i = point_by (f (get_or cs (3 * i) 0) (get_or cs (3 * i + 1) 0) (get_or cs (3 * i + 2) 0))

-- code j of a number
unfoldable pub short_of : ℕ → ℕ → ℕ
short_of v j = v / 2 ^ (16 * j) % 65536

-- xs, with the first k of the numbers v stored, four codes each, from point i on
unfoldable pub stored_of : List ℕ → ℕ → ℕ → List ℕ → List ℕ
unfolding written short_of
stored_of v i zero xs = xs
stored_of v i (suc k) xs = written (stored_of v i k xs) (3 * (i + k)) (short_of (get_or v k 0)) 4
