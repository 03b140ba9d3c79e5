-- Claims about the equations of document 01, "Between R'G'B' and Y'CbCr", as the entries' contracts cite them, about what comes out of a conversion and what of it is cut, about an empty line, and about the marked examples, points of range 3, points at the narrow ends and points that are cut. proofs/Claims.antt proves each. Assumes nothing.
use Rattle.std.specs.Prelude.{ℕ, ◌+◌, ◌*◌, ◌≤◌, ◌<◌, true, ◌≡◌, List, [], map, ◌⊎◌, length, Ok}
use Rattle.fractions.specs.declared.Clamped.{Clamped}
use Rattle.fractions.specs.Fraction.{Fraction, Same, clamped}
use Rattle.parameters.specs.declared.range.Range.{Range}
use Rattle.parameters.specs.Parameters.{primaries_known, depth_known, range_of}
use Rattle.quantization_laws.specs.Printed.{printed_low, printed_high, WithinEnds}
use Rattle.line.specs.Line.{codes_within}
use Rattle.line.specs.Answer.{most_points}
use Rattle.color_equations.specs.declared.weights.Weights.{Weights}
use Rattle.color_equations.specs.Weights.{weights_of, green_of}
use Rattle.color_equations.specs.Equations.{luma_of, chroma_of, primary_of, green_from}
use Rattle.color_equations.specs.Conversion.{ycbcr_of, rgb_of}
use Rattle.color_equations.specs.Line.{convertible, to_ycbcr_answer, to_rgb_answer}
use Rattle.color_model_laws.specs.Numbers.{ycbcr_number, rgb_number, outside_ends}
use Rattle.color_model_laws.specs.Marked.{marked, early, narrow_ends, cut_examples, given, stated}

-- three weights above 0, and together they are 1
abbrev pub Shares : Weights → Type 0
Shares w = (0 < w.red) × (0 < green_of w) × (0 < w.blue) × (w.red + green_of w + w.blue ≡ 10000)

-- every row of the paper
abbrev pub RowsRight : Type 0
RowsRight = (primaries : ℕ) → primaries_known primaries ≡ true → Shares (weights_of primaries)

-- x is over a number above 0, and the same number as y
abbrev pub Equals : Fraction → Fraction → Type 0
Equals x y = (0 < x.den) × Same x y

-- before any rounding, R', G', B' come back from their Y', Cb, Cr, wherever green has a weight
abbrev pub Inverts : Type 0
Inverts =
    (w : Weights) (r g b : Fraction) → 0 < green_of w → 0 < r.den → 0 < g.den → 0 < b.den
    → let y = luma_of w r g b in
    let cb = chroma_of w.blue b y in
    let cr = chroma_of w.red r y in
    let red = primary_of w.red y cr in
    let blue = primary_of w.blue y cb in
    Equals red r × Equals (green_from w y red blue) g × Equals blue b

-- and Y', Cb, Cr from their R', G', B'
abbrev pub InvertsBack : Type 0
InvertsBack =
    (w : Weights) (y cb cr : Fraction) → 0 < green_of w → 0 < y.den → 0 < cb.den → 0 < cr.den
    → let r = primary_of w.red y cr in
    let b = primary_of w.blue y cb in
    let g = green_from w y r b in
    let luma = luma_of w r g b in
    Equals luma y × Equals (chroma_of w.blue b luma) cb × Equals (chroma_of w.red r luma) cr

-- what comes out in each channel is the number in the paper's line, clamped to the paper's ends, and it is cut exactly if that number lay outside them (A4)
abbrev pub ConvertsClamped : Type 0
ConvertsClamped =
    (w : Weights) (n : ℕ) (from to : Range) (x y z j : ℕ) → depth_known n ≡ true
    → (ycbcr_of w n from to x y z j ≡ clamped (printed_low to n) (printed_high to n) (ycbcr_number w n from to x y z j))
    × (rgb_of w n from to x y z j ≡ clamped (printed_low to n) (printed_high to n) (rgb_number w n from to x y z j))

-- so that no code that a conversion makes lies outside the ends of its range,
abbrev pub ConvertsWithinEnds : Type 0
ConvertsWithinEnds =
    (w : Weights) (n : ℕ) (from to : Range) (x y z j : ℕ) → depth_known n ≡ true
    → WithinEnds to n (ycbcr_of w n from to x y z j).code × WithinEnds to n (rgb_of w n from to x y z j).code

-- and one that was cut is one of them
abbrev pub IsAnEnd : Range → ℕ → Clamped → Type 0
IsAnEnd to n c = c.cut ≡ true → (c.code ≡ printed_low to n) ⊎ (c.code ≡ printed_high to n)

abbrev pub CutsToAnEnd : Type 0
CutsToAnEnd = (w : Weights) (n : ℕ) (from to : Range) (x y z j : ℕ) → depth_known n ≡ true → IsAnEnd to n (ycbcr_of w n from to x y z j) × IsAnEnd to n (rgb_of w n from to x y z j)

-- a line of whole points, up to 4,096, with no code above the top, is converted into one as long; beside its points the answer has the number of places whose number lies outside the ends (A4)
abbrev pub ConvertsCuts : Type 0
ConvertsCuts =
    (primaries n from to points : ℕ) (cs : List ℕ) → convertible primaries n from to ≡ true → length cs ≡ 3 * points → points ≤ most_points → codes_within n cs ≡ true
    → (to_ycbcr_answer primaries n from to cs (3 * points) ≡ Ok (points, outside_ends (ycbcr_number (weights_of primaries) n (range_of from) (range_of to)) (range_of to) n cs))
    × (to_rgb_answer primaries n from to cs (3 * points) ≡ Ok (points, outside_ends (rgb_number (weights_of primaries) n (range_of from) (range_of to)) (range_of to) n cs))

-- an empty line counts 0, and none is cut
abbrev pub CountsEmptyLines : Type 0
CountsEmptyLines =
    (primaries n from to : ℕ) → convertible primaries n from to ≡ true
    → (to_ycbcr_answer primaries n from to [] 0 ≡ Ok (0, 0)) × (to_rgb_answer primaries n from to [] 0 ≡ Ok (0, 0))

-- the marked examples M1 to M12
abbrev pub MarkedRight : Type 0
MarkedRight = map given marked ≡ map stated marked

-- the points of range 3
abbrev pub EarlyRight : Type 0
EarlyRight = map given early ≡ map stated early

-- the points at the narrow ends
abbrev pub NarrowEndsRight : Type 0
NarrowEndsRight = map given narrow_ends ≡ map stated narrow_ends

-- the numbers on and beside an end
abbrev pub CutsRight : Type 0
CutsRight = map given cut_examples ≡ map stated cut_examples
