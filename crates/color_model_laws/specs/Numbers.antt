-- Request A4: the numbers of a converted point before the clamp, each rounded as its line of the paper says. Assumes nothing.
use Rattle.std.specs.Prelude.{ℕ, ◌+◌, ◌*◌, ◌/◌, ◌%◌, List, ℤ, length, get_or}
use Rattle.lists.specs.Lists.{count}
use Rattle.fractions.specs.Fraction.{is_cut}
use Rattle.parameters.specs.declared.range.Range.{Range}
use Rattle.parameters.specs.declared.kind.Kind.TheVariants.{Brightness, Difference}
use Rattle.quantization_laws.specs.Printed.{printed_unclamped, printed_low, printed_high}
use Rattle.color_equations.specs.declared.weights.Weights.{Weights}
use Rattle.color_equations.specs.Equations.{luma_of, chroma_of, primary_of, green_from}
use Rattle.color_equations.specs.Conversion.{brightness, difference, pick}

-- channel j of the point r, g, b as Y', Cb, Cr
abbrev pub ycbcr_number : Weights → ℕ → Range → Range → ℕ → ℕ → ℕ → ℕ → ℤ
ycbcr_number w n from to r g b j =
    let red = brightness from n r in
    let blue = brightness from n b in
    let luma = luma_of w red (brightness from n g) blue in
    pick j
    (printed_unclamped to Brightness n luma)
    (printed_unclamped to Difference n (chroma_of w.blue blue luma))
    (printed_unclamped to Difference n (chroma_of w.red red luma))

-- channel j of the point y, cb, cr as R', G', B'
abbrev pub rgb_number : Weights → ℕ → Range → Range → ℕ → ℕ → ℕ → ℕ → ℤ
rgb_number w n from to y cb cr j =
    let luma = brightness from n y in
    let red = primary_of w.red luma (difference from n cr) in
    let blue = primary_of w.blue luma (difference from n cb) in
    pick j
    (printed_unclamped to Brightness n red)
    (printed_unclamped to Brightness n (green_from w luma red blue))
    (printed_unclamped to Brightness n blue)

-- how many numbers of a line, three a point, lie outside the ends of the range that they come out in
abbrev pub outside_ends : (ℕ → ℕ → ℕ → ℕ → ℤ) → Range → ℕ → List ℕ → ℕ
outside_ends number to n cs =
    count (length cs) (λ k. is_cut (printed_low to n) (printed_high to n) (number (get_or cs (3 * (k / 3)) 0) (get_or cs (3 * (k / 3) + 1) 0) (get_or cs (3 * (k / 3) + 2) 0) (k % 3)))
