-- Request A5: how far a code of R'G'B' may move on its way to Y'CbCr and back. Assumes nothing.
use Rattle.std.specs.Prelude.{ℕ, ◌+◌, ◌-◌, ◌*◌, ◌≤◌, Bool, cond, ◌&&◌, ◌||◌, eqb, leb, ltb}
use Rattle.parameters.specs.declared.range.Range.TheVariants.{Narrow, Full}
use Rattle.parameters.specs.Parameters.{range_number, range_of, step_of, top_of}
use Rattle.color_equations.specs.declared.weights.Weights.{Weights}
use Rattle.color_equations.specs.Weights.{green_of}
use Rattle.color_equations.specs.Conversion.{ycbcr_of, rgb_of}

-- ranges 1 and 2 only
abbrev pub covered : ℕ → Bool
covered range = eqb range (range_number Narrow) || eqb range (range_number Full)

-- a code of n bits of R', G' or B' that the bound speaks of: of narrow ones those within 16s .. 235s
abbrev pub nominal : ℕ → ℕ → ℕ → Bool
nominal range n c = cond (eqb range (range_number Narrow)) (leb (16 * step_of n) c && leb c (235 * step_of n)) (leb c (top_of n))

-- the bound, by the range of R'G'B' and that of Y'CbCr: 2 for full through narrow, and 1 where both are equal or narrow goes through full
abbrev pub allowed : ℕ → ℕ → ℕ
allowed from to = cond (eqb from (range_number Full) && eqb to (range_number Narrow)) 2 1

-- x and y differ by at most k
abbrev pub Within : ℕ → ℕ → ℕ → Type 0
Within k x y = (x ≤ y + k) × (y ≤ x + k)

-- channel j of the point r, g, b of n bits, converted to Y'CbCr and back to the first range
abbrev pub returned : Weights → (n from to r g b j : ℕ) → ℕ
returned w n from to r g b j =
    let there = ycbcr_of w n (range_of from) (range_of to) r g b in
    (rgb_of w n (range_of to) (range_of from) (there 0).code (there 1).code (there 2).code j).code

-- what the proof asks of weights beside their being three shares of 1, so that green takes less than two errors of chroma: KR (1 - KR) + KB (1 - KB) < 1 - KR - KB
abbrev pub fair : Weights → Bool
fair w = ltb (w.red * (10000 - w.red) + w.blue * (10000 - w.blue)) (10000 * green_of w)
