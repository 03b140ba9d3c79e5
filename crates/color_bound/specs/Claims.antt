-- Request A5, "a bound I can print on the box": what is claimed of the definitions that the converters' contracts cite. proofs/Claims.antt proves each. Assumes nothing.
use Rattle.std.specs.Prelude.{ℕ, ◌+◌, ◌*◌, ◌≤◌, ◌<◌, true, ◌≡◌, List, [], ◌∷◌, length, get_or, Result, Ok}
use Rattle.lists.specs.Lists.{every}
use Rattle.parameters.specs.Parameters.{primaries_known, depth_known}
use Rattle.line.specs.Answer.{most_points}
use Rattle.color_equations.specs.declared.weights.Weights.{Weights}
use Rattle.color_equations.specs.Weights.{weight_rows, weights_of}
use Rattle.color_equations.specs.Conversion.{pick}
use Rattle.color_equations.specs.Line.{to_ycbcr_answer, to_rgb_answer, to_ycbcr_output, to_rgb_output}
use Rattle.color_model_laws.specs.Claims.{Shares}
use Rattle.refusal.specs.declared.Refusal.{Refusal}
use Rattle.color_bound.specs.Bound.{covered, nominal, allowed, Within, returned, fair}

-- every row of the paper is fair, by one test of the table
abbrev pub RowsFair : Type 0
RowsFair = every fair weight_rows ≡ true

-- the answer accepts so many points, however many codes were cut
abbrev pub Accepts : Result (ℕ × ℕ) Refusal → ℕ → Type 0
Accepts answer points = (cuts : ℕ) × (answer ≡ Ok (points, cuts))

-- a point comes back with each channel within the bound: one statement for all weights that are three shares of 1 and fair, all depths from 8 on, and ranges 1 and 2;
abbrev pub ReturnsNear : Type 0
ReturnsNear =
    (w : Weights) (n from to r g b j : ℕ) → Shares w → fair w ≡ true → 8 ≤ n → covered from ≡ true → covered to ≡ true
    → nominal from n r ≡ true → nominal from n g ≡ true → nominal from n b ≡ true
    → Within (allowed from to) (pick j r g b) (returned w n from to r g b j)

-- so of every row of weights and depth of the paper,
abbrev pub PointsReturnNear : Type 0
PointsReturnNear =
    (primaries n from to r g b j : ℕ) → primaries_known primaries ≡ true → depth_known n ≡ true → covered from ≡ true → covered to ≡ true
    → nominal from n r ≡ true → nominal from n g ≡ true → nominal from n b ≡ true
    → Within (allowed from to) (pick j r g b) (returned (weights_of primaries) n from to r g b j)

-- and of every line of such codes: the first entry accepts it, the second what the first left, each counts its points, and what the second leaves is as long and has each code within the bound
abbrev pub LinesReturnNear : Type 0
LinesReturnNear =
    (primaries n from to points : ℕ) (cs before again : List ℕ) → primaries_known primaries ≡ true → depth_known n ≡ true → covered from ≡ true → covered to ≡ true
    → length cs ≡ 3 * points → points ≤ most_points → every (nominal from n) cs ≡ true → length before ≡ 3 * points → length again ≡ 3 * points
    → let there = to_ycbcr_output primaries n from to cs before in
    let back = to_rgb_output primaries n to from there again in
    Accepts (to_ycbcr_answer primaries n from to cs (length before)) points
    × Accepts (to_rgb_answer primaries n to from there (length again)) points
    × (length back ≡ length cs)
    × ((i : ℕ) → i < length cs → Within (allowed from to) (get_or cs i 0) (get_or back i 0))

-- no less would do: a code of a point that the bound speaks of comes back lower by exactly so much, at each pair of ranges (BT.709, 8 bits)
abbrev pub ComesBackLower : (from to r g b j : ℕ) → Type 0
ComesBackLower from to r g b j = (every (nominal from 8) (r ∷ g ∷ b ∷ []) ≡ true) × (pick j r g b ≡ returned (weights_of 1) 8 from to r g b j + allowed from to)

abbrev pub BoundReached : Type 0
BoundReached = ComesBackLower 1 1 115 19 16 0 × ComesBackLower 1 2 16 235 16 0 × ComesBackLower 2 2 255 177 255 0 × ComesBackLower 2 1 0 102 255 2
