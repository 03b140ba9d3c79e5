-- The claims of specs/Claims.antt. Assumes nothing.
use mathlib.Core.Path.{◌≡◌, refl, ap, ◌∙◌}
use mathlib.Core.Bool.{true, ◌&&◌}
use mathlib.Core.List.{List}
use Prim.Native.Nat.{ℕ, zero, suc, ◌*◌, ◌≤◌}
use native.Mathlib.Omega.{arith}
use borrow.Author.Tests.{le-leb}
use lib.Dec.{leb}
use lib.ListN.{length, get_or}
use Rattle.lists.specs.Lists.{every, new_or_kept}
use Rattle.lists.proofs.Every.{every_at, every_of}
use Rattle.fractions.specs.declared.Clamped.{Clamped}
use Rattle.parameters.specs.declared.range.Range.{Range}
use Rattle.parameters.specs.declared.kind.Kind.TheVariants.{Brightness, Difference}
use Rattle.parameters.specs.Parameters.{primaries_known, depth_known, range_of, top_of}
use Rattle.parameters.proofs.Depths.{steps, known_between}
use Rattle.line.specs.Line.{codes_within}
use Rattle.line.specs.Answer.{most_points}
use Rattle.scale.specs.Scale.{scale_of}
use Rattle.scale.proofs.Scales.{ends_le}
use Rattle.quantization.specs.Code.{code_of_value}
use Rattle.quantization_laws.proofs.Printed.{ends_printed}
use Rattle.color_equations.specs.declared.weights.Weights.{Weights}
use Rattle.color_equations.specs.Weights.{weights_of}
use Rattle.color_equations.specs.Equations.{luma_of, chroma_of, primary_of, green_from}
use Rattle.color_equations.specs.Conversion.{ycbcr_of, rgb_of, pick}
use Rattle.color_equations.specs.Line.{converted_of, convertible, to_ycbcr, to_rgb, to_ycbcr_answer, to_rgb_answer, to_ycbcr_output, to_rgb_output}
use Rattle.color_equations.proofs.Table.{each_row}
use Rattle.color_model_laws.proofs.Claims.{rows_right, converts_within-ends, converts_cuts}
use Rattle.color_bound.specs.Bound.{covered, nominal, allowed, Within, fair}
use Rattle.color_bound.specs.Claims.{RowsFair, ReturnsNear, PointsReturnNear, Accepts, LinesReturnNear, BoundReached}
use Rattle.color_bound.proofs.Return.{red_returns, green_returns, blue_returns}
use Rattle.color_bound.proofs.Scales.{known, fits, lies, in_depth}
use Rattle.std.specs.Prelude.{Result, is_ok}
use Rattle.refusal.specs.declared.Refusal.{Refusal}
use Rattle.color_bound.proofs.Lines.{length_converted, converted_every, line_near}

pub rows_fair : RowsFair
unfolding every
rows_fair = refl

-- ---- a point
pub returns_near : ReturnsNear
unfolding ycbcr_of rgb_of
returns_near w n from to r g b j shares less l F T R G B =
    let rgb = scale_of (range_of from) n Brightness in
    let luma = scale_of (range_of to) n Brightness in
    let chroma = scale_of (range_of to) n Difference in
    let k = allowed from to in
    let deep : 8 ≤ n = omega arith in
    let h = fits n from to deep F T in
    let x = lies n from r deep F R in
    let y = lies n from g deep F G in
    let z = lies n from b deep F B in
    each j k r g b _ _ _
    (red_returns w shares less rgb luma chroma k h r g b x y z)
    (green_returns w shares less rgb luma chroma k h r g b x y z)
    (blue_returns w shares less rgb luma chroma k h r g b x y z)
  where
    each : (j k r g b : ℕ) (x y z : Clamped) → Within k r x.code → Within k g y.code → Within k b z.code → Within k (pick j r g b) (pick j x y z).code
    each zero k r g b x y z R G B = R
    each (suc zero) k r g b x y z R G B = G
    each (suc (suc j)) k r g b x y z R G B = B

pub points_return_near : PointsReturnNear
points_return_near p n from to r g b j P N =
    returns_near (weights_of p) n from to r g b j (rows_right p P) (each_row fair rows_fair p P) (known_between n N).0

-- ---- a line

-- every code that comes out is one of the depth
codes-within : (w : Weights) (n : ℕ) (from to : Range) → depth_known n ≡ true → (x y z j : ℕ) → leb (ycbcr_of w n from to x y z j).code (top_of n) ≡ true
codes-within w n from to N x y z j =
    let d = known_between n N in
    let high = (converts_within-ends w n from to x y z j N).0.1 in
    le-leb _ (top_of n) (omega (arith, (ends_printed n N to).1, (ends_le to n (steps n d.0 d.1)).1))

-- both entries accept
module _ (p n from to points : ℕ) (cs : List ℕ) (P : primaries_known p ≡ true) (N : depth_known n ≡ true) (F : covered from ≡ true) (T : covered to ≡ true)
    (whole : length cs ≡ 3 * points) (most : points ≤ most_points) (each : every (nominal from n) cs ≡ true) where
  -- the paper has these numbers
  has : (a b : ℕ) → covered a ≡ true → covered b ≡ true → convertible p n a b ≡ true
  has a b A B = λ i. P i && N i && known a A i && known b B i

  small : codes_within n cs ≡ true
  small =
      every_of (λ c. leb c (top_of n)) 0 cs
      (λ i l. le-leb (get_or cs i 0) (top_of n) (in_depth n from (get_or cs i 0) (known_between n N).0 F (every_at (nominal from n) 0 cs i each l)))

  first : (a : ℕ) → a ≡ 3 * points → Accepts (to_ycbcr_answer p n from to cs a) points
  first a e = (_, ap (to_ycbcr_answer p n from to cs) e ∙ (converts_cuts p n from to points cs (has from to F T) whole most small).0)

  second : (a : ℕ) → a ≡ 3 * points → Accepts (to_rgb_answer p n to from (converted_of (to_ycbcr p n from to) cs) a) points
  second a e =
      let f = to_ycbcr p n from to in
      let there = converted_of f cs in
      let within = converted_every f (λ c. leb c (top_of n)) cs (codes-within (weights_of p) n (range_of from) (range_of to) N) in
      (_, ap (to_rgb_answer p n to from there) e ∙ (converts_cuts p n to from points there (has to from T F) (length_converted f cs ∙ whole) most within).1)

pub lines_return_near : LinesReturnNear
lines_return_near p n from to points cs before again P N F T whole most each B A =
    let f = to_ycbcr p n from to in
    let g = to_rgb p n to from in
    let there = converted_of f cs in
    let back = converted_of g there in
    let short : points ≤ most_points = omega arith in
    let one = first p n from to points cs P N F T whole short each (length before) B in
    let two = second p n from to points cs P N F T whole short each (length again) A in
    let s : to_ycbcr_output p n from to cs before ≡ there = written there before one in
    let t : to_rgb_output p n to from there again ≡ back = written back again two in
    rw (s, t) (
      one,
      two,
      length_converted g there ∙ length_converted f cs,
      line_near f g (nominal from n) (allowed from to) points cs whole each (λ r g b j. points_return_near p n from to r g b j P N F T),
    )
  where
    written : {a : Result (ℕ × ℕ) Refusal} (xs old : List ℕ) → Accepts a points → new_or_kept (is_ok a) xs old ≡ xs
    written xs old (cuts, e) = ap (λ (x : Result (ℕ × ℕ) Refusal). new_or_kept (is_ok x) xs old) e

pub bound_reached : BoundReached
unfolding every scale_of code_of_value luma_of chroma_of primary_of green_from ycbcr_of rgb_of
bound_reached = ((refl, refl), (refl, refl), (refl, refl), (refl, refl))
