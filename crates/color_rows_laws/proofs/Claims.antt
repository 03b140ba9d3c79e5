-- The claims of specs/Claims.antt. Assumes nothing.
use mathlib.Core.Path.{◌≡◌, refl, ◌∙◌}
use Prim.Native.Nat.{ℕ, ◌≤◌}
use Rattle.parameters.specs.declared.range.Range.{Range}
use Rattle.parameters.specs.declared.range.Range.TheVariants.{Narrow, Full, LegacyFull}
use Rattle.parameters.specs.declared.kind.Kind.TheVariants.{Brightness, Difference}
use Rattle.parameters.specs.Parameters.{bits_of, top_of}
use Rattle.parameters.proofs.Depths.{Steps, depth_steps, known-bits}
use Rattle.scale.specs.declared.Scale.{Scale}
use Rattle.scale.specs.Scale.{scale_of}
use Rattle.float_scale.proofs.Fine.{fine}
use Rattle.color_equations.specs.Conversion.{ycbcr_of, rgb_of}
use Rattle.color_equations.proofs.Channels.{ycbcr_by, rgb_by}
use Rattle.color_line.specs.inner.Rows.{row_code, rows_code}
use Rattle.color_numbers.specs.declared.Numbers.{Numbers}
use Rattle.color_numbers.specs.inner.Numbers.{numbers_of}
use Rattle.color_numbers.specs.inner.Sizes.{SmallNumbers}
use Rattle.color_numbers.proofs.Known.{passed, numbers_small}
use Rattle.color_rows.specs.declared.linear.Row.{Row}
use Rattle.color_rows.specs.inner.Rows.{floats_of, plain_green_row, green_row_from, ycbcr_rows, rgb_rows}
use Rattle.color_rows.specs.inner.Sizes.{Fits}
use Rattle.color_rows.proofs.Sizes.{top_least, top_most, luma_row_fits, cb_row_fits, cr_row_fits, red_row_fits, green_row_fits, blue_row_fits}
use Rattle.color_rows_laws.specs.Claims.{ToYcbcrExact, ToRgbExact}
use Rattle.color_rows_laws.proofs.Rows.{clamped_at}
use Rattle.color_rows_laws.proofs.Quotients.{row_is}
use Rattle.color_rows_laws.proofs.Lowest.{Right, terms_right, lowest_whole}
use Rattle.color_rows_laws.proofs.Equations.{luma_row, cb_row, cr_row, red_row, green_row_lem, blue_row}

module _ (m : Numbers) (h : SmallNumbers m) (x y z : ℕ) where
  abbrev n : ℕ
  n = bits_of m.depth

  steps : Steps n
  steps = depth_steps m.depth

  module _ (hx : x ≤ top_of n) (hy : y ≤ top_of n) (hz : z ≤ top_of n) where
    in_floats_lem : (r : Row) → Fits r (top_of n) → row_code (floats_of r) x y z ≡ clamped_at r x y z
    in_floats_lem r f = row_is r (top_of n) x y z f (top_least n steps) (top_most n steps) hx hy hz

    ycbcr_exact : (j : ℕ) → rows_code (ycbcr_rows m) x y z j ≡ ycbcr_of m.weights n m.from m.to x y z j
    unfolding rows_code ycbcr_rows
    ycbcr_exact j =
        ycbcr_by m.weights n m.from m.to j x y z
        (in_floats_lem _ (luma_row_fits m h) ∙ luma_row m.weights n m.from h.weights steps (scale_of m.to n Brightness) (fine m.to Brightness n steps).zero x y z)
        (in_floats_lem _ (cb_row_fits m h) ∙ cb_row m.weights n m.from h.weights steps (scale_of m.to n Difference) (fine m.to Difference n steps).zero x y z)
        (in_floats_lem _ (cr_row_fits m h) ∙ cr_row m.weights n m.from h.weights steps (scale_of m.to n Difference) (fine m.to Difference n steps).zero x y z)

    abbrev out : Scale
    out = scale_of m.to n Brightness

    -- G' out of each range is the equation's
    green-whole : Right m.weights m.green → (from : Range) → clamped_at (green_row_from from m) x y z ≡ clamped_at (plain_green_row from m) x y z
    unfolding green_row_from
    green-whole r Narrow = lowest_whole m.weights m.green m.to m.depth r h.green.some x y z
    green-whole r Full = refl
    green-whole r LegacyFull = refl

    rgb_exact : Right m.weights m.green → (j : ℕ) → rows_code (rgb_rows m) x y z j ≡ rgb_of m.weights n m.from m.to x y z j
    unfolding rows_code rgb_rows
    rgb_exact r j =
        rgb_by m.weights n m.from m.to j x y z
        (in_floats_lem _ (red_row_fits m h) ∙ red_row m.weights n m.from h.weights steps out (fine m.to Brightness n steps).zero x y z)
        (in_floats_lem _ (green_row_fits m h) ∙ green-whole r m.from ∙ green_row_lem m.weights n m.from h.weights steps out (fine m.to Brightness n steps).zero x y z)
        (in_floats_lem _ (blue_row_fits m h) ∙ blue_row m.weights n m.from h.weights steps out (fine m.to Brightness n steps).zero x y z)

-- by the paper's numbers, whose depth has n bits
pub to_ycbcr_exact : ToYcbcrExact
to_ycbcr_exact p n f t e x y z j hx hy hz =
    let m = numbers_of p n f t in
    let q : bits_of m.depth ≡ n = known-bits n (passed p n f t e).depth in
    ycbcr_exact m (numbers_small p n f t e) x y z (rw q hx) (rw q hy) (rw q hz) j ∙ (λ i. ycbcr_of m.weights (q i) m.from m.to x y z j)

pub to_rgb_exact : ToRgbExact
to_rgb_exact p n f t e x y z j hx hy hz =
    let m = numbers_of p n f t in
    let h = passed p n f t e in
    let q : bits_of m.depth ≡ n = known-bits n h.depth in
    rgb_exact m (numbers_small p n f t e) x y z (rw q hx) (rw q hy) (rw q hz) (terms_right p h.primaries) j ∙ (λ i. rgb_of m.weights (q i) m.from m.to x y z j)
