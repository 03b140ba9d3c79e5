-- What comes out of a conversion, channel by channel: each the code of its equation over the exact fractions, with no rounding before. Assumes nothing.
use mathlib.Core.Path.{◌≡◌}
use Prim.Native.Nat.{ℕ}
use Rattle.parameters.specs.declared.range.Range.{Range}
use Rattle.parameters.specs.declared.kind.Kind.TheVariants.{Brightness, Difference}
use Rattle.fractions.specs.declared.Clamped.{Clamped}
use Rattle.scale.specs.Scale.{scale_of}
use Rattle.quantization.specs.Code.{code_of_value}
use Rattle.color_equations.specs.declared.weights.Weights.{Weights}
use Rattle.color_equations.specs.Equations.{luma_of, chroma_of, primary_of, green_from}
use Rattle.color_equations.specs.Conversion.{brightness, difference, pick, ycbcr_of, rgb_of}

module _ (w : Weights) (n : ℕ) (from to : Range) (j : ℕ) {a b c : Clamped} where
  pub ycbcr_by : (x y z : ℕ) → let red = brightness from n x in
      let blue = brightness from n z in
      let luma = luma_of w red (brightness from n y) blue in
      a ≡ code_of_value (scale_of to n Brightness) luma
      → b ≡ code_of_value (scale_of to n Difference) (chroma_of w.blue blue luma)
      → c ≡ code_of_value (scale_of to n Difference) (chroma_of w.red red luma)
      → pick j a b c ≡ ycbcr_of w n from to x y z j
  unfolding ycbcr_of
  ycbcr_by x y z e f g = λ i. pick j (e i) (f i) (g i)

  pub rgb_by : (y cb cr : ℕ) → let luma = brightness from n y in
      let red = primary_of w.red luma (difference from n cr) in
      let blue = primary_of w.blue luma (difference from n cb) in
      a ≡ code_of_value (scale_of to n Brightness) red
      → b ≡ code_of_value (scale_of to n Brightness) (green_from w luma red blue)
      → c ≡ code_of_value (scale_of to n Brightness) blue
      → pick j a b c ≡ rgb_of w n from to y cb cr j
  unfolding rgb_of
  rgb_by y cb cr e f g = λ i. pick j (e i) (f i) (g i)
