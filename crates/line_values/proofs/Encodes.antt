-- A line of values, quantized: its codes fit the layout, and the test for a number. Assumes nothing.
use mathlib.Core.Path.{◌≡◌, refl, sym, ap, ◌∙◌}
use mathlib.Core.Bool.{Bool, true, false, not, ◌&&◌, beq}
use mathlib.Core.List.{List}
use Prim.Native.Nat.{ℕ, ◌+◌, ◌*◌, ◌%◌, ◌^◌, ◌≤◌, ◌<◌, max}
use native.Mathlib.Omega.{arith}
use borrow.Author.Tests.{eq-eqb, le-leb, not-true}
use lib.Dec.{leb}
use lib.IntN.{ℤ, pos, negsuc}
use lib.Ieee.{Float, nan, inf, fin, up, down, eq, is_nan}
use lib.ListN.{length, get_or}
use lib.Pow.{pow_pos}
use mir.Val.{bool_byte}
use Rattle.lists.specs.Lists.{one_if}
use Rattle.lists.proofs.Every.{every_at, every_of}
use Rattle.lists.proofs.Lists.{length-tabulate, get_or-tabulate}
use Rattle.lists.proofs.Counts.{byte_of, count_le}
use Rattle.fractions.specs.declared.Clamped.{Clamped}
use Rattle.fractions.specs.Fraction.{clamp}
use Rattle.layout.specs.declared.Layout.{Layout}
use Rattle.parameters.specs.Parameters.{top_of, range_of, kind_of}
use Rattle.layout.specs.Layout.{valid_layout}
use Rattle.parameters.proofs.Depths.{steps}
use Rattle.layout.proofs.Facts.{valid_says}
use Rattle.scale.specs.declared.Scale.{Scale}
use Rattle.quantization.specs.Code.{code_of, code_or, is_cut_code, code_of_value, unclamped, exact}
use Rattle.scales.specs.Channel.{scale_at}
use Rattle.scale.proofs.Scales.{ends, ends_le}
use Rattle.line.specs.Line.{looked, codes_within}
use Rattle.std.specs.Prelude.{Option, Some}
use Rattle.line_values.specs.Encode.{value_code, quantized_of, value_cut, cuts_of, all_numbers}

-- a float equals itself unless it is a NaN
same_sign : (s : Bool) → beq s s ≡ true
same_sign true = refl
same_sign false = refl

pub eq_self : (x : Float) → eq x x ≡ not (is_nan x)
unfolding eq is_nan
eq_self nan = refl
eq_self (inf s) = same_sign s
eq_self (fin s m e) = rw (eq-eqb (m * up e * down e) (m * up e * down e) refl, same_sign s)

-- a value of a line that was seen to hold numbers alone
pub number_at : (vs : List Float) (k : ℕ) → all_numbers vs ≡ true → k < length vs → is_nan (get_or vs k nan) ≡ false
number_at vs k e h = not-true (is_nan (get_or vs k nan)) (every_at (λ v. not (is_nan v)) nan vs k e h)

-- a code is at most the higher end
clamp_le : (low high : ℕ) (z : ℤ) → clamp low high z ≤ max low high
clamp_le low high (pos n) = omega arith
clamp_le low high (negsuc n) = omega arith

code_le : (sc : Scale) (v : Float) → code_or 0 (code_of sc v) ≤ max sc.low sc.high
unfolding code_of code_of_value
code_le sc nan = omega arith
code_le sc (inf false) = omega arith
code_le sc (inf true) = omega arith
code_le sc (fin s m e) = clamp_le sc.low sc.high (unclamped sc (exact s m e))

pub code_small : (l : Layout) (j : ℕ) (v : Float) → valid_layout l ≡ true → code_or 0 (code_of (scale_at l j) v) < 2 ^ l.depth
code_small l j v ok =
    let n = l.depth in
    let r = range_of l.range in
    let e = ends r (kind_of l.model j) n in
    let d = valid_says l ok in
    omega (arith, ends_le r n (steps n d.depth_least d.depth_most), code_le (scale_at l j) v, pow_pos n)

module _ (l : Layout) (vs : List Float) where
  pub length-quantized : length (quantized_of l vs) ≡ length vs
  unfolding quantized_of
  length-quantized = length-tabulate (length vs) (value_code l vs)

  -- code 3 i + j is that of channel j of point i
  pub quantized_at_lem : (i j : ℕ) → j < 3 → 3 * i + j < length vs → get_or (quantized_of l vs) (3 * i + j) 0 ≡ code_or 0 (code_of (scale_at l j) (get_or vs (3 * i + j) nan))
  unfolding quantized_of value_code
  quantized_at_lem i j h k =
      let e : (3 * i + j) % 3 ≡ j = omega arith in
      get_or-tabulate (length vs) (value_code l vs) (3 * i + j) 0 k ∙ ap (λ (c : ℕ). code_or 0 (code_of (scale_at l c) (get_or vs (3 * i + j) nan))) e

  -- every code is one of the depth
  pub quantized-within : valid_layout l ≡ true → codes_within l.depth (quantized_of l vs) ≡ true
  unfolding quantized_of value_code
  quantized-within ok = every_of (λ c. leb c (top_of l.depth)) 0 (quantized_of l vs) (λ k h.
      let e = get_or-tabulate (length vs) (value_code l vs) k 0 (omega (arith, length-quantized)) in
      le-leb (get_or (quantized_of l vs) k 0) (top_of l.depth) (omega (arith, e, code_small l (k % 3) (get_or vs k nan) ok)))

  -- a code worked out on channel j's scale fits, and it is the line's; and so is what it says of a cut
  pub placed : valid_layout l ≡ true → (i j : ℕ) (sc : Scale) (r : Clamped) → sc ≡ scale_at l j → j < 3 → 3 * i + j < length vs → Some r ≡ code_of sc (get_or vs (3 * i + j) nan)
      → (r.code < 2 ^ l.depth) × (r.code ≡ get_or (quantized_of l vs) (3 * i + j) 0) × (bool_byte r.cut ≡ one_if (value_cut l vs (3 * i + j)))
  unfolding value_cut
  placed ok i j sc r f h k e =
      let v = get_or vs (3 * i + j) nan in
      let d = e ∙ ap (λ (x : Scale). code_of x v) f in
      let m : (3 * i + j) % 3 ≡ j = omega arith in
      let c = ap (code_or 0) d in
      (omega (arith, c, code_small l j v ok), c ∙ sym (quantized_at_lem i j h k), byte_of r.cut ∙ ap (λ (x : Option Clamped). one_if (is_cut_code x)) (d ∙ ap (λ (n : ℕ). code_of (scale_at l n) v) (sym m)))

  -- no more values are cut than there are
  pub cuts_most : cuts_of l vs ≤ length vs
  unfolding cuts_of
  cuts_most = count_le (length vs) (λ k. looked l k && value_cut l vs k)
