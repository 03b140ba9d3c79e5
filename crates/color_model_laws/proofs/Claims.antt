-- The claims of specs/Claims.antt. Assumes nothing.
use mathlib.Core.Path.{◌≡◌, refl, ap, ap₂, ◌∙◌}
use mathlib.Core.Bool.{Bool, true, not, ◌&&◌}
use mathlib.Core.List.{List}
use Prim.Native.Nat.{ℕ, zero, suc, ◌+◌, ◌*◌, ◌/◌, ◌%◌, ◌≤◌}
use native.Mathlib.Omega.{arith}
use borrow.Author.Tests.{leb-true, eqb-true}
use lib.Dec.{leb, eqb, lit<}
use lib.IntN.{ℤ}
use lib.ListN.{length, get_or}
use Rattle.lists.specs.Lists.{every, count}
use Rattle.lists.proofs.Tests.{and_left, and_right, and3, pass}
use Rattle.lists.proofs.Counts.{count_same}
use Rattle.fractions.specs.declared.Clamped.{Clamped}
use Rattle.fractions.specs.Fraction.{Fraction, is_cut, clamped}
use Rattle.parameters.specs.declared.range.Range.{Range}
use Rattle.parameters.specs.declared.kind.Kind.{Kind}
use Rattle.parameters.specs.declared.kind.Kind.TheVariants.{Brightness, Difference}
use Rattle.parameters.specs.Parameters.{primaries_known, depth_known, range_known, range_of}
use Rattle.parameters.proofs.Depths.{steps, known_between}
use Rattle.scale.specs.Scale.{scale_of}
use Rattle.scale.proofs.Scales.{ends}
use Rattle.quantization.specs.Code.{code_of_value}
use Rattle.quantization_laws.specs.Printed.{printed_unclamped, printed_low, printed_high}
use Rattle.quantization_laws.proofs.Printed.{Kept, unclamped_printed, ends_printed, value_kept}
use Rattle.line.specs.Line.{codes_within}
use Rattle.line.specs.Answer.{most_points}
use Rattle.line.proofs.Answers.{fit}
use Rattle.color_equations.specs.declared.weights.Weights.{Weights}
use Rattle.color_equations.specs.Weights.{weight_rows, weights_of, green_of}
use Rattle.color_equations.specs.Equations.{luma_of, chroma_of, primary_of, green_from}
use Rattle.color_equations.specs.Conversion.{brightness, difference, pick, ycbcr_of, rgb_of}
use Rattle.color_equations.specs.Line.{Converter, converted_at, converted_cuts, convertible, conversion_answer, to_ycbcr, to_rgb}
use Rattle.color_equations.proofs.Table.{each_row}
use Rattle.color_equations.proofs.Whole.{luma-den, chroma-den, primary_den, green-den}
use Rattle.color_model_laws.specs.Numbers.{ycbcr_number, rgb_number, outside_ends}
use Rattle.color_model_laws.specs.Claims.{RowsRight, Inverts, InvertsBack, ConvertsClamped, ConvertsWithinEnds, CutsToAnEnd, ConvertsCuts, CountsEmptyLines, MarkedRight, EarlyRight, NarrowEndsRight, CutsRight}
use Rattle.color_model_laws.specs.Marked.{marked, early, narrow_ends, cut_examples, given, stated}
use Rattle.std.specs.Prelude.{Ok}
use Rattle.color_model_laws.proofs.Inverse.{rgb_back, ycbcr_back}

-- three weights above 0, and together they are 1: of each row, by one test of the table
abbrev shares : Weights → Bool
shares w = leb 1 w.red && leb 1 (green_of w) && leb 1 w.blue && eqb (w.red + green_of w + w.blue) 10000

all_share : every shares weight_rows ≡ true
unfolding every
all_share = refl

pub rows_right : RowsRight
rows_right primaries e =
    let w = weights_of primaries in
    let h = each_row shares all_share primaries e in
    let a = leb 1 w.red in
    let b = leb 1 (green_of w) in
    let c = leb 1 w.blue in
    let all = eqb (w.red + green_of w + w.blue) 10000 in
    let p = and3 a b c (and_left (a && b && c) all h) in
    (leb-true 1 w.red p.0, leb-true 1 (green_of w) p.1, leb-true 1 w.blue p.2, eqb-true (w.red + green_of w + w.blue) 10000 (and_right (a && b && c) all h))

pub inverts : Inverts
inverts w r g b K R G B =
    let y = luma_of w r g b in
    let Y = luma-den w r g b R G B in
    let cb = chroma_of w.blue b y in
    let cr = chroma_of w.red r y in
    let red = primary_of w.red y cr in
    let blue = primary_of w.blue y cb in
    let P = primary_den w.red y cr Y (chroma-den w.red r y (omega arith) R Y) in
    let Q = primary_den w.blue y cb Y (chroma-den w.blue b y (omega arith) B Y) in
    let e = rgb_back w K r g b R G B in
    ((P, e.0), (green-den w y red blue K Y P Q, e.1), (Q, e.2))

pub inverts_back : InvertsBack
inverts_back w y cb cr K Y B R =
    let r = primary_of w.red y cr in
    let b = primary_of w.blue y cb in
    let g = green_from w y r b in
    let luma = luma_of w r g b in
    let P = primary_den w.red y cr Y R in
    let Q = primary_den w.blue y cb Y B in
    let L = luma-den w r g b P (green-den w y r b K Y P Q) Q in
    let e = ycbcr_back w K y cb cr Y B R in
    ((L, e.0), (chroma-den w.blue b luma (omega arith) Q L, e.1), (chroma-den w.red r luma (omega arith) P L, e.2))

-- ---- what comes out of a conversion

-- a code is the number in the paper's line, clamped to the paper's ends
record Told (to : Range) (n : ℕ) (c : Clamped) (number : ℤ) : Type 0 where
  is : c ≡ clamped (printed_low to n) (printed_high to n) number
  ends : Kept (printed_low to n) (printed_high to n) c

value_told : (n : ℕ) → depth_known n ≡ true → (r : Range) (k : Kind) (v : Fraction) → Told r n (code_of_value (scale_of r n k) v) (printed_unclamped r k n v)
unfolding code_of_value
value_told n d r k v =
    let h = known_between n d in
    let low = (ends r k n).0 ∙ (ends_printed n d r).0 in
    let high = (ends r k n).1 ∙ (ends_printed n d r).1 in
    let number = unclamped_printed r k n v (steps n h.0 h.1) in
    record { is = λ i. clamped (low i) (high i) (number i); ends = value_kept n d r k v }

-- what holds of three channels holds of each
each : (to : Range) (n j : ℕ) {a b c : Clamped} {p q r : ℤ} → Told to n a p → Told to n b q → Told to n c r → Told to n (pick j a b c) (pick j p q r)
each to n zero e f g = e
each to n (suc zero) e f g = f
each to n (suc (suc j)) e f g = g

module _ (w : Weights) (n : ℕ) (from to : Range) (x y z j : ℕ) (d : depth_known n ≡ true) where
  abbrev told : (k : Kind) (v : Fraction) → Told to n (code_of_value (scale_of to n k) v) (printed_unclamped to k n v)
  told = value_told n d to

  ycbcr_told : Told to n (ycbcr_of w n from to x y z j) (ycbcr_number w n from to x y z j)
  unfolding ycbcr_of
  ycbcr_told =
      let red = brightness from n x in
      let blue = brightness from n z in
      let luma = luma_of w red (brightness from n y) blue in
      each to n j (told Brightness luma) (told Difference (chroma_of w.blue blue luma)) (told Difference (chroma_of w.red red luma))

  rgb_told : Told to n (rgb_of w n from to x y z j) (rgb_number w n from to x y z j)
  unfolding rgb_of
  rgb_told =
      let luma = brightness from n x in
      let red = primary_of w.red luma (difference from n z) in
      let blue = primary_of w.blue luma (difference from n y) in
      each to n j (told Brightness red) (told Brightness (green_from w luma red blue)) (told Brightness blue)

pub converts_clamped : ConvertsClamped
converts_clamped w n from to x y z j d = ((ycbcr_told w n from to x y z j d).is, (rgb_told w n from to x y z j d).is)

pub converts_within-ends : ConvertsWithinEnds
converts_within-ends w n from to x y z j d = ((ycbcr_told w n from to x y z j d).ends.within, (rgb_told w n from to x y z j d).ends.within)

pub cuts_to_an_end : CutsToAnEnd
cuts_to_an_end w n from to x y z j d = ((ycbcr_told w n from to x y z j d).ends.cut, (rgb_told w n from to x y z j d).ends.cut)

-- ---- lines

module _ (f : Converter) (number : ℕ → ℕ → ℕ → ℕ → ℤ) (p n from to points : ℕ) (cs : List ℕ) (known : convertible p n from to ≡ true) (h : depth_known n ≡ true → (x y z j : ℕ) → Told (range_of to) n (f x y z j) (number x y z j)) where
  counted : length cs ≡ 3 * points → points ≤ most_points → codes_within n cs ≡ true → conversion_answer f p n from to cs (3 * points) ≡ Ok (points, outside_ends number (range_of to) n cs)
  unfolding conversion_answer converted_cuts converted_at
  counted e most within =
      let b = primaries_known p && depth_known n in
      let d = and_right (primaries_known p) (depth_known n) (and_left b (range_known from) (and_left (b && range_known from) (range_known to) known)) in
      let r = fit (length cs) 3 (3 * points) 3 points (lit< tt) e refl most in
      pass _ (ap not known)
      (pass _ (ap not r.0)
      (pass _ (ap not within)
      (ap₂ (λ (a b : ℕ). Ok (a, b)) r.1
      (count_same (length cs) (λ k. (converted_at f cs k).cut)
      (λ k. is_cut (printed_low (range_of to) n) (printed_high (range_of to) n) (number (get_or cs (3 * (k / 3)) 0) (get_or cs (3 * (k / 3) + 1) 0) (get_or cs (3 * (k / 3) + 2) 0) (k % 3)))
      (λ k l. ap (λ (c : Clamped). c.cut) (h d (get_or cs (3 * (k / 3)) 0) (get_or cs (3 * (k / 3) + 1) 0) (get_or cs (3 * (k / 3) + 2) 0) (k % 3)).is)))))

pub converts_cuts : ConvertsCuts
converts_cuts p n from to points cs known e most within =
    let w = weights_of p in
    let f = range_of from in
    let t = range_of to in (
      counted (to_ycbcr p n from to) (ycbcr_number w n f t) p n from to points cs known (λ d x y z j. ycbcr_told w n f t x y z j d) e most within,
      counted (to_rgb p n from to) (rgb_number w n f t) p n from to points cs known (λ d x y z j. rgb_told w n f t x y z j d) e most within,
    )

pub counts_empty_lines : CountsEmptyLines
unfolding every conversion_answer converted_cuts count
counts_empty_lines primaries n from to e = (pass _ (ap not e) refl, pass _ (ap not e) refl)

pub marked_right : MarkedRight
unfolding given stated marked
marked_right = refl

pub early_right : EarlyRight
unfolding given stated early
early_right = refl

pub narrow_ends_right : NarrowEndsRight
unfolding given stated narrow_ends
narrow_ends_right = refl

pub cuts_right : CutsRight
unfolding given stated cut_examples
cuts_right = refl
