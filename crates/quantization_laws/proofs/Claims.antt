-- The claims of specs/Claims.antt. Assumes nothing.
use mathlib.Core.Path.{◌≡◌, refl, sym, ap, ap₂, ◌∙◌}
use mathlib.Core.Bool.{Bool, true, false, not, cond, ◌&&◌}
use Prim.Native.Nat.{ℕ, ◌*◌, ◌≤◌}
use native.Mathlib.Nat.{zero-mul, eq_of_mul-eq-mul_right}
use native.Mathlib.Omega.{arith}
use borrow.Author.Tests.{le-ltb, ltb-false}
use lib.Dec.{ltb}
use lib.IntN.{ℤ, pos, ◌-ℤ◌, ◌*ℤ◌}
use lib.Ieee.{Float}
use Rattle.lists.proofs.Tests.{and_left, and_right, pass}
use Rattle.fractions.specs.declared.Clamped.{Clamped}
use Rattle.fractions.specs.Fraction.{Fraction, clamped}
use Rattle.fractions.proofs.Integers.{as_pos, times_right, same_sums}
use Rattle.parameters.specs.declared.range.Range.{Range}
use Rattle.parameters.specs.declared.kind.Kind.{Kind}
use Rattle.parameters.specs.declared.kind.Kind.TheVariants.{Brightness, Difference}
use Rattle.parameters.specs.Parameters.{model_known, range_known, range_of, depth_known, channel_known, top_of, kind_of}
use Rattle.parameters.proofs.Depths.{Steps, steps, known_between}
use Rattle.scale.specs.Scale.{scale_of}
use Rattle.scale.specs.Value.{fraction_of, value_of}
use Rattle.quantization.specs.Code.{code_of_value, code_of}
use Rattle.quantization.specs.declared.Dequantized.TheVariants.{Refused}
use Rattle.scales.specs.Channel.{channel_known_at, channel_scale}
use Rattle.quantization.specs.Answer.{named, dequantized, quantized}
use Rattle.scale.proofs.Scales.{ends}
use Rattle.float_scale.proofs.Fine.{fine}
use Rattle.quantization_laws.specs.Claims.{Dequantizes, Quantizes, QuantizesOthers, QuantizesWithinEnds, CutsToAnEnd, ZeroIsPlus, Returns, ReturnsEvery, ReturnsExcluded, QuantizingRises}
use Rattle.quantization_laws.specs.Printed.{printed_value, printed_unclamped, printed_low, printed_high}
use Rattle.quantization_laws.specs.Pattern.{pattern_value}
use Rattle.quantization_laws.proofs.Printed.{value_printed, printed_over, unclamped_printed, ends_printed, Kept, code_kept, included_code, excluded_code}
use Rattle.quantization_laws.proofs.Pattern.{pattern_code}
use Rattle.quantization_laws.proofs.Return.{code_returns}
use Rattle.quantization_laws.proofs.Nearest.{code_nearest, zero_plus}
use Rattle.quantization_laws.proofs.Distances.{nearest_same}
use Rattle.std.specs.Prelude.{Result, Ok, Err, Option, Some, None, ok_or}
use Rattle.refusal.specs.declared.Refusal.{Refusal}
use Rattle.refusal.specs.declared.Refusal.TheVariants.{CodeTooHigh, NotANumber, Outside}
use Rattle.quantization_laws.proofs.Rising.{codes_rise}

-- what a known channel says of its depth: the laws are proved for depths from 8 to 12
pub record Says (n : ℕ) : Type 0 where
  pub depth-known : depth_known n ≡ true
  pub least : 8 ≤ n
  pub most : n ≤ 12
  pub stepped : Steps n

says : (model range n channel : ℕ) → channel_known_at model range n channel ≡ true → Says n
says model range n channel e =
    let h = and_left (model_known model && range_known range && depth_known n) (channel_known channel) e in
    let d = and_right (model_known model && range_known range) (depth_known n) h in
    let b = known_between n d in
    record {
      depth-known = d;
      least = b.0;
      most = b.1;
      stepped = steps n b.0 b.1;
    }

-- the code of a value, as printed
code_printed : (r : Range) (k : Kind) (n : ℕ) (v : Fraction) → depth_known n ≡ true → Steps n → code_of_value (scale_of r n k) v ≡ clamped (printed_low r n) (printed_high r n) (printed_unclamped r k n v)
unfolding code_of_value
code_printed r k n v d s =
    let e = ends r k n in
    let f = ends_printed n d r in
    (λ i. clamped ((e.0 ∙ f.0) i) ((e.1 ∙ f.1) i) (unclamped_printed r k n v s i))

pub dequantizes : Dequantizes
unfolding dequantized
dequantizes model range n channel c e h =
    let d = says model range n channel e in
    let r = range_of range in
    let k = kind_of model channel in
    let sc = channel_scale model range n channel in (
      value_of sc c,
      pass _ (ap not e) (pass _ (le-ltb (top_of n) c h) refl),
      nearest_same (fraction_of sc c) (printed_value r k n c) (value_of sc c) (printed_over r k n c d.stepped) (value_printed r k n c d.stepped) (code_nearest r k n c d.least d.most h),
    )

-- the answer of a code, or the refusal of a NaN
abbrev answered : Option Clamped → Result Clamped Refusal
answered x = ok_or x NotANumber

pub quantizes : Quantizes
unfolding quantized
quantizes model range n channel bits e h =
    let d = says model range n channel e in
    pass _ (ap not e)
    (ap answered (pattern_code (channel_scale model range n channel) (fine (range_of range) (kind_of model channel) n d.stepped).zero bits h)
    ∙ ap Ok (code_printed (range_of range) (kind_of model channel) n (pattern_value bits) d.depth-known d.stepped))

-- a code that was cut
abbrev cut_at : ℕ → Result Clamped Refusal
cut_at c = Ok (record { code = c; cut = true })

pub quantizes_others : QuantizesOthers
unfolding quantized code_of
quantizes_others model range n channel e =
    let q = ends (range_of range) (kind_of model channel) n in
    let f = ends_printed n (says model range n channel e).depth-known (range_of range) in
    (pass _ (ap not e) (ap cut_at (q.1 ∙ f.1)), pass _ (ap not e) (ap cut_at (q.0 ∙ f.0)), pass _ (ap not e) refl)

-- what quantizing answers was clamped to the ends
answer-kept : (model range n channel : ℕ) (v : Float) (c : Clamped) → quantized model range n channel v ≡ Ok c → Kept (printed_low (range_of range) n) (printed_high (range_of range) n) c
unfolding quantized
answer-kept model range n channel v c e = go (channel_known_at model range n channel) refl e
  where
    coded : (x : Option Clamped) → answered x ≡ Ok c → x ≡ Some c
    coded (Some d) e = cc
    coded None e = let z : ◌≡◌ {A = ℕ} 0 1 = cc in absurd (omega arith)

    go : (t : Bool) → channel_known_at model range n channel ≡ t → cond (not t) (Err Outside) (answered (code_of (channel_scale model range n channel) v)) ≡ Ok c → Kept (printed_low (range_of range) n) (printed_high (range_of range) n) c
    go false k e = let z : ◌≡◌ {A = ℕ} 0 1 = cc in absurd (omega arith)
    go true k e = code_kept n (says model range n channel k).depth-known (range_of range) (kind_of model channel) v c (coded (code_of (channel_scale model range n channel) v) e)

pub quantizes_within-ends : QuantizesWithinEnds
quantizes_within-ends model range n channel v c e = (answer-kept model range n channel v c e).within

pub cuts_to_an_end : CutsToAnEnd
cuts_to_an_end model range n channel v c e = (answer-kept model range n channel v c e).cut

pub zero_is_plus : ZeroIsPlus
unfolding dequantized
zero_is_plus model range n channel c e h z =
    let r = range_of range in
    let k = kind_of model channel in
    let d = says model range n channel e in
    let b = (scale_of r n k).base in
    let over = (printed_value r k n c).den in
    let none : pos (c * over) -ℤ pos (b * over) ≡ pos 0 -ℤ pos 0 =
    sym (times_right c b over) ∙ value_printed r k n c d.stepped ∙ ap (λ (x : ℤ). x *ℤ pos (scale_of r n k).span) z
    ∙ ap pos (zero-mul (scale_of r n k).span) ∙ as_pos 0 0 0 (omega arith) in
    let base : c ≡ b = eq_of_mul-eq-mul_right over (printed_over r k n c d.stepped) c b (omega (arith, same_sums (c * over) (b * over) 0 0 none)) in
    pass _ (ap not e) (pass _ (le-ltb (top_of n) c h) (ap (named k) (ap (value_of (scale_of r n k)) base ∙ zero_plus r k n d.least d.most)))

-- a value is no refusal, and is told by its answer
not_refused : (k : Kind) (v : Float) (n : Refusal) → Refused n ≡ named k v → ⊥
not_refused Brightness v n e = let z : ◌≡◌ {A = ℕ} 0 1 = cc in omega arith
not_refused Difference v n e = let z : ◌≡◌ {A = ℕ} 0 1 = cc in omega arith

told : (k : Kind) (v w : Float) → named k v ≡ named k w → v ≡ w
told Brightness v w e = cc
told Difference v w e = cc

-- a code that has a value is one of its depth, and comes back clamped
pub record Back (range n c : ℕ) (answer : Result Clamped Refusal) : Type 0 where
  pub known : Says n
  pub small : c ≤ top_of n
  pub back : answer ≡ Ok (clamped (printed_low (range_of range) n) (printed_high (range_of range) n) (pos c))

comes_back : (model range n channel c : ℕ) (v : Float) → dequantized model range n channel c ≡ named (kind_of model channel) v → Back range n c (quantized model range n channel v)
unfolding dequantized quantized
comes_back model range n channel c v e = go (channel_known_at model range n channel) (ltb (top_of n) c) refl refl e
  where
    go : (t h : Bool) → channel_known_at model range n channel ≡ t → ltb (top_of n) c ≡ h
        → cond (not t) (Refused Outside) (cond h (Refused CodeTooHigh) (named (kind_of model channel) (value_of (channel_scale model range n channel) c))) ≡ named (kind_of model channel) v
        → Back range n c (cond (not t) (Err Outside) (answered (code_of (channel_scale model range n channel) v)))
    go false h p q e = absurd (not_refused (kind_of model channel) v Outside e)
    go true true p q e = absurd (not_refused (kind_of model channel) v CodeTooHigh e)
    go true false p q e =
        let d = says model range n channel p in
        let h = ltb-false (top_of n) c q in
        let f = ends_printed n d.depth-known (range_of range) in
        record {
          known = d;
          small = h;
          back = ap (λ (x : Float). answered (code_of (channel_scale model range n channel) x)) (sym (told (kind_of model channel) (value_of (channel_scale model range n channel) c) v e))
              ∙ ap answered (code_returns (range_of range) (kind_of model channel) n c d.least d.most h)
              ∙ ap₂ (λ (x y : ℕ). Ok (clamped x y (pos c))) f.0 f.1;
        }

pub returns : Returns
returns model range n channel c v e = (comes_back model range n channel c v e).back

pub returns_every : ReturnsEvery
returns_every model range n channel c v e x =
    let b = comes_back model range n channel c v e in
    b.back ∙ ap Ok (included_code n b.known.depth-known (range_of range) c b.small x)

pub returns_excluded : ReturnsExcluded
returns_excluded model range n channel c v e x =
    let b = comes_back model range n channel c v e in
    b.back ∙ ap Ok (excluded_code n b.known.depth-known (range_of range) c x)

-- every scale of the paper has its low end not above its high end
pub quantizing_rises : QuantizingRises
unfolding quantized
quantizing_rises model range n channel x y e h =
    let d = says model range n channel e in
    let (a, b, p, q, l) = codes_rise (channel_scale model range n channel) x y (fine (range_of range) (kind_of model channel) n d.stepped).order h in
    (a, b, pass _ (ap not e) (ap answered p), pass _ (ap not e) (ap answered q), l)
