-- The cuts of a line of values, counted point by point, and its points' numbers. Assumes nothing.
use mathlib.Core.Path.{◌≡◌, refl, sym, ap, ◌∙◌}
use mathlib.Core.Bool.{Bool, false, ◌&&◌}
use mathlib.Core.List.{List}
use Prim.Native.Nat.{ℕ, ◌+◌, ◌*◌, ◌%◌, ◌≤◌}
use native.Mathlib.Omega.{arith}
use lib.Ieee.{Float, nan}
use lib.ListN.{length, get_or, get_or-eq_default}
use Rattle.lists.specs.Lists.{one_if, count}
use Rattle.lists.proofs.Counts.{count_le, count_same, count_point}
use Rattle.layout.specs.declared.Layout.{Layout}
use Rattle.layout.specs.Layout.{grouped}
use Rattle.scales.specs.inner.Fitted.{Fitted}
use Rattle.float_scale.specs.inner.Floats.{float_scale}
use Rattle.line.specs.Point.{in_place}
use Rattle.line.specs.Line.{joined, looked}
use Rattle.line.proofs.Own.{own_looked}
use Rattle.float_scale.specs.declared.FloatScale.{FloatScale}
use Rattle.point_encoding.specs.inner.Floats.{float_scales, InFloats}
use Rattle.parameters.specs.declared.channels.Channels.{Channels}
use Rattle.scale.specs.declared.Scale.{Scale}
use Rattle.quantization.specs.Code.{code_of, is_cut_code}
use Rattle.scales.specs.Channel.{scale_at}
use Rattle.line_values.specs.Encode.{quantized_of, value_cut, cuts_of}
use Rattle.line_values.proofs.Encodes.{length-quantized}

-- the scales in f64 are the layout's
pub in_floats_fit : {l : Layout} {s : Channels Scale} {f : Channels FloatScale} → Fitted l s → f ≡ float_scales s → InFloats l f
in_floats_fit k e =
    record {
      fitted0 = ap (λ (x : Channels FloatScale). x.channel0) e ∙ ap float_scale k.fitted0;
      fitted1 = ap (λ (x : Channels FloatScale). x.channel1) e ∙ ap float_scale k.fitted1;
      fitted2 = ap (λ (x : Channels FloatScale). x.channel2) e ∙ ap float_scale k.fitted2;
    }

module _ (l : Layout) (vs : List Float) where
  -- the cuts of a point, beside those before it
  pub cuts_more : (i : ℕ) {a b c : ℕ} → a ≡ one_if (value_cut l vs (3 * i)) → b ≡ one_if (value_cut l vs (3 * i + 1)) → c ≡ one_if (value_cut l vs (3 * i + 2))
      → count (3 * i) (value_cut l vs) + (a + b + c) ≡ count (3 * (i + 1)) (value_cut l vs)
  cuts_more i e f g = sym (count_point (value_cut l vs) i ∙ omega (arith, e, f, g))

  -- none before the first point
  pub cuts_none : 0 ≡ count (3 * 0) (value_cut l vs)
  unfolding count
  cuts_none = refl

  -- of n points, no more than three each
  pub cuts_le : (i : ℕ) → count (3 * i) (value_cut l vs) ≤ 3 * i
  cuts_le i = count_le (3 * i) (value_cut l vs)

  -- and of all: every value is looked at
  pub cuts_all : (i n : ℕ) → i ≡ n → length vs ≡ 3 * n → grouped l ≡ false → count (3 * i) (value_cut l vs) ≡ cuts_of l vs
  unfolding cuts_of
  cuts_all i n e f own =
      ap (λ (k : ℕ). count k (value_cut l vs)) (omega arith)
      ∙ count_same (length vs) (value_cut l vs) (λ k. looked l k && value_cut l vs k) (λ k h. ap (λ (t : Bool). t && value_cut l vs k) (sym (own_looked l own k)))

-- a point's number, by its codes
pub joined_by : (l : Layout) (cs : List ℕ) (i : ℕ) {a b c : ℕ} → a ≡ get_or cs (3 * i) 0 → b ≡ get_or cs (3 * i + 1) 0 → c ≡ get_or cs (3 * i + 2) 0
    → in_place l a b c ≡ joined l cs i
unfolding joined
joined_by l cs i {a} {b} {c} p q r = rw (p, q, r)

-- a point beyond the line has number 0, and no cut
module _ (l : Layout) (vs : List Float) (i : ℕ) (h : length vs ≤ 3 * i) where
  no_code : (k : ℕ) → 3 * i ≤ k → 0 ≡ get_or (quantized_of l vs) k 0
  no_code k g = sym (get_or-eq_default (quantized_of l vs) 0 (omega (arith, length-quantized l vs)))

  no_cut : (k : ℕ) → 3 * i ≤ k → 0 ≡ one_if (value_cut l vs k)
  unfolding value_cut code_of
  no_cut k g = sym (ap (λ (v : Float). one_if (is_cut_code (code_of (scale_at l (k % 3)) v))) (get_or-eq_default vs nan (omega arith)))

  pub beyond_number : 0 ≡ joined l (quantized_of l vs) i
  beyond_number = omega (arith, joined_by l (quantized_of l vs) i (no_code (3 * i) (omega arith)) (no_code (3 * i + 1) (omega arith)) (no_code (3 * i + 2) (omega arith)))

  pub beyond_cuts : count (3 * i) (value_cut l vs) + 0 ≡ count (3 * (i + 1)) (value_cut l vs)
  beyond_cuts = cuts_more l vs i (no_cut (3 * i) (omega arith)) (no_cut (3 * i + 1) (omega arith)) (no_cut (3 * i + 2) (omega arith))
