-- The samples of a layout: what each says, and that they are right, state the layout's range and name its offsets. Assumes nothing.
use mathlib.Core.Path.{◌≡◌, refl, sym, ap, ap₂, ◌∙◌, subst}
use mathlib.Core.Bool.{Bool, true, false, ◌&&◌}
use mathlib.Core.Logic.{inl, inr}
use Prim.Native.Nat.{ℕ, ◌+◌, ◌-◌, ◌*◌, ◌≤◌}
use native.Mathlib.Omega.{arith}
use borrow.Author.Tests.{eqb-true, leb-true, eq-eqb, le-leb}
use mathlib.Core.List.{List}
use lib.Dec.{eqb, leb}
use lib.ListN.{get_or}
use Rattle.lists.proofs.Tests.{or_cases, pass, stop}
use Rattle.std.specs.Prelude.{Option, Some}
use Rattle.layout.specs.declared.Layout.{Layout}
use Rattle.parameters.specs.declared.range.Range.{Range}
use Rattle.parameters.specs.declared.range.Range.TheVariants.{Narrow, Full, LegacyFull}
use Rattle.parameters.specs.declared.kind.Kind.{Kind}
use Rattle.parameters.specs.Parameters.{range_of, depth_known, kind_of}
use Rattle.layout.specs.Layout.{apart}
use Rattle.parameters.proofs.Depths.{Steps, steps}
use Rattle.layout.proofs.Facts.{Points}
use Rattle.descriptor_samples.specs.declared.sample.Sample.{Sample}
use Rattle.descriptor_samples.specs.declared.samples.Samples.{Samples}
use Rattle.descriptor_samples.specs.Limits.{lower_of, upper_of}
use Rattle.descriptor_writer.specs.declared.field.Field.{Field}
use Rattle.descriptor_writer.specs.declared.field.Fields.{Fields}
use Rattle.descriptor_writer.specs.Field.{fields_of}
use Rattle.descriptor_layout.specs.Told.{offset_in, layout_from}
use Rattle.descriptor_samples.specs.Samples.{states, all_state, range_in, each_once, samples_right}
use Rattle.descriptor_reader.specs.Sample.{samples_in}
use Rattle.descriptor_writer.specs.Sample.{sample_of, samples_of}
use Rattle.descriptor_layout.proofs.Right.{Right}
use Rattle.descriptor_laws.proofs.Order.{three, rising-by}

-- all that a sample of a layout says but its channel and offset
pub record Of (l : Layout) (s : Sample) : Type 0 where
  pub length : s.length ≡ l.depth - 1
  pub position : s.position ≡ 0
  pub lower : s.lower ≡ lower_of (range_of l.range) l.depth
  pub upper : s.upper ≡ upper_of (range_of l.range) l.depth (kind_of l.model s.channel)

-- a field of a channel
abbrev pub field : ℕ → ℕ → Field
field channel offset = record { channel = channel; offset = offset }

-- its sample
abbrev pub sample_for : Layout → Field → Sample
sample_for l f = sample_of l f

-- the samples of three fields
abbrev pub samples_for : Layout → Fields → Samples
samples_for l f = record { first = sample_for l f.first; second = sample_for l f.second; third = sample_for l f.third }

of_sample : (l : Layout) (f : Field) → Of l (sample_for l f)
unfolding sample_of
of_sample l f = record { length = refl; position = refl; lower = refl; upper = refl }

pub of_samples : (l : Layout) → Of l (samples_of l).first × Of l (samples_of l).second × Of l (samples_of l).third
unfolding samples_of
of_samples l = (of_sample l (fields_of l).first, of_sample l (fields_of l).second, of_sample l (fields_of l).third)

-- the range that samples state at their own depth
abbrev pub range_from : ℕ → Samples → Option Range
range_from model s = range_in model (s.first.length + 1) s

-- the layout that the bytes hold, with the range that their samples state
abbrev pub layout_in : List ℕ → Range → Layout
layout_in b range = layout_from (get_or b 12 0) (get_or b 13 0) range (get_or b 20 0) (samples_in b)

-- ---- right

-- the facts give the tests
pub says_right : (bytes : ℕ) (s : Samples) → Right bytes s → samples_right bytes s ≡ true
unfolding samples_right
says_right bytes s r =
    let n = s.first.length + 1 in
    rw (
      r.depth,
      eq-eqb s.second.length s.first.length r.second_length,
      eq-eqb s.third.length s.first.length r.third_length,
      eq-eqb s.first.position 0 r.first_position,
      eq-eqb s.second.position 0 r.second_position,
      eq-eqb s.third.position 0 r.third_position,
      r.channels,
      le-leb (s.first.offset + n) s.second.offset r.first_below,
      le-leb (s.second.offset + n) s.third.offset r.second_below,
      le-leb (s.third.offset + n) (8 * bytes) r.third_inside,
    )

-- fields that do not overlap, the first not above the second
below : (x y n : ℕ) → apart x y n ≡ true → 1 ≤ n → x ≤ y → x + n ≤ y
below x y n e h le = elim (or_cases (leb (x + n) y) (leb (y + n) x) e) [
  | inl q ↦ leb-true (x + n) y q
  | inr q ↦ (let z = leb-true (y + n) x q in omega arith)
]

-- or the second not above the first
above : (x y n : ℕ) → apart x y n ≡ true → 1 ≤ n → y ≤ x → y + n ≤ x
above x y n e h le = elim (or_cases (leb (x + n) y) (leb (y + n) x) e) [
  | inl q ↦ (let z = leb-true (x + n) y q in omega arith)
  | inr q ↦ leb-true (y + n) x q
]

module _ (l : Layout) (v : Points l) where
  depth_again : l.depth - 1 + 1 ≡ l.depth
  depth_again = omega (arith, v.depth_least)

  depth-known : depth_known (l.depth - 1 + 1) ≡ true
  depth-known = ap depth_known depth_again ∙ v.depth

  -- in one order
  right_three : (c d e x y z : ℕ) → each_once c d e ≡ true → x + l.depth ≤ y → y + l.depth ≤ z → z + l.depth ≤ 8 * l.bytes
      → Right l.bytes (samples_for l (three (field c x) (field d y) (field e z)))
  unfolding sample_of
  right_three c d e x y z once h i j =
      let q = depth_again in
      record {
        depth = depth-known;
        second_length = refl;
        third_length = refl;
        first_position = refl;
        second_position = refl;
        third_position = refl;
        channels = once;
        first_below = omega arith;
        second_below = omega arith;
        third_inside = omega arith;
      }

  pub right_samples : samples_right l.bytes (samples_of l) ≡ true
  unfolding samples_of sample_of fields_of
  right_samples =
      let n = l.depth in
      let least : 1 ≤ n = omega (arith, v.depth_least) in
      let x = l.offset0 in
      let y = l.offset1 in
      let z = l.offset2 in
      says_right l.bytes (samples_of l)
      (rising-by (λ (f : Fields). Right l.bytes (samples_for l f)) (field 0 x) (field 1 y) (field 2 z)
      (λ h i. right_three 0 1 2 x y z refl (below x y n v.apart01 least h) (below y z n v.apart12 least i) v.inside2)
      (λ h i. right_three 0 2 1 x z y refl (below x z n v.apart02 least h) (above y z n v.apart12 least i) v.inside1)
      (λ h i. right_three 2 0 1 z x y refl (above x z n v.apart02 least h) (below x y n v.apart01 least i) v.inside1)
      (λ h i. right_three 1 0 2 y x z refl (above x y n v.apart01 least h) (below x z n v.apart02 least i) v.inside2)
      (λ h i. right_three 1 2 0 y z x refl (below y z n v.apart12 least h) (above x z n v.apart02 least i) v.inside0)
      (λ h i. right_three 2 1 0 z y x refl (above y z n v.apart12 least h) (above x y n v.apart01 least i) v.inside0))

  -- ---- the range

  states_own : (s : Sample) → Of l s → states l.model (range_of l.range) l.depth s ≡ true
  unfolding states
  states_own s o =
      ap₂ ◌&&◌ (eq-eqb s.lower (lower_of (range_of l.range) l.depth) o.lower)
      (eq-eqb s.upper (upper_of (range_of l.range) l.depth (kind_of l.model s.channel)) o.upper)

  all_own : all_state l.model (range_of l.range) l.depth (samples_of l) ≡ true
  unfolding all_state
  all_own =
      let o = of_samples l in
      ap₂ ◌&&◌ (ap₂ ◌&&◌ (states_own (samples_of l).first o.0) (states_own (samples_of l).second o.1)) (states_own (samples_of l).third o.2)

  first-depth : (samples_of l).first.length + 1 ≡ l.depth
  first-depth = ap (λ (k : ℕ). k + 1) (of_samples l).0.length ∙ depth_again

  -- and no other range: two that differ in the lower or the upper number are not both stated
  Differs : Range → Range → Type 0
  Differs r q = (k : Kind) → lower_of r l.depth ≡ lower_of q l.depth → upper_of r l.depth k ≡ upper_of q l.depth k → ⊥

  not_other : (q : Range) → Differs (range_of l.range) q → all_state l.model q l.depth (samples_of l) ≡ false
  unfolding all_state states Differs
  not_other q differ = go (eqb s.lower low) (eqb s.upper high) refl refl
    where
      s : Sample
      s = (samples_of l).first

      low : ℕ
      low = lower_of q l.depth

      high : ℕ
      high = upper_of q l.depth (kind_of l.model s.channel)

      go : (t u : Bool) → eqb s.lower low ≡ t → eqb s.upper high ≡ u
          → t && u && states l.model q l.depth (samples_of l).second && states l.model q l.depth (samples_of l).third ≡ false
      go false u a b = refl
      go true false a b = refl
      go true true a b =
          let o = (of_samples l).0 in
          absurd (differ (kind_of l.model s.channel) (sym o.lower ∙ eqb-true s.lower low a) (sym o.upper ∙ eqb-true s.upper high b))

  pub range_samples : range_from l.model (samples_of l) ≡ Some (range_of l.range)
  unfolding range_in Differs
  range_samples = go (range_of l.range) refl
    where
      t : Steps l.depth
      t = steps l.depth v.depth_least v.depth_most

      at : (r : Range) {b : Bool} → all_state l.model r l.depth (samples_of l) ≡ b → all_state l.model r ((samples_of l).first.length + 1) (samples_of l) ≡ b
      at r e = ap (λ (n : ℕ). all_state l.model r n (samples_of l)) first-depth ∙ e

      own : (r : Range) → range_of l.range ≡ r → all_state l.model r ((samples_of l).first.length + 1) (samples_of l) ≡ true
      own r e = at r (ap (λ (q : Range). all_state l.model q l.depth (samples_of l)) (sym e) ∙ all_own)

      other : (r q : Range) → range_of l.range ≡ r → Differs r q → all_state l.model q ((samples_of l).first.length + 1) (samples_of l) ≡ false
      other r q e differ = at q (not_other q (subst (λ (x : Range). Differs x q) (sym e) differ))

      go : (r : Range) → range_of l.range ≡ r → range_from l.model (samples_of l) ≡ Some (range_of l.range)
      go Narrow e = stop _ (own Narrow e) ∙ ap Some (sym e)
      go Full e = pass _ (other Full Narrow e (λ k a b. omega (arith, t.least))) (stop _ (own Full e)) ∙ ap Some (sym e)
      go LegacyFull e =
          pass _ (other LegacyFull Narrow e (λ k a b. omega (arith, t.least)))
          (pass _ (other LegacyFull Full e (λ k a b. omega (arith, t.least, t.whole))) (stop _ (own LegacyFull e)))
          ∙ ap Some (sym e)

-- ---- the offsets

pub offsets : (l : Layout) → (offset_in (samples_of l) 0 ≡ l.offset0) × (offset_in (samples_of l) 1 ≡ l.offset1) × (offset_in (samples_of l) 2 ≡ l.offset2)
unfolding samples_of sample_of fields_of offset_in
offsets l =
    rising-by (λ (f : Fields). let s = samples_for l f in (offset_in s 0 ≡ l.offset0) × (offset_in s 1 ≡ l.offset1) × (offset_in s 2 ≡ l.offset2))
    (field 0 l.offset0) (field 1 l.offset1) (field 2 l.offset2)
    (λ h i. (refl, refl, refl)) (λ h i. (refl, refl, refl)) (λ h i. (refl, refl, refl))
    (λ h i. (refl, refl, refl)) (λ h i. (refl, refl, refl)) (λ h i. (refl, refl, refl))
