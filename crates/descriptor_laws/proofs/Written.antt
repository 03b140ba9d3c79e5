-- The descriptor of a valid layout is read as the layout. Assumes nothing.
use mathlib.Core.Path.{◌≡◌, refl, sym, ap, ap₂, ◌∙◌}
use mathlib.Core.Bool.{true, ◌&&◌}
use Prim.Native.Nat.{ℕ, zero, suc, ◌+◌, ◌*◌, ◌/◌, ◌%◌, ◌^◌, ◌≤◌, ◌<◌}
use native.Mathlib.Nat.{pow-suc, div-lt_iff_lt-mul}
use native.Mathlib.Omega.{arith}
use borrow.Author.Tests.{le-leb}
use lib.Dec.{eqb, lit<}
use lib.ListN.{length, get_or}
use Rattle.lists.specs.Bytes.{bytes_of}
use Rattle.layout.specs.declared.Layout.{Layout}
use Rattle.parameters.specs.declared.range.Range.{Range}
use Rattle.parameters.specs.declared.range.Range.TheVariants.{Narrow, Full, LegacyFull}
use Rattle.parameters.specs.declared.kind.Kind.{Kind}
use Rattle.parameters.specs.declared.kind.Kind.TheVariants.{Brightness, Difference}
use Rattle.parameters.specs.Parameters.{range_of, kind_of}
use Rattle.layout.specs.Layout.{bytes_known}
use Rattle.parameters.proofs.Depths.{Steps, steps}
use Rattle.parameters.proofs.Known.{range_number_lem}
use Rattle.layout.proofs.Facts.{Points, points_say}
use Rattle.descriptor_samples.specs.declared.sample.Sample.{Sample}
use Rattle.descriptor_samples.specs.declared.samples.Samples.{Samples}
use Rattle.descriptor_writer.specs.declared.field.Field.{Field}
use Rattle.descriptor_writer.specs.Field.{fields_of}
use Rattle.descriptor_samples.specs.Limits.{lower_of, upper_of}
use Rattle.descriptor_samples.specs.Samples.{samples_right}
use Rattle.descriptor_reader.specs.Sample.{sample_in, samples_in}
use Rattle.descriptor_writer.specs.Sample.{sample_bytes, sample_of, samples_of}
use Rattle.descriptor_reader.specs.Header.{header_right, color_right, planes_right}
use Rattle.descriptor_layout.specs.Told.{layout_from}
use Rattle.descriptor_reader.specs.Reading.{read_descriptor}
use Rattle.descriptor_writer.specs.Writing.{front_bytes, samples_bytes, descriptor_bytes}
use Rattle.descriptor_layout.proofs.Answers.{accepted}
use Rattle.descriptor_reader.proofs.Answers.{samples_decide}
use Rattle.descriptor_laws.proofs.Order.{rising-all}
use Rattle.descriptor_laws.proofs.Samples.{field, range_from, layout_in, Of, of_samples, right_samples, range_samples, offsets}
use Rattle.std.specs.Prelude.{Some, Ok}
use Rattle.descriptor_laws.specs.Claims.{Accepts}

-- what reading k bytes of a number gives
abbrev joined : ℕ → ℕ → ℕ
joined zero x = 0
joined (suc k) x = x % 256 + 256 * joined k (x / 256)

joined_is : (k x : ℕ) → x < 256 ^ k → joined k x ≡ x
joined_is zero x h = omega arith
joined_is (suc k) x h = rw (joined_is k (x / 256) ((div-lt_iff_lt-mul (lit< tt)).1 (rw pow-suc at h))) (omega arith)

-- numbers that fit their bytes
record Fits (s : Sample) : Type 0 where
  offset : s.offset < 65536
  position : s.position < 4294967296
  lower : s.lower < 4294967296
  upper : s.upper < 4294967296

-- a sample, its numbers written as bytes and read
abbrev again : Sample → Sample
again s =
    record {
      offset = joined 2 s.offset;
      length = s.length;
      channel = s.channel;
      position = joined 4 s.position;
      lower = joined 4 s.lower;
      upper = joined 4 s.upper;
    }

again_is : (s : Sample) → Fits s → again s ≡ s
again_is s f =
    rw (joined_is 2 s.offset f.offset, joined_is 4 s.position f.position, joined_is 4 s.lower f.lower, joined_is 4 s.upper f.upper) refl

again_in : (l : Layout) → samples_in (descriptor_bytes l)
    ≡ (record { first = again (samples_of l).first; second = again (samples_of l).second; third = again (samples_of l).third })
unfolding descriptor_bytes samples_bytes front_bytes sample_bytes bytes_of samples_in sample_in
again_in l = refl

module _ (l : Layout) (v : Points l) where
  small : Steps l.depth
  small = steps l.depth v.depth_least v.depth_most

  lower_lt : (r : Range) → lower_of r l.depth < 4294967296
  lower_lt Narrow = omega (arith, small.most)
  lower_lt Full = lit< tt
  lower_lt LegacyFull = lit< tt

  upper_lt : (r : Range) (k : Kind) → upper_of r l.depth k < 4294967296
  upper_lt Narrow Brightness = omega (arith, small.most)
  upper_lt Narrow Difference = omega (arith, small.most)
  upper_lt Full k = omega (arith, small.most, small.whole)
  upper_lt LegacyFull k = omega (arith, small.most, small.whole)

  offset_lt : (s : Sample) → s.offset + l.depth ≤ 8 * l.bytes → Of l s → Fits s
  offset_lt s h o =
      record {
        offset = omega (arith, v.bytes_most);
        position = rw o.position (lit< tt);
        lower = rw o.lower (lower_lt (range_of l.range));
        upper = rw o.upper (upper_lt (range_of l.range) (kind_of l.model s.channel));
      }

  inside_samples : ((samples_of l).first.offset + l.depth ≤ 8 * l.bytes) × ((samples_of l).second.offset + l.depth ≤ 8 * l.bytes) × ((samples_of l).third.offset + l.depth ≤ 8 * l.bytes)
  unfolding samples_of sample_of fields_of
  inside_samples =
      rising-all (λ (f : Field). f.offset + l.depth ≤ 8 * l.bytes) (field 0 l.offset0) (field 1 l.offset1) (field 2 l.offset2)
      v.inside0 v.inside1 v.inside2

  -- the samples come back
  samples_again : samples_in (descriptor_bytes l) ≡ samples_of l
  samples_again =
      let o = of_samples l in
      let i = inside_samples in
      again_in l
      ∙ rw (
        again_is (samples_of l).first (offset_lt (samples_of l).first i.0 o.0),
        again_is (samples_of l).second (offset_lt (samples_of l).second i.1 o.1),
        again_is (samples_of l).third (offset_lt (samples_of l).third i.2 o.2),
      )
      refl

  -- and with them the layout
  layout_again : layout_from l.model l.primaries (range_of l.range) l.bytes (samples_of l) ≡ l
  unfolding layout_from
  layout_again =
      let o = offsets l in
      let n : (samples_of l).first.length + 1 ≡ l.depth = ap (λ (k : ℕ). k + 1) (of_samples l).0.length ∙ omega (arith, v.depth_least) in
      λ i. record {
        model = l.model;
        primaries = l.primaries;
        range = range_number_lem l.range v.range i;
        depth = n i;
        bytes = l.bytes;
        offset0 = o.0 i;
        offset1 = o.1 i;
        offset2 = o.2 i;
        sampling = sym v.own i;
      }

  -- no row applies
  header_is : header_right (descriptor_bytes l) ≡ true
  unfolding header_right descriptor_bytes samples_bytes front_bytes sample_bytes bytes_of
  header_is = refl

  color_is : color_right (descriptor_bytes l) ≡ true
  unfolding color_right descriptor_bytes samples_bytes front_bytes sample_bytes bytes_of
  color_is = rw (v.model, v.primaries) refl

  bytes_is : bytes_known l.bytes ≡ true
  bytes_is = ap₂ ◌&&◌ (le-leb 3 l.bytes v.bytes_least) (le-leb l.bytes 8 v.bytes_most)

  planes_is : planes_right (descriptor_bytes l) ≡ true
  unfolding planes_right descriptor_bytes samples_bytes front_bytes sample_bytes bytes_of
  planes_is = rw bytes_is refl

  right_is : samples_right (get_or (descriptor_bytes l) 20 0) (samples_in (descriptor_bytes l)) ≡ true
  unfolding descriptor_bytes samples_bytes front_bytes sample_bytes bytes_of
  right_is = ap (samples_right l.bytes) samples_again ∙ right_samples l v

  range_is : range_from (get_or (descriptor_bytes l) 12 0) (samples_in (descriptor_bytes l)) ≡ Some (range_of l.range)
  unfolding descriptor_bytes samples_bytes front_bytes sample_bytes bytes_of
  range_is = ap (range_from l.model) samples_again ∙ range_samples l v

  layout_is : layout_in (descriptor_bytes l) (range_of l.range) ≡ l
  unfolding descriptor_bytes samples_bytes front_bytes sample_bytes bytes_of
  layout_is = ap (λ (s : Samples). layout_from l.model l.primaries (range_of l.range) l.bytes s) samples_again ∙ layout_again

  length_is : eqb (length (descriptor_bytes l)) 76 ≡ true
  unfolding descriptor_bytes samples_bytes front_bytes sample_bytes bytes_of
  length_is = refl

  read_descriptor_lem : read_descriptor (descriptor_bytes l) ≡ Ok l
  read_descriptor_lem =
      let b = descriptor_bytes l in
      sym
      (accepted (get_or b 12 0) (get_or b 13 0) (get_or b 20 0) (samples_in b) right_is (range_of l.range) range_is
      ∙ samples_decide b length_is header_is color_is planes_is)
      ∙ ap Ok layout_is

pub accepts : Accepts
accepts l e = read_descriptor_lem l (points_say l e)
