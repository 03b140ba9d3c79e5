-- Document 01, "Descriptor": the layout that three samples tell, by the rows 5 and 6. Assumes nothing.
use Rattle.std.specs.Prelude.{ℕ, ◌+◌, not, cond, eqb, Option, Some, None, Result, Ok, Err}
use Rattle.parameters.specs.declared.range.Range.{Range}
use Rattle.parameters.specs.Parameters.{range_number}
use Rattle.layout.specs.declared.Layout.{Layout}
use Rattle.layout.specs.Layout.{own_sampling}
use Rattle.descriptor_samples.specs.declared.samples.Samples.{Samples}
use Rattle.refusal.specs.declared.Refusal.TheVariants.{NoRange, WrongSample}
use Rattle.refusal.specs.declared.Refusal.{Refusal}
use Rattle.descriptor_samples.specs.Samples.{samples_right, range_in}

-- the bit offset of a channel, in the sample that names it
unfoldable pub offset_in : Samples → ℕ → ℕ
offset_in s channel =
    cond (eqb s.first.channel channel) s.first.offset
    (cond (eqb s.second.channel channel) s.second.offset
    s.third.offset)

-- the layout of these numbers and samples, of points of their own (A6's groups have no descriptor)
unfoldable pub layout_from : ℕ → ℕ → Range → ℕ → Samples → Layout
layout_from model primaries range bytes s =
    record {
      model = model;
      primaries = primaries;
      range = range_number range;
      depth = s.first.length + 1;
      bytes = bytes;
      offset0 = offset_in s 0;
      offset1 = offset_in s 1;
      offset2 = offset_in s 2;
      sampling = own_sampling;
    }

-- the same of the range that the samples state: row 6
abbrev pub ranged : ℕ → ℕ → ℕ → Samples → Option Range → Result Layout Refusal
ranged model primaries bytes s None = Err NoRange
ranged model primaries bytes s (Some range) = Ok (layout_from model primaries range bytes s)

-- what the samples tell with model, primaries and bytes a point: rows 5 and 6, and the layout
unfoldable pub read_samples : ℕ → ℕ → ℕ → Samples → Result Layout Refusal
read_samples model primaries bytes s =
    cond (not (samples_right bytes s)) (Err WrongSample)
    (ranged model primaries bytes s (range_in model (s.first.length + 1) s))
