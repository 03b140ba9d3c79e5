-- The samples of a layout: document 01, "Descriptor". Assumes nothing.
use Rattle.std.specs.Prelude.{ℕ, ◌-◌, List, ◌∷◌, ◌++◌}
use Rattle.lists.specs.Bytes.{bytes_of}
use Rattle.layout.specs.declared.Layout.{Layout}
use Rattle.parameters.specs.Parameters.{range_of, kind_of}
use Rattle.descriptor_samples.specs.declared.sample.Sample.{Sample}
use Rattle.descriptor_samples.specs.declared.samples.Samples.{Samples}
use Rattle.descriptor_samples.specs.Limits.{lower_of, upper_of}
use Rattle.descriptor_writer.specs.declared.field.Field.{Field}
use Rattle.descriptor_writer.specs.Field.{fields_of}

-- the sample of one field
unfoldable pub sample_of : Layout → Field → Sample
sample_of l field =
    record {
      offset = field.offset;
      length = l.depth - 1;
      channel = field.channel;
      position = 0;
      lower = lower_of (range_of l.range) l.depth;
      upper = upper_of (range_of l.range) l.depth (kind_of l.model field.channel);
    }

-- the samples of all three, in rising bit offset
unfoldable pub samples_of : Layout → Samples
samples_of l =
    let fields = fields_of l in
    record { first = sample_of l fields.first; second = sample_of l fields.second; third = sample_of l fields.third }

-- ---- a sample's 16 bytes

-- bit offset (u16), n - 1 (u8), channel number (u8), four position bytes, lower (u32), upper (u32)
unfoldable pub sample_bytes : Sample → List ℕ
sample_bytes s =
    bytes_of s.offset 2
    ++ (s.length ∷ s.channel ∷ (bytes_of s.position 4 ++ (bytes_of s.lower 4 ++ bytes_of s.upper 4)))
