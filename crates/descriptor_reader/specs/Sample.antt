-- The samples that a descriptor's bytes hold: document 01, "Descriptor", samples at 28, 44, 60. Assumes nothing.
use Rattle.std.specs.Prelude.{ℕ, ◌+◌, List, get_or}
use Rattle.lists.specs.Bytes.{number_at}
use Rattle.descriptor_samples.specs.declared.sample.Sample.{Sample}
use Rattle.descriptor_samples.specs.declared.samples.Samples.{Samples}

-- the sample that the bytes from place i on hold
unfoldable pub sample_in : List ℕ → ℕ → Sample
sample_in b i =
    record {
      offset = number_at b i 2;
      length = get_or b (i + 2) 0;
      channel = get_or b (i + 3) 0;
      position = number_at b (i + 4) 4;
      lower = number_at b (i + 8) 4;
      upper = number_at b (i + 12) 4;
    }

-- the three samples of a descriptor
unfoldable pub samples_in : List ℕ → Samples
samples_in b = record { first = sample_in b 28; second = sample_in b 44; third = sample_in b 60 }
