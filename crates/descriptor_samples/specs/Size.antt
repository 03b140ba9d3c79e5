-- Document 01, "Descriptor": its size in bytes. Assumes nothing.
use Rattle.std.specs.Prelude.{ℕ}

abbrev pub descriptor_size : ℕ
descriptor_size = 76
