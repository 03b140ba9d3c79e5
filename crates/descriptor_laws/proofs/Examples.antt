-- Worked examples: the bytes of three layouts, and what reading them and bytes changed from them answers. Assumes nothing.
use Prim.Native.Nat.{ℕ}
use mathlib.Core.Path.{◌≡◌, refl}
use mathlib.Core.List.{List, [], ◌∷◌, ◌++◌}
use lib.ListN.{set}
use Rattle.lists.specs.Bytes.{bytes_of}
use Rattle.layout.specs.declared.Layout.{Layout}
use Rattle.descriptor_samples.specs.Samples.{states, all_state, range_in, samples_right}
use Rattle.descriptor_reader.specs.Sample.{sample_in, samples_in}
use Rattle.descriptor_reader.specs.Header.{header_right, color_right, planes_right}
use Rattle.descriptor_layout.specs.Told.{offset_in, layout_from, read_samples}
use Rattle.descriptor_reader.specs.Reading.{read_descriptor}
use Rattle.descriptor_writer.specs.Field.{rising, fields_of}
use Rattle.descriptor_writer.specs.Sample.{sample_bytes, sample_of, samples_of}
use Rattle.std.specs.Prelude.{Ok, Err}
use Rattle.refusal.specs.declared.Refusal.TheVariants.{NoRange, WrongColor, WrongHeader, WrongLength, WrongPlanes, WrongSample}
use Rattle.descriptor_writer.specs.Writing.{front_bytes, samples_bytes, descriptor_bytes}

-- B', G', R' of 8 bits in three bytes, full range, BT.709
abbrev bgr : Layout
bgr = record { model = 1; primaries = 1; range = 2; depth = 8; bytes = 3; offset0 = 16; offset1 = 8; offset2 = 0; sampling = 0 }

abbrev bgr_bytes : List ℕ
bgr_bytes =
    76 ∷ 0 ∷ 0 ∷ 0 ∷ 0 ∷ 0 ∷ 0 ∷ 0 ∷ 1 ∷ 0 ∷ 72 ∷ 0
    ∷ 1 ∷ 1 ∷ 3 ∷ 0 ∷ 0 ∷ 0 ∷ 0 ∷ 0 ∷ 3 ∷ 0 ∷ 0 ∷ 0 ∷ 0 ∷ 0 ∷ 0 ∷ 0
    ∷ 0 ∷ 0 ∷ 7 ∷ 2 ∷ 0 ∷ 0 ∷ 0 ∷ 0 ∷ 0 ∷ 0 ∷ 0 ∷ 0 ∷ 255 ∷ 0 ∷ 0 ∷ 0
    ∷ 8 ∷ 0 ∷ 7 ∷ 1 ∷ 0 ∷ 0 ∷ 0 ∷ 0 ∷ 0 ∷ 0 ∷ 0 ∷ 0 ∷ 255 ∷ 0 ∷ 0 ∷ 0
    ∷ 16 ∷ 0 ∷ 7 ∷ 0 ∷ 0 ∷ 0 ∷ 0 ∷ 0 ∷ 0 ∷ 0 ∷ 0 ∷ 0 ∷ 255 ∷ 0 ∷ 0 ∷ 0 ∷ []

-- Y', Cb, Cr of 10 bits in four bytes, Cb lowest and then Y', narrow range, BT.2020: 64 and 940, or 960
abbrev ten : Layout
ten = record { model = 2; primaries = 4; range = 1; depth = 10; bytes = 4; offset0 = 10; offset1 = 0; offset2 = 20; sampling = 0 }

abbrev ten_bytes : List ℕ
ten_bytes =
    76 ∷ 0 ∷ 0 ∷ 0 ∷ 0 ∷ 0 ∷ 0 ∷ 0 ∷ 1 ∷ 0 ∷ 72 ∷ 0
    ∷ 2 ∷ 4 ∷ 3 ∷ 0 ∷ 0 ∷ 0 ∷ 0 ∷ 0 ∷ 4 ∷ 0 ∷ 0 ∷ 0 ∷ 0 ∷ 0 ∷ 0 ∷ 0
    ∷ 0 ∷ 0 ∷ 9 ∷ 1 ∷ 0 ∷ 0 ∷ 0 ∷ 0 ∷ 64 ∷ 0 ∷ 0 ∷ 0 ∷ 192 ∷ 3 ∷ 0 ∷ 0
    ∷ 10 ∷ 0 ∷ 9 ∷ 0 ∷ 0 ∷ 0 ∷ 0 ∷ 0 ∷ 64 ∷ 0 ∷ 0 ∷ 0 ∷ 172 ∷ 3 ∷ 0 ∷ 0
    ∷ 20 ∷ 0 ∷ 9 ∷ 2 ∷ 0 ∷ 0 ∷ 0 ∷ 0 ∷ 64 ∷ 0 ∷ 0 ∷ 0 ∷ 192 ∷ 3 ∷ 0 ∷ 0 ∷ []

-- Y', Cb, Cr of 8 bits in three bytes, A1's range, BT.601: 0 and 256
abbrev early : Layout
early = record { model = 2; primaries = 2; range = 3; depth = 8; bytes = 3; offset0 = 0; offset1 = 8; offset2 = 16; sampling = 0 }

abbrev early_bytes : List ℕ
early_bytes =
    76 ∷ 0 ∷ 0 ∷ 0 ∷ 0 ∷ 0 ∷ 0 ∷ 0 ∷ 1 ∷ 0 ∷ 72 ∷ 0
    ∷ 2 ∷ 2 ∷ 3 ∷ 0 ∷ 0 ∷ 0 ∷ 0 ∷ 0 ∷ 3 ∷ 0 ∷ 0 ∷ 0 ∷ 0 ∷ 0 ∷ 0 ∷ 0
    ∷ 0 ∷ 0 ∷ 7 ∷ 0 ∷ 0 ∷ 0 ∷ 0 ∷ 0 ∷ 0 ∷ 0 ∷ 0 ∷ 0 ∷ 0 ∷ 1 ∷ 0 ∷ 0
    ∷ 8 ∷ 0 ∷ 7 ∷ 1 ∷ 0 ∷ 0 ∷ 0 ∷ 0 ∷ 0 ∷ 0 ∷ 0 ∷ 0 ∷ 0 ∷ 1 ∷ 0 ∷ 0
    ∷ 16 ∷ 0 ∷ 7 ∷ 2 ∷ 0 ∷ 0 ∷ 0 ∷ 0 ∷ 0 ∷ 0 ∷ 0 ∷ 0 ∷ 0 ∷ 1 ∷ 0 ∷ 0 ∷ []

-- the three tables, read and written; one sample of the third with full range's 255; then one byte too many, and one byte changed for each of the rows 2 to 6
examples : (descriptor_bytes bgr ≡ bgr_bytes)
    × (read_descriptor bgr_bytes ≡ Ok bgr)
    × (descriptor_bytes ten ≡ ten_bytes)
    × (read_descriptor ten_bytes ≡ Ok ten)
    × (descriptor_bytes early ≡ early_bytes)
    × (read_descriptor early_bytes ≡ Ok early)
    × (read_descriptor (set (set early_bytes 40 255) 41 0) ≡ Err NoRange)
    × (read_descriptor (ten_bytes ++ (0 ∷ [])) ≡ Err WrongLength)
    × (read_descriptor (set ten_bytes 8 2) ≡ Err WrongHeader)
    × (read_descriptor (set ten_bytes 12 3) ≡ Err WrongColor)
    × (read_descriptor (set ten_bytes 20 9) ≡ Err WrongPlanes)
    × (read_descriptor (set ten_bytes 29 1) ≡ Err WrongSample)
    × (read_descriptor (set ten_bytes 63 18) ≡ Err WrongSample)
    × (read_descriptor (set (set ten_bytes 40 172) 64 1) ≡ Err WrongSample)
    × (read_descriptor (set ten_bytes 40 172) ≡ Err NoRange)
unfolding bytes_of sample_bytes sample_in samples_in states all_state range_in sample_of rising fields_of samples_of samples_right offset_in front_bytes samples_bytes descriptor_bytes header_right color_right planes_right layout_from read_samples read_descriptor
examples = (refl, refl, refl, refl, refl, refl, refl, refl, refl, refl, refl, refl, refl, refl, refl)
