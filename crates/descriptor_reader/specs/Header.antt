-- Document 01, "Descriptor", bytes 0 to 27: which are right, by the rows 2 to 4. Assumes nothing.
use Rattle.std.specs.Prelude.{ℕ, zero, suc, ◌+◌, Bool, true, ◌&&◌, List, eqb, get_or}
use Rattle.lists.specs.Bytes.{number_at}
use Rattle.descriptor_samples.specs.Size.{descriptor_size}
use Rattle.parameters.specs.Parameters.{model_known, primaries_known}
use Rattle.layout.specs.Layout.{bytes_known}

-- the k bytes from place i on are zero
abbrev pub zeros : List ℕ → ℕ → ℕ → Bool
zeros b i zero = true
zeros b i (suc k) = zeros b i k && eqb (get_or b (i + k) 0) 0

-- bytes 0 to 11 are right
unfoldable pub header_right : List ℕ → Bool
header_right b = eqb (number_at b 0 4) descriptor_size && eqb (number_at b 4 4) 0 && eqb (number_at b 8 2) 1 && eqb (number_at b 10 2) 72

-- bytes 12 to 15
unfoldable pub color_right : List ℕ → Bool
color_right b = model_known (get_or b 12 0) && primaries_known (get_or b 13 0) && eqb (get_or b 14 0) 3 && eqb (get_or b 15 0) 0

-- bytes 16 to 27
unfoldable pub planes_right : List ℕ → Bool
planes_right b = zeros b 16 4 && bytes_known (get_or b 20 0) && zeros b 21 7
