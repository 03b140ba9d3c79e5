-- Request A7: codes as the bytes of a file, big-endian: one byte each at 8 bits, else two. Assumes nothing.
use Rattle.std.specs.Prelude.{ℕ, ◌-◌, ◌*◌, ◌/◌, ◌%◌, Bool, cond, ◌&&◌, List, eqb, length, get_or}
use Rattle.lists.specs.Lists.{tabulate, new_or_kept}
use Rattle.lists.specs.Bytes.{byte_of}

-- the bytes of a code of n bits
abbrev pub code_bytes : ℕ → ℕ
code_bytes n = cond (eqb n 8) 1 2

-- ---- codes to bytes

-- byte k of codes of b bytes each: the highest byte of a code is the first
unfoldable pub raster_byte : ℕ → List ℕ → ℕ → ℕ
raster_byte b cs k = byte_of (get_or cs (k / b) 0) (b - 1 - k % b)

-- codes in b bytes each
unfoldable pub raster_by : ℕ → List ℕ → List ℕ
unfolding raster_byte
raster_by b cs = tabulate (b * length cs) (raster_byte b cs)

-- the raster of codes of n bits
abbrev pub raster_of : ℕ → List ℕ → List ℕ
raster_of n cs = raster_by (code_bytes n) cs

-- ---- the output

-- so many bytes hold so many codes of b bytes each
abbrev pub holds : ℕ → ℕ → ℕ → Bool
holds b bytes codes = eqb (bytes % b) 0 && eqb (bytes / b) codes

-- bytes after storing codes: as before where they are not exactly as many as needed
unfoldable pub stored_by : ℕ → List ℕ → List ℕ → List ℕ
stored_by b cs before = new_or_kept (holds b (length before) (length cs)) (raster_by b cs) before

abbrev pub raster_output : ℕ → List ℕ → List ℕ → List ℕ
raster_output n cs before = stored_by (code_bytes n) cs before
