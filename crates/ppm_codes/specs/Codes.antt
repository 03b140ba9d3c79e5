-- Request A7: the codes that the bytes of a file hold, big-endian: of one byte each at 8 bits, else of two. Assumes nothing.
use Rattle.std.specs.Prelude.{ℕ, ◌+◌, ◌*◌, ◌/◌, cond, List, eqb, length, get_or}
use Rattle.lists.specs.Lists.{tabulate, new_or_kept}
use Rattle.ppm_raster.specs.Raster.{code_bytes, holds}

-- code k, of one byte or of two
unfoldable pub code_by : ℕ → List ℕ → ℕ → ℕ
code_by b s k = cond (eqb b 1) (get_or s k 0) (256 * get_or s (2 * k) 0 + get_or s (2 * k + 1) 0)

-- all codes of b bytes each
unfoldable pub codes_by : ℕ → List ℕ → List ℕ
unfolding code_by
codes_by b s = tabulate (length s / b) (code_by b s)

-- the codes of n bits of a raster
abbrev pub raster_codes : ℕ → List ℕ → List ℕ
raster_codes n s = codes_by (code_bytes n) s

-- ---- the output

-- codes after taking them from bytes: as before where they are not exactly as many as the bytes hold
unfoldable pub taken_by : ℕ → List ℕ → List ℕ → List ℕ
taken_by b s before = new_or_kept (holds b (length s) (length before)) (codes_by b s) before

abbrev pub codes_output : ℕ → List ℕ → List ℕ → List ℕ
codes_output n s before = taken_by (code_bytes n) s before
