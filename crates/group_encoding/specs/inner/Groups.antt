-- A group's number, and what of its values is counted. Only private functions cite it, and a reader need not believe it: proofs/ shows that the numbers' bytes are `packed_of`, and that the count is `cuts_of`. Assumes nothing.
use Rattle.std.specs.Prelude.{ℕ, ◌+◌, ◌*◌, Bool, ◌&&◌, List, Float, get_or}
use Rattle.layout.specs.declared.Layout.{Layout}
use Rattle.line.specs.Line.{looked}
use Rattle.line_values.specs.Encode.{value_cut}

-- the number of group i of a line of codes: Cb, Y', Cr, Y', the lowest byte first
unfoldable pub group_number : List ℕ → ℕ → ℕ
group_number cs i = get_or cs (6 * i + 1) 0 + 256 * get_or cs (6 * i) 0 + 65536 * get_or cs (6 * i + 2) 0 + 16777216 * get_or cs (6 * i + 3) 0

-- value k is looked at, and was cut
abbrev pub counted_cut : Layout → List Float → ℕ → Bool
counted_cut l vs k = looked l k && value_cut l vs k
