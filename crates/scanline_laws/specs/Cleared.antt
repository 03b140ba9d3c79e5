-- The bits of a packed line that no field uses, which are written as zero: document 01, "Layout" and "Codes and floats", and request A6. Assumes nothing.
use Rattle.std.specs.Prelude.{ℕ, ◌%◌, cond, List, length, get_or}
use Rattle.std.specs.Int.Bits.{bit_and}
use Rattle.lists.specs.Lists.{tabulate}
use Rattle.lists.specs.Bytes.{byte_of}
use Rattle.layout.specs.declared.Layout.{Layout}
use Rattle.parameters.specs.Parameters.{top_of}
use Rattle.layout.specs.Layout.{grouped}
use Rattle.line.specs.Point.{in_place}

-- the bits that the three fields of a point use: ones in each field, and zeros elsewhere
unfoldable pub field_bits : Layout → ℕ
field_bits l = in_place l (top_of l.depth) (top_of l.depth) (top_of l.depth)

-- the bits that are used: those, and of a group all 32 (A6)
unfoldable pub used_bits : Layout → ℕ
unfolding field_bits
used_bits l = cond (grouped l) (top_of 32) (field_bits l)

-- a packed line with its unused bits cleared, and nothing else changed
unfoldable pub cleared : Layout → List ℕ → List ℕ
unfolding used_bits
cleared l s = tabulate (length s) (λ k. bit_and (get_or s k 0) (byte_of (used_bits l) (k % l.bytes)))
