-- Request A3, with document 01, "Layout": the bytes of a point that hold a channel's field, and the code in just these bytes. Assumes nothing.
use Rattle.std.specs.Prelude.{ℕ, ◌+◌, ◌-◌, ◌/◌, ◌%◌, List, take, drop}
use Rattle.lists.specs.Bytes.{little}
use Rattle.layout.specs.declared.Layout.{Layout}
use Rattle.layout.specs.Layout.{offset_of}
use Rattle.line.specs.Point.{bits}
use Rattle.field.specs.declared.field.Field.{Field}

-- n bits at a bit offset lie in the bytes offset / 8 to (offset + n - 1) / 8, and begin at bit offset % 8 of the first
abbrev pub field_at : ℕ → ℕ → Field
field_at offset n = record { first = offset / 8; count = (offset + n - 1) / 8 - offset / 8 + 1; from = offset % 8; bits = n }

-- the field of a channel
abbrev pub field_of : Layout → ℕ → Field
field_of l channel = field_at (offset_of l channel) l.depth

-- the bytes of a point that hold a field
abbrev pub field_bytes : Field → List ℕ → List ℕ
field_bytes f point = take f.count (drop f.first point)

-- the code in these bytes: the field's bits of their number
abbrev pub field_code : Field → List ℕ → ℕ
field_code f bytes = bits f.bits f.from (little bytes)
