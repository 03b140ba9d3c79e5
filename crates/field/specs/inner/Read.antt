-- What is read of a line. Only `Field::code`, `one_count` and private functions cite it, and a reader need not believe it: proofs/Read.antt shows that in the bytes of a layout's field it is `field_code`, and proofs/Line.antt that it is the line's code. Assumes nothing.
use Rattle.std.specs.Prelude.{ℕ, ◌+◌, ◌%◌, Bool, cond, ◌&&◌, List, eqb, length, take, drop}
use Rattle.lists.specs.Bytes.{little}
use Rattle.layout.specs.declared.Layout.{Layout}
use Rattle.line.specs.Point.{bits}
use Rattle.field.specs.declared.field.Field.{Field}
use Rattle.field.specs.Field.{field_of}

-- by any numbers of a field and in any bytes: one byte is the code itself, and of more the first three are looked at
unfoldable pub read_code : Field → List ℕ → ℕ
read_code f bytes = cond (eqb (length bytes) 1) (bits 8 0 (little bytes)) (bits (f.bits % 16) (f.from % 32) (little (take 3 bytes)))

-- channel j of a point that begins at byte `at` of the line s
abbrev pub read_at : Layout → List ℕ → ℕ → ℕ → ℕ
read_at l s at j = read_code (field_of l j) (take (field_of l j).count (drop (at + (field_of l j).first) s))

-- as many bytes hold each of the three fields
abbrev pub one_count : Layout → Bool
one_count l = eqb (field_of l 1).count (field_of l 0).count && eqb (field_of l 2).count (field_of l 0).count
