-- Three codes joined, as the code does it. A reader need not believe it: proofs/Join.antt shows that it is `in_place`. Assumes nothing.
use Rattle.std.specs.Prelude.{ℕ, ◌*◌, ◌%◌, ◌^◌}
use Rattle.std.specs.Int.Bits.{bit_or}
use Rattle.layout.specs.declared.Layout.{Layout}

-- a code at a bit offset, in 64 bits
abbrev pub shifted : ℕ → ℕ → ℕ
shifted code offset = code * 2 ^ (offset % 64) % 2 ^ 64

-- three codes in their places
unfoldable pub joined_bits : Layout → ℕ → ℕ → ℕ → ℕ
joined_bits l a b c = bit_or (shifted a l.offset0) (bit_or (shifted b l.offset1) (shifted c l.offset2))
