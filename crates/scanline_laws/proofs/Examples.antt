-- Worked examples: one point unpacked, packed again and encoded, and lines that are refused. Assumes nothing.
use Prim.Native.Nat.{ℕ}
use mathlib.Core.Path.{◌≡◌, refl}
use mathlib.Core.Bool.{true, false}
use mathlib.Core.List.{List, [], ◌∷◌}
use Rattle.lists.specs.Lists.{tabulate, every}
use Rattle.lists.specs.Bytes.{little}
use Rattle.layout.specs.declared.Layout.{Layout}
use Rattle.layout.specs.Layout.{valid_points, valid_groups, valid_layout}
use Rattle.line.specs.Point.{point_of}
use Rattle.line.specs.Line.{point_code, code_at, codes_of, joined, point_byte, byte_at, packed_of, shared}
use Rattle.line.specs.Group.{group_code, group_byte}
use Rattle.line.specs.Answer.{odd_points, unpack_answer, pack_answer}
use Rattle.std.specs.Prelude.{Ok, Err}
use Rattle.refusal.specs.declared.Refusal.TheVariants.{CodeTooHigh, OddCount, Outside, WrongLineOrOutput}
use Rattle.scanline_laws.specs.Cleared.{field_bits, used_bits, cleared}

-- Y', Cb, Cr of 10 bits in four bytes, Cb lowest and then Y', narrow range, BT.2020
abbrev ten : Layout
ten = record { model = 2; primaries = 4; range = 1; depth = 10; bytes = 4; offset0 = 10; offset1 = 0; offset2 = 20; sampling = 0 }

-- narrow groups of BT.601 (A6)
abbrev deck : Layout
deck = record { model = 2; primaries = 2; range = 1; depth = 8; bytes = 4; offset0 = 0; offset1 = 0; offset2 = 0; sampling = 1 }

-- white with the most Cr and the least Cb, and ones in the two bits that no field uses
abbrev white : List ℕ
white = 64 ∷ 176 ∷ 14 ∷ 252 ∷ []

-- unpacked, packed again without the two bits; then a byte, a code and a layout too many or too high; then two groups, and one whose second point's colour is not looked at, while its Y' is; an odd count, also before all else that is wrong, an empty line, and a part of a point; up to 4,096 points; 4,097 are odd, 4,098 are not; offsets that are not zero
examples : (codes_of ten white ≡ 940 ∷ 64 ∷ 960 ∷ [])
    × (packed_of ten (940 ∷ 64 ∷ 960 ∷ []) ≡ 64 ∷ 176 ∷ 14 ∷ 60 ∷ [])
    × (cleared ten white ≡ 64 ∷ 176 ∷ 14 ∷ 60 ∷ [])
    × (unpack_answer ten 4 3 ≡ Ok 1)
    × (unpack_answer ten 0 0 ≡ Ok 0)
    × (unpack_answer ten 5 3 ≡ Err WrongLineOrOutput)
    × (unpack_answer ten 4 6 ≡ Err WrongLineOrOutput)
    × (unpack_answer ten 16388 12291 ≡ Err WrongLineOrOutput)
    × (pack_answer ten (940 ∷ 64 ∷ 1024 ∷ []) 4 ≡ Err CodeTooHigh)
    × (pack_answer ten (940 ∷ 64 ∷ 1024 ∷ []) 5 ≡ Err WrongLineOrOutput)
    × (pack_answer (record { model = 2; primaries = 4; range = 1; depth = 10; bytes = 4; offset0 = 10; offset1 = 1; offset2 = 20; sampling = 0 }) (940 ∷ 64 ∷ 1024 ∷ []) 5 ≡ Err Outside)
    × (codes_of deck (90 ∷ 16 ∷ 240 ∷ 235 ∷ 128 ∷ 81 ∷ 128 ∷ 82 ∷ []) ≡ 16 ∷ 90 ∷ 240 ∷ 235 ∷ 90 ∷ 240 ∷ 81 ∷ 128 ∷ 128 ∷ 82 ∷ 128 ∷ 128 ∷ [])
    × (packed_of deck (16 ∷ 90 ∷ 240 ∷ 235 ∷ 999 ∷ 0 ∷ []) ≡ 90 ∷ 16 ∷ 240 ∷ 235 ∷ [])
    × (pack_answer deck (16 ∷ 90 ∷ 240 ∷ 235 ∷ 999 ∷ 0 ∷ []) 4 ≡ Ok 2)
    × (pack_answer deck (16 ∷ 90 ∷ 240 ∷ 256 ∷ 0 ∷ 0 ∷ []) 4 ≡ Err CodeTooHigh)
    × (pack_answer deck (16 ∷ 90 ∷ 240 ∷ []) 4 ≡ Err OddCount)
    × (pack_answer deck (256 ∷ 90 ∷ 240 ∷ []) 5 ≡ Err OddCount)
    × (pack_answer deck [] 0 ≡ Ok 0)
    × (pack_answer deck (16 ∷ 90 ∷ []) 4 ≡ Err WrongLineOrOutput)
    × (unpack_answer deck 8 12 ≡ Ok 4)
    × (unpack_answer deck 6 9 ≡ Err WrongLineOrOutput)
    × (unpack_answer deck 8192 12288 ≡ Ok 4096)
    × (unpack_answer deck 8196 12294 ≡ Err WrongLineOrOutput)
    × (odd_points deck 12291 ≡ true)
    × (odd_points deck 12294 ≡ false)
    × (unpack_answer (record { model = 2; primaries = 2; range = 1; depth = 8; bytes = 4; offset0 = 0; offset1 = 8; offset2 = 16; sampling = 1 }) 8 12 ≡ Err Outside)
unfolding tabulate every little valid_points valid_groups valid_layout point_of group_code group_byte point_code code_at codes_of joined point_byte byte_at packed_of shared unpack_answer pack_answer field_bits used_bits cleared
examples =
    (refl, refl, refl, refl, refl, refl, refl, refl, refl, refl, refl, refl, refl, refl, refl, refl, refl, refl, refl, refl, refl, refl, refl, refl, refl, refl)
