-- Worked examples: one point decoded, and encoded again without the bits that no field uses; bytes that are refused. Assumes nothing.
use Prim.Native.Nat.{ℕ}
use mathlib.Core.Path.{◌≡◌, refl}
use mathlib.Core.Bool.{true, false}
use mathlib.Core.List.{List, [], ◌∷◌}
use lib.Ieee.{Float, nan, inf, binary32, of_bits, is_nan, round}
use Rattle.lists.specs.Lists.{tabulate, every, count}
use Rattle.lists.specs.Bytes.{little}
use Rattle.layout.specs.declared.Layout.{Layout}
use Rattle.layout.specs.Layout.{valid_points, valid_groups, valid_layout}
use Rattle.scale.specs.Scale.{scale_of}
use Rattle.scale.specs.Value.{nearest_float, value_of}
use Rattle.quantization.specs.Code.{code_of_value, code_of}
use Rattle.line.specs.Point.{point_of}
use Rattle.line.specs.Line.{point_code, code_at, codes_of, joined, point_byte, byte_at, packed_of, shared}
use Rattle.line.specs.Group.{group_code, group_byte}
use Rattle.line.specs.Answer.{unpack_answer}
use Rattle.line_values.specs.Encode.{value_code, quantized_of, value_cut, cuts_of, encode_answer}
use Rattle.line_values.specs.Decode.{value_at, values_of, decode_answer}
use Rattle.std.specs.Prelude.{Ok, Err}
use Rattle.refusal.specs.declared.Refusal.TheVariants.{NotANumber, OddCount, Outside, WrongLineOrOutput}
use Rattle.decoding.specs.Point.{first_point, decode_point}

-- Y', Cb, Cr of 10 bits in four bytes, Cb lowest and then Y', narrow range, BT.2020
abbrev ten : Layout
ten = record { model = 2; primaries = 4; range = 1; depth = 10; bytes = 4; offset0 = 10; offset1 = 0; offset2 = 20; sampling = 0 }

-- white with the most Cr and the least Cb, and ones in the two bits that no field uses
abbrev white : List ℕ
white = 64 ∷ 176 ∷ 14 ∷ 252 ∷ []

-- there the codes 1023, 0 and 1020, outside the span that narrow values are clamped to
abbrev outside : List ℕ
outside = 0 ∷ 252 ∷ 207 ∷ 63 ∷ []

-- A1's range of 12 bits in five bytes: the codes 4095, 4093 and 4092
abbrev early : Layout
early = record { model = 2; primaries = 2; range = 3; depth = 12; bytes = 5; offset0 = 0; offset1 = 12; offset2 = 24; sampling = 0 }

abbrev last : List ℕ
last = 255 ∷ 223 ∷ 255 ∷ 252 ∷ 15 ∷ []

-- narrow groups of BT.601 (A6), and 0 and 1.0
abbrev deck : Layout
deck = record { model = 2; primaries = 2; range = 1; depth = 8; bytes = 4; offset0 = 0; offset1 = 0; offset2 = 0; sampling = 1 }

abbrev zero : Float
zero = of_bits binary32 0

abbrev one : Float
one = of_bits binary32 1065353216

-- 1.0, -0.5 and 0.5, and from there the bytes without the two bits; 959/876, -4/7 and 127/224, and from there the codes 1019, 4 and 1019, while packing leaves the codes as they are; then 4095/4096, 2045/4096 and 2044/4096, and from there the code 4092 three times; then lengths that are none of a point, or of a line; then a group decoded, and groups encoded whose second point's colour is no number and no cut; there a Y' that is no number, and values that are cut; an odd count; no single point
examples : (values_of ten white ≡ of_bits binary32 1065353216 ∷ of_bits binary32 3204448256 ∷ of_bits binary32 1056964608 ∷ [])
    × (packed_of ten (quantized_of ten (values_of ten white)) ≡ 64 ∷ 176 ∷ 14 ∷ 60 ∷ [])
    × (decode_point ten white ≡ Ok (record { channel0 = of_bits binary32 1065353216; channel1 = of_bits binary32 3204448256; channel2 = of_bits binary32 1056964608 }))
    × (values_of ten outside ≡ of_bits binary32 1066148027 ∷ of_bits binary32 3205646629 ∷ of_bits binary32 1058088082 ∷ [])
    × (packed_of ten (quantized_of ten (values_of ten outside)) ≡ 4 ∷ 236 ∷ 191 ∷ 63 ∷ [])
    × (packed_of ten (codes_of ten outside) ≡ outside)
    × (values_of early last ≡ of_bits binary32 1065349120 ∷ of_bits binary32 1056940032 ∷ of_bits binary32 1056931840 ∷ [])
    × (packed_of early (quantized_of early (values_of early last)) ≡ 252 ∷ 207 ∷ 255 ∷ 252 ∷ 15 ∷ [])
    × (decode_point ten [] ≡ Err WrongLineOrOutput)
    × (decode_point ten (0 ∷ white) ≡ Err WrongLineOrOutput)
    × (decode_point (record { model = 2; primaries = 4; range = 1; depth = 10; bytes = 4; offset0 = 10; offset1 = 1; offset2 = 20; sampling = 0 }) [] ≡ Err Outside)
    × (decode_answer ten 0 0 ≡ Ok 0)
    × (decode_answer ten 16384 12288 ≡ Ok 4096)
    × (decode_answer ten 16388 12291 ≡ Err WrongLineOrOutput)
    × (values_of deck (128 ∷ 16 ∷ 128 ∷ 235 ∷ []) ≡ zero ∷ zero ∷ zero ∷ one ∷ zero ∷ zero ∷ [])
    × (packed_of deck (quantized_of deck (one ∷ zero ∷ zero ∷ zero ∷ nan ∷ inf false ∷ [])) ≡ 128 ∷ 235 ∷ 128 ∷ 16 ∷ [])
    × (encode_answer deck (one ∷ zero ∷ zero ∷ zero ∷ nan ∷ inf false ∷ []) 4 ≡ Ok (2, 0))
    × (encode_answer deck (one ∷ zero ∷ zero ∷ nan ∷ zero ∷ zero ∷ []) 4 ≡ Err NotANumber)
    × (encode_answer deck (one ∷ inf false ∷ zero ∷ inf true ∷ inf true ∷ zero ∷ []) 4 ≡ Ok (2, 2))
    × (encode_answer deck (one ∷ zero ∷ zero ∷ []) 4 ≡ Err OddCount)
    × (decode_point deck (128 ∷ 16 ∷ 128 ∷ 235 ∷ []) ≡ Err Outside)
unfolding tabulate little valid_points valid_groups valid_layout scale_of nearest_float value_of code_of_value code_of point_of group_code group_byte point_code code_at codes_of joined point_byte byte_at packed_of shared unpack_answer is_nan every count value_cut cuts_of encode_answer value_code quantized_of value_at values_of first_point decode_point round of_bits
examples = (refl, refl, refl, refl, refl, refl, refl, refl, refl, refl, refl, refl, refl, refl, refl, refl, refl, refl, refl, refl, refl)
