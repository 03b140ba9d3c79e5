-- Worked examples: the bytes of fields, the codes in them, and what is refused. Assumes nothing.
use Prim.Native.Nat.{ℕ}
use mathlib.Core.Path.{◌≡◌, refl}
use mathlib.Core.List.{List, [], ◌∷◌}
use Rattle.lists.specs.Bytes.{little}
use Rattle.layout.specs.declared.Layout.{Layout}
use Rattle.layout.specs.Layout.{valid_points}
use Rattle.field.specs.Field.{field_of, field_bytes}
use Rattle.std.specs.Prelude.{Ok, Err}
use Rattle.refusal.specs.declared.Refusal.TheVariants.{Outside, WrongLineOrOutput}
use Rattle.field.specs.Answer.{code_answer, bytes_answer}

-- Y', Cb, Cr of 10 bits in four bytes, Cb lowest and then Y', narrow range, BT.2020
abbrev ten : Layout
ten = record { model = 2; primaries = 4; range = 1; depth = 10; bytes = 4; offset0 = 10; offset1 = 0; offset2 = 20; sampling = 0 }

-- the same of 12 bits in eight bytes, each from bit 6 of a byte on, so that three bytes hold it
abbrev twelve : Layout
twelve = record { model = 2; primaries = 4; range = 1; depth = 12; bytes = 8; offset0 = 6; offset1 = 22; offset2 = 38; sampling = 0 }

-- R', G', B' of 8 bits, a byte each, full range, BT.709
abbrev eight : Layout
eight = record { model = 1; primaries = 1; range = 2; depth = 8; bytes = 3; offset0 = 0; offset1 = 8; offset2 = 16; sampling = 0 }

-- white with the most Cr and the least Cb
abbrev white : List ℕ
white = 64 ∷ 176 ∷ 14 ∷ 252 ∷ []

-- where fields lie; the codes of a point from the bytes that hold them; a whole byte; three bytes; then too many bytes, too few, no such channel and no such layout
examples : (bytes_answer ten 0 ≡ Ok (record { first = 1; count = 2; from = 2; bits = 10 }))
    × (bytes_answer ten 2 ≡ Ok (record { first = 2; count = 2; from = 4; bits = 10 }))
    × (bytes_answer twelve 1 ≡ Ok (record { first = 2; count = 3; from = 6; bits = 12 }))
    × (bytes_answer eight 2 ≡ Ok (record { first = 2; count = 1; from = 0; bits = 8 }))
    × (bytes_answer eight 3 ≡ Err Outside)
    × (field_bytes (field_of ten 0) white ≡ 176 ∷ 14 ∷ [])
    × (code_answer ten 0 (176 ∷ 14 ∷ []) ≡ Ok 940)
    × (code_answer ten 1 (64 ∷ 176 ∷ []) ≡ Ok 64)
    × (code_answer ten 2 (14 ∷ 252 ∷ []) ≡ Ok 960)
    × (code_answer eight 1 (200 ∷ []) ≡ Ok 200)
    × (code_answer twelve 1 (63 ∷ 255 ∷ 3 ∷ []) ≡ Ok 4092)
    × (code_answer twelve 1 (63 ∷ 255 ∷ 3 ∷ 0 ∷ []) ≡ Err WrongLineOrOutput)
    × (code_answer twelve 1 (63 ∷ 255 ∷ []) ≡ Err WrongLineOrOutput)
    × (code_answer twelve 3 [] ≡ Err Outside)
    × (code_answer (record { model = 2; primaries = 4; range = 1; depth = 10; bytes = 4; offset0 = 10; offset1 = 1; offset2 = 20; sampling = 0 }) 0 [] ≡ Err Outside)
unfolding little valid_points code_answer bytes_answer
examples = (refl, refl, refl, refl, refl, refl, refl, refl, refl, refl, refl, refl, refl, refl, refl)
