-- What is claimed of fields, of the definitions that the contracts of `field_code` and `field_bytes` cite. proofs/Claims.antt proves each. Assumes nothing.
use Rattle.std.specs.Prelude.{ℕ, ◌+◌, ◌-◌, ◌*◌, ◌≤◌, ◌<◌, true, false, ◌≡◌, List, eqb, length, take, drop, Ok, Err}
use Rattle.lists.specs.Bytes.{are_bytes, little}
use Rattle.layout.specs.declared.Layout.{Layout}
use Rattle.parameters.specs.Parameters.{top_of}
use Rattle.layout.specs.Layout.{offset_of, grouped}
use Rattle.line.specs.Point.{bits}
use Rattle.line.specs.Line.{code_at, PackedLine}
use Rattle.field.specs.Field.{field_of, field_bytes}
use Rattle.refusal.specs.declared.Refusal.TheVariants.{Outside, WrongLineOrOutput}
use Rattle.field.specs.Answer.{field_known, code_answer, bytes_answer}

-- one to three bytes hold a field, all of them in the point
abbrev pub HoldsInOneToThreeBytes : Type 0
HoldsInOneToThreeBytes =
    (l : Layout) (channel : ℕ) → field_known l channel ≡ true
    → let f = field_of l channel in
    (1 ≤ f.count) × (f.count ≤ 3) × (f.first + f.count ≤ l.bytes)

-- all bits of the field lie in them, its first bit in the first and its last bit in the last: no byte could be left out, and no byte more is needed (there is at least one, so that nothing is taken from 0)
abbrev pub HoldsAllAndOnlyTheField : Type 0
HoldsAllAndOnlyTheField =
    (l : Layout) (channel : ℕ) → field_known l channel ≡ true
    → let f = field_of l channel in
    let o = offset_of l channel in
    (8 * f.first ≤ o) × (o < 8 * (f.first + 1)) × (8 * (f.first + f.count - 1) < o + l.depth) × (o + l.depth ≤ 8 * (f.first + f.count))

-- the code in them is the field of the point's number, as before
abbrev pub ReadsTheFieldOfThePoint : Type 0
ReadsTheFieldOfThePoint =
    (l : Layout) (channel : ℕ) (point : List ℕ) → field_known l channel ≡ true → are_bytes point ≡ true → length point ≡ l.bytes
    → code_answer l channel (field_bytes (field_of l channel) point) ≡ Ok (bits l.depth (offset_of l channel) (little point))

-- so the code of a line of points of their own at a point and a channel is the answer for that point's bytes of the field
abbrev pub ReadsEachCodeOfALine : Type 0
ReadsEachCodeOfALine =
    (l : Layout) (n : ℕ) (s : List ℕ) → PackedLine l n s → grouped l ≡ false → (i channel : ℕ) → i < n → channel < 3
    → let point = take l.bytes (drop (i * l.bytes) s) in
    code_answer l channel (field_bytes (field_of l channel) point) ≡ Ok (code_at l s (3 * i + channel))

-- any other number of bytes is refused by 13
abbrev pub RefusesOtherLengths : Type 0
RefusesOtherLengths =
    (l : Layout) (channel : ℕ) (bytes : List ℕ) → field_known l channel ≡ true → eqb (length bytes) (field_of l channel).count ≡ false
    → code_answer l channel bytes ≡ Err WrongLineOrOutput

-- and no code that is answered is above the highest of n bits
abbrev pub ReadsCodesOfTheDepth : Type 0
ReadsCodesOfTheDepth = (l : Layout) (channel c : ℕ) (bytes : List ℕ) → code_answer l channel bytes ≡ Ok c → c ≤ top_of l.depth

-- of groups every question is refused by 9 (A6)
abbrev pub RefusesGroups : Type 0
RefusesGroups = (l : Layout) (channel : ℕ) (bytes : List ℕ) → grouped l ≡ true → (code_answer l channel bytes ≡ Err Outside) × (bytes_answer l channel ≡ Err Outside)
