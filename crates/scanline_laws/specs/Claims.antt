-- What is claimed of lines, of the definitions that the contracts of `unpack_line`, `pack_line` and `encode_line` cite. proofs/Claims.antt proves each. Assumes nothing.
use Rattle.std.specs.Prelude.{ℕ, ◌+◌, ◌-◌, ◌*◌, ◌/◌, ◌%◌, ◌≤◌, ◌<◌, Bool, true, false, ◌&&◌, ◌||◌, ◌≡◌, List, [], eqb, Float, length, get_or, Ok, Err}
use Rattle.layout.specs.declared.Layout.{Layout}
use Rattle.layout.specs.Layout.{grouped, whole_groups, valid_groups, valid_layout}
use Rattle.line.specs.Line.{code_at, points_in, codes_of, byte_at, packed_of, looked, shared, PackedLine, CodeLine}
use Rattle.line.specs.Answer.{most_points, odd_points, unpack_answer, pack_answer}
use Rattle.line_values.specs.Encode.{quantized_of}
use Rattle.refusal.specs.declared.Refusal.TheVariants.{OddCount, WrongLineOrOutput}
use Rattle.scanline_laws.specs.Cleared.{cleared}

-- packing what was unpacked clears the unused bits and changes nothing else
abbrev pub PacksWhatWasUnpacked : Type 0
PacksWhatWasUnpacked = (l : Layout) (n : ℕ) (s : List ℕ) → PackedLine l n s → packed_of l (codes_of l s) ≡ cleared l s

-- where every bit is used, it changes nothing at all: of groups (A6), and where the three fields use every bit (of the paper's layouts, 8 bits at 3 bytes a point)
abbrev pub every_bit_used : Layout → Bool
every_bit_used l = grouped l || eqb (3 * l.depth) (8 * l.bytes)

abbrev pub PacksBackWhole : Type 0
PacksBackWhole = (l : Layout) (n : ℕ) (s : List ℕ) → PackedLine l n s → every_bit_used l ≡ true → packed_of l (codes_of l s) ≡ s

-- unpacking what was packed gives the codes, but that both points of a group have its colour, the first's (A6)
abbrev pub UnpacksWhatWasPacked : Type 0
UnpacksWhatWasPacked = (l : Layout) (n : ℕ) (cs : List ℕ) → CodeLine l n cs → codes_of l (packed_of l cs) ≡ shared l 0 cs

-- which is the codes themselves where points are of their own, and where the points of each group have one colour
abbrev pub SharedWhereTheSame : Type 1
SharedWhereTheSame = (A : Type 0) (l : Layout) (d : A) (xs : List A) → ((k : ℕ) → k < length xs → looked l k ≡ false → get_or xs k d ≡ get_or xs (k - 3) d) → shared l d xs ≡ xs

-- the colour of a group's second point is not looked at: lines that differ only there are packed to the same bytes, and answered alike (A6)
abbrev pub PacksWithoutLooking : Type 0
PacksWithoutLooking =
    (l : Layout) (cs ds : List ℕ) → length cs ≡ length ds → ((k : ℕ) → k < length cs → looked l k ≡ true → get_or cs k 0 ≡ get_or ds k 0)
    → (packed_of l cs ≡ packed_of l ds) × ((bytes : ℕ) → pack_answer l cs bytes ≡ pack_answer l ds bytes)

-- A6's words: a group is four bytes Cb, Y', Cr, Y', and both of its points take its colour
abbrev pub ReadsGroups : Type 0
ReadsGroups =
    (l : Layout) (s : List ℕ) (i : ℕ) → grouped l ≡ true
    → let cb = get_or s (4 * i) 0 in
    let cr = get_or s (4 * i + 2) 0 in
    (code_at l s (6 * i) ≡ get_or s (4 * i + 1) 0) × (code_at l s (6 * i + 1) ≡ cb) × (code_at l s (6 * i + 2) ≡ cr)
    × (code_at l s (6 * i + 3) ≡ get_or s (4 * i + 3) 0) × (code_at l s (6 * i + 4) ≡ cb) × (code_at l s (6 * i + 5) ≡ cr)

-- and a group takes the colour of its first point
abbrev pub WritesGroups : Type 0
WritesGroups =
    (l : Layout) (cs : List ℕ) (i : ℕ) → grouped l ≡ true
    → (byte_at l cs (4 * i) ≡ get_or cs (6 * i + 1) 0) × (byte_at l cs (4 * i + 1) ≡ get_or cs (6 * i) 0)
    × (byte_at l cs (4 * i + 2) ≡ get_or cs (6 * i + 2) 0) × (byte_at l cs (4 * i + 3) ≡ get_or cs (6 * i + 3) 0)

-- the count is two points a group, and 2,048 groups are a line of the most points
abbrev pub CountsTwoAGroup : Type 0
CountsTwoAGroup = (l : Layout) (g : ℕ) → valid_groups l ≡ true → g ≤ 2048 → unpack_answer l (4 * g) (6 * g) ≡ Ok (2 * g)

-- row 16 of lines to pack or encode: an odd count of whole points, of groups
abbrev pub OddInNumbers : Type 0
OddInNumbers = (l : Layout) (size : ℕ) → odd_points l size ≡ eqb (size % 3) 0 && (eqb l.sampling 1 && eqb (size / 3 % 2) 1)

-- which is refused so, also one of more than 4,096 (4,097)
abbrev pub RefusesOddCounts : Type 0
RefusesOddCounts = (l : Layout) (g bytes : ℕ) (cs : List ℕ) → valid_groups l ≡ true → length cs ≡ 3 * (2 * g + 1) → pack_answer l cs bytes ≡ Err OddCount

-- and one of more than 4,096 points that is not odd (4,098 of groups) by 13; so are packed bytes of more, or that are not of whole groups, unpacked or decoded
abbrev pub RefusesTooMany : Type 0
RefusesTooMany = (l : Layout) (n bytes : ℕ) (cs : List ℕ) → valid_layout l ≡ true → whole_groups l n ≡ true → most_points < n → length cs ≡ 3 * n → pack_answer l cs bytes ≡ Err WrongLineOrOutput

abbrev pub RefusesTooManyPacked : Type 0
RefusesTooManyPacked = (l : Layout) (bytes codes : ℕ) → valid_layout l ≡ true → most_points < points_in l bytes → unpack_answer l bytes codes ≡ Err WrongLineOrOutput

abbrev pub RefusesPartsOfGroups : Type 0
RefusesPartsOfGroups = (l : Layout) (bytes codes : ℕ) → valid_groups l ≡ true → eqb (bytes % 4) 0 ≡ false → unpack_answer l bytes codes ≡ Err WrongLineOrOutput

-- as is a line that is not of whole points
abbrev pub RefusesPartsOfPoints : Type 0
RefusesPartsOfPoints = (l : Layout) (bytes : ℕ) (cs : List ℕ) → valid_layout l ≡ true → eqb (length cs % 3) 0 ≡ false → pack_answer l cs bytes ≡ Err WrongLineOrOutput

-- each of the two is of the other's kind, with as many points
abbrev pub UnpacksToCodes : Type 0
UnpacksToCodes = (l : Layout) (n : ℕ) (s : List ℕ) → PackedLine l n s → CodeLine l n (codes_of l s)

abbrev pub PacksToBytes : Type 0
PacksToBytes = (l : Layout) (n : ℕ) (cs : List ℕ) → CodeLine l n cs → PackedLine l n (packed_of l cs)

-- and so it is accepted, of up to 4,096 points, into an output as long as the line that it came from
abbrev pub AcceptsWhatWasUnpacked : Type 0
AcceptsWhatWasUnpacked = (l : Layout) (n : ℕ) (s : List ℕ) → PackedLine l n s → n ≤ most_points → pack_answer l (codes_of l s) (length s) ≡ Ok n

abbrev pub AcceptsWhatWasPacked : Type 0
AcceptsWhatWasPacked = (l : Layout) (n : ℕ) (cs : List ℕ) → CodeLine l n cs → n ≤ most_points → unpack_answer l (length (packed_of l cs)) (length cs) ≡ Ok n

-- whatever the codes within the depth, the unused bits of a packed line are zero
abbrev pub PacksUnusedBitsAsZero : Type 0
PacksUnusedBitsAsZero = (l : Layout) (n : ℕ) (cs : List ℕ) → CodeLine l n cs → cleared l (packed_of l cs) ≡ packed_of l cs

-- the codes of values are codes of the depth, so that all this holds of an encoded line too
abbrev pub EncodesToCodes : Type 0
EncodesToCodes = (l : Layout) (n : ℕ) (vs : List Float) → valid_layout l ≡ true → whole_groups l n ≡ true → length vs ≡ 3 * n → CodeLine l n (quantized_of l vs)

-- an empty line counts 0
abbrev pub CountsEmptyLines : Type 0
CountsEmptyLines = (l : Layout) → valid_layout l ≡ true → (unpack_answer l 0 0 ≡ Ok 0) × (pack_answer l [] 0 ≡ Ok 0)
