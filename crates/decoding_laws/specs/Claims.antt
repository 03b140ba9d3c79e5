-- What is claimed of decoding and encoding, of the definitions that the contracts of `decode_line`, `encode_line` and `decode_point` cite. proofs/Claims.antt proves each. Assumes nothing.
use Rattle.std.specs.Prelude.{ℕ, ◌+◌, ◌*◌, ◌%◌, ◌≤◌, ◌<◌, Bool, true, false, not, ◌&&◌, ◌≡◌, List, [], map, eqb, Float, length, get_or, Result, Ok, Err}
use Rattle.std.specs.Float.{nan}
use Rattle.lists.specs.Lists.{every, count}
use Rattle.fractions.specs.Fraction.{bounded}
use Rattle.layout.specs.declared.Layout.{Layout}
use Rattle.parameters.specs.Parameters.{range_of, kind_of}
use Rattle.layout.specs.Layout.{grouped, whole_groups, valid_groups, valid_layout}
use Rattle.quantization.specs.Answer.{named, dequantized, quantized}
use Rattle.quantization_laws.specs.Printed.{printed_low, printed_high, WithinEnds, excluded}
use Rattle.line.specs.Line.{code_at, codes_of, bytes_for, packed_of, looked, shared, point_values, PackedLine}
use Rattle.line.specs.Answer.{most_points}
use Rattle.line_values.specs.Encode.{quantized_of, value_cut, all_numbers, encode_answer, encode_output, encode_point_answer}
use Rattle.line_values.specs.Decode.{values_of, decode_answer, decode_output}
use Rattle.decoding.specs.Point.{decode_point}
use Rattle.scanline_laws.specs.Cleared.{cleared}
use Rattle.refusal.specs.declared.Refusal.TheVariants.{OddCount, Outside, WrongLineOrOutput}
use Rattle.refusal.specs.declared.Refusal.{Refusal}
use Rattle.fractions.specs.declared.Clamped.{Clamped}
use Rattle.parameters.specs.declared.channels.Channels.{Channels}
use Rattle.scanline_laws.specs.Claims.{every_bit_used}

-- a code clamped to the ends of its channel, which are those of the layout's range
abbrev pub clamped_to : Layout → ℕ → ℕ
clamped_to l c = bounded (printed_low (range_of l.range) l.depth) (printed_high (range_of l.range) l.depth) c

-- no code is one of those that A1 and A2 leave out of the return
abbrev pub none_excluded : Layout → List ℕ → Bool
none_excluded l codes = every (λ c. not (excluded (range_of l.range) l.depth c)) codes

-- any captured line, of up to 4,096 points, is decoded into three floats a point
abbrev pub DecodesLines : Type 0
DecodesLines = (l : Layout) (n : ℕ) (s : List ℕ) → PackedLine l n s → n ≤ most_points → decode_answer l (length s) (3 * n) ≡ Ok n

-- which then hold its values
abbrev pub LeavesValues : Type 0
LeavesValues = (l : Layout) (n : ℕ) (s : List ℕ) → PackedLine l n s → n ≤ most_points → (before : List Float) → length before ≡ 3 * n → decode_output l s before ≡ values_of l s

-- and into any other number of floats it is refused by 13
abbrev pub RefusesOtherOutputs : Type 0
RefusesOtherOutputs = (l : Layout) (n : ℕ) (s : List ℕ) → PackedLine l n s → (floats : ℕ) → eqb floats (3 * n) ≡ false → decode_answer l (length s) floats ≡ Err WrongLineOrOutput

-- its values are three a point, and each is the float that dequantizing its code answers
abbrev pub DecodesEachCode : Type 0
DecodesEachCode =
    (l : Layout) (n : ℕ) (s : List ℕ) → PackedLine l n s
    → (length (values_of l s) ≡ 3 * n)
    × ((k : ℕ) → k < 3 * n → dequantized l.model l.range l.depth (k % 3) (code_at l s k) ≡ named (kind_of l.model (k % 3)) (get_or (values_of l s) k nan))

-- what quantizing value k of a line answers
abbrev pub quantized_at : Layout → List Float → ℕ → Result Clamped Refusal
quantized_at l vs k = quantized l.model l.range l.depth (k % 3) (get_or vs k nan)

-- whether an answer says that the value was cut
abbrev pub says_cut : Result Clamped Refusal → Bool
says_cut (Ok c) = c.cut
says_cut (Err k) = false

-- a line of values that can be encoded: three a point, whole groups (A6), and each that is looked at a number
pub record ValueLine (l : Layout) (n : ℕ) (vs : List Float) : Type 0 where
  pub valid : valid_layout l ≡ true
  pub whole : whole_groups l n ≡ true
  pub numbers : all_numbers (shared l nan vs) ≡ true
  pub points : length vs ≡ 3 * n

-- each code of an encoded line is what quantizing its value answers, and a value is cut where that answer says so (A4), wherever it is looked at (A6)
abbrev pub EncodesEachValue : Type 0
EncodesEachValue =
    (l : Layout) (n : ℕ) (vs : List Float) → ValueLine l n vs
    → let s = packed_of l (quantized_of l vs) in
    PackedLine l n s × ((k : ℕ) → k < 3 * n → looked l k ≡ true → quantized_at l vs k ≡ Ok (record { code = code_at l s k; cut = value_cut l vs k }))

-- and the number of cuts that encoding answers beside the count of points is the number of places in the line where it says so (A4), and that are looked at (A6)
abbrev pub CountsEachCut : Type 0
CountsEachCut =
    (l : Layout) (n : ℕ) (vs : List Float) → ValueLine l n vs → n ≤ most_points
    → encode_answer l vs (bytes_for l n) ≡ Ok (n, count (3 * n) (λ k. looked l k && says_cut (quantized_at l vs k)))

-- so no code of an encoded line lies outside the ends
abbrev pub EncodesWithinEnds : Type 0
EncodesWithinEnds =
    (l : Layout) (n : ℕ) (vs : List Float) → ValueLine l n vs
    → (k : ℕ) → k < 3 * n → WithinEnds (range_of l.range) l.depth (code_at l (packed_of l (quantized_of l vs)) k)

-- encoding what was decoded finds the codes again, each clamped to its channel's ends,
abbrev pub QuantizesWhatWasDecoded : Type 0
QuantizesWhatWasDecoded = (l : Layout) (n : ℕ) (s : List ℕ) → PackedLine l n s → quantized_of l (values_of l s) ≡ map (clamped_to l) (codes_of l s)

-- and packs them, with zeros in the unused bits
abbrev pub EncodesWhatWasDecoded : Type 0
EncodesWhatWasDecoded =
    (l : Layout) (n : ℕ) (s : List ℕ) → PackedLine l n s
    → let t = packed_of l (map (clamped_to l) (codes_of l s)) in
    (packed_of l (quantized_of l (values_of l s)) ≡ t) × (cleared l t ≡ t)

-- any captured line of up to 4,096 points, decoded into three floats a point and then encoded into as many bytes, is accepted both times with its count of points, and its codes come back, each clamped to its channel's ends, whatever the two outputs held before; cut are exactly those that A1 and A2 leave out of the return, a group's colour once (A6)
abbrev pub AnyLineComesBack : Type 0
AnyLineComesBack =
    (l : Layout) (n : ℕ) (s : List ℕ) → PackedLine l n s → n ≤ most_points
    → (floats : List Float) (bytes : List ℕ) → length floats ≡ 3 * n → length bytes ≡ length s
    → let decoded = decode_output l s floats in
    (decode_answer l (length s) (length floats) ≡ Ok n)
    × (encode_answer l decoded (length bytes) ≡ Ok (n, count (3 * n) (λ k. looked l k && excluded (range_of l.range) l.depth (code_at l s k))))
    × (encode_output l decoded bytes ≡ packed_of l (map (clamped_to l) (codes_of l s)))

-- demand 2's last sentence, but for the codes that A1 and A2 leave out of it: a line with none of them returns, its unused bits cleared
abbrev pub AnyLineReturns : Type 0
AnyLineReturns =
    (l : Layout) (n : ℕ) (s : List ℕ) → PackedLine l n s → n ≤ most_points → none_excluded l (codes_of l s) ≡ true
    → (floats : List Float) (bytes : List ℕ) → length floats ≡ 3 * n → length bytes ≡ length s
    → encode_output l (decode_output l s floats) bytes ≡ cleared l s

-- where every bit is used, as of groups (A6), it returns as it was
abbrev pub WholeLinesReturn : Type 0
WholeLinesReturn =
    (l : Layout) (n : ℕ) (s : List ℕ) → PackedLine l n s → n ≤ most_points → every_bit_used l ≡ true → none_excluded l (codes_of l s) ≡ true
    → (floats : List Float) (bytes : List ℕ) → length floats ≡ 3 * n → length bytes ≡ length s
    → encode_output l (decode_output l s floats) bytes ≡ s

-- encoding refuses by 16 and by 13 as packing does: of groups an odd count of whole points by 16, and any line of more than 4,096 points that is not odd, or that is not of whole points, by 13
abbrev pub RefusesOddCounts : Type 0
RefusesOddCounts = (l : Layout) (g bytes : ℕ) (vs : List Float) → valid_groups l ≡ true → length vs ≡ 3 * (2 * g + 1) → encode_answer l vs bytes ≡ Err OddCount

abbrev pub RefusesTooMany : Type 0
RefusesTooMany = (l : Layout) (n bytes : ℕ) (vs : List Float) → valid_layout l ≡ true → whole_groups l n ≡ true → most_points < n → length vs ≡ 3 * n → encode_answer l vs bytes ≡ Err WrongLineOrOutput

abbrev pub RefusesPartsOfPoints : Type 0
RefusesPartsOfPoints = (l : Layout) (bytes : ℕ) (vs : List Float) → valid_layout l ≡ true → eqb (length vs % 3) 0 ≡ false → encode_answer l vs bytes ≡ Err WrongLineOrOutput

-- an empty line counts 0, and no cut
abbrev pub CountsEmptyLines : Type 0
CountsEmptyLines = (l : Layout) → valid_layout l ≡ true → (decode_answer l 0 0 ≡ Ok 0) × (encode_answer l [] 0 ≡ Ok (0, 0))

-- decoding one point is decoding a line into three floats: where the line is accepted, it is of one point, and the point's values are the line's
abbrev pub DecodesPointAsLine : Type 0
DecodesPointAsLine =
    (l : Layout) (s : List ℕ) (n : ℕ) → decode_answer l (length s) 3 ≡ Ok n
    → (n ≡ 1) × (p : Channels Float) × (decode_point l s ≡ Ok p) × (point_values p ≡ values_of l s)

-- and where the line is refused, the point is refused by the same number
abbrev pub RefusesPointAsLine : Type 0
RefusesPointAsLine = (l : Layout) (s : List ℕ) (k : Refusal) → grouped l ≡ false → decode_answer l (length s) 3 ≡ Err k → decode_point l s ≡ Err k

-- of groups there is no single point: 9 (A6)
abbrev pub RefusesPointsOfGroups : Type 0
RefusesPointsOfGroups = (l : Layout) (s : List ℕ) (p : Channels Float) (bytes : ℕ) → grouped l ≡ true → (decode_point l s ≡ Err Outside) × (encode_point_answer l p bytes ≡ Err Outside)

-- the colour of a group's second point is not looked at: lines of values that differ only there are encoded to the same bytes, and answered alike, whatever stands there (A6)
abbrev pub EncodesWithoutLooking : Type 0
EncodesWithoutLooking =
    (l : Layout) (vs ws : List Float) → length vs ≡ length ws → ((k : ℕ) → k < length vs → looked l k ≡ true → get_or vs k nan ≡ get_or ws k nan)
    → (packed_of l (quantized_of l vs) ≡ packed_of l (quantized_of l ws)) × ((bytes : ℕ) → encode_answer l vs bytes ≡ encode_answer l ws bytes)
