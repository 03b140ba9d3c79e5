-- What is claimed of one value: demand 2, in the terms of document 01 and requests A1, A2, A4 and A5, of the definitions that the entries' contracts cite. proofs/Claims.antt proves each but `CodesRise` and `MachineOrders`, which Rising.antt proves. Assumes nothing.
use Rattle.std.specs.Prelude.{ℕ, ◌≤◌, ◌<◌, true, false, ◌≡◌, ◌⊎◌, pos, Float, Ok, Err, Some}
use Rattle.std.specs.Float.{nan, inf, fin, binary32}
use Rattle.std.specs.Float.Ieee.{of_bits, le}
use Rattle.fractions.specs.declared.Clamped.{Clamped}
use Rattle.fractions.specs.Fraction.{clamped}
use Rattle.parameters.specs.Parameters.{range_of, kind_of, top_of}
use Rattle.scale.specs.declared.Scale.{Scale}
use Rattle.scales.specs.Channel.{channel_known_at}
use Rattle.quantization.specs.Code.{code_of}
use Rattle.quantization.specs.Answer.{named, dequantized, quantized}
use Rattle.quantization_laws.specs.Printed.{printed_value, printed_unclamped, printed_low, printed_high, WithinEnds, nearer_end, excluded}
use Rattle.quantization_laws.specs.Nearest.{NearestTo}
use Rattle.quantization_laws.specs.Pattern.{field_of, pattern_value}
use Rattle.refusal.specs.declared.Refusal.TheVariants.{NotANumber}
use Rattle.quantization_laws.specs.Order.{NoHigher}

-- a code of a known channel becomes a float, under the name of its kind, that is the nearest of all floats to the fraction in the paper's line
abbrev pub Dequantizes : Type 0
Dequantizes =
    (model range n channel c : ℕ) → channel_known_at model range n channel ≡ true → c ≤ top_of n
    → (v : Float) × (dequantized model range n channel c ≡ named (kind_of model channel) v) × NearestTo (printed_value (range_of range) (kind_of model channel) n c) v

-- a finite float becomes the number in the paper's line, of the exact value that the paper reads off its bits, clamped to the paper's ends; and the answer says whether that number, rounded as the line says, lay outside them (A4)
abbrev pub Quantizes : Type 0
Quantizes =
    (model range n channel bits : ℕ) → channel_known_at model range n channel ≡ true → field_of bits < 255
    → let r = range_of range in
    quantized model range n channel (of_bits binary32 bits) ≡ Ok (clamped (printed_low r n) (printed_high r n) (printed_unclamped r (kind_of model channel) n (pattern_value bits)))

-- plus infinity becomes the higher end, minus infinity the lower, each cut, and a NaN is refused by 12
abbrev pub QuantizesOthers : Type 0
QuantizesOthers =
    (model range n channel : ℕ) → channel_known_at model range n channel ≡ true
    → (quantized model range n channel (inf false) ≡ Ok (record { code = printed_high (range_of range) n; cut = true }))
    × (quantized model range n channel (inf true) ≡ Ok (record { code = printed_low (range_of range) n; cut = true }))
    × (quantized model range n channel nan ≡ Err NotANumber)

-- no code that quantizing answers lies outside the ends
abbrev pub QuantizesWithinEnds : Type 0
QuantizesWithinEnds = (model range n channel : ℕ) (v : Float) (c : Clamped) → quantized model range n channel v ≡ Ok c → WithinEnds (range_of range) n c.code

-- and a code that was cut is one of them
abbrev pub CutsToAnEnd : Type 0
CutsToAnEnd =
    (model range n channel : ℕ) (v : Float) (c : Clamped) → quantized model range n channel v ≡ Ok c → c.cut ≡ true
    → (c.code ≡ printed_low (range_of range) n) ⊎ (c.code ≡ printed_high (range_of range) n)

-- the code of a known channel whose fraction is 0 becomes plus zero
abbrev pub ZeroIsPlus : Type 0
ZeroIsPlus =
    (model range n channel c : ℕ) → channel_known_at model range n channel ≡ true → c ≤ top_of n
    → (printed_value (range_of range) (kind_of model channel) n c).num ≡ pos 0
    → dequantized model range n channel c ≡ named (kind_of model channel) (fin false 0 (pos 0))

-- whatever float dequantizing a code answers, quantizing it answers the code, clamped to the ends, and cut exactly if it lies outside them;
abbrev pub Returns : Type 0
Returns =
    (model range n channel c : ℕ) (v : Float) → dequantized model range n channel c ≡ named (kind_of model channel) v
    → quantized model range n channel v ≡ Ok (clamped (printed_low (range_of range) n) (printed_high (range_of range) n) (pos c))

-- so every code comes back, and uncut, but those that A1 and A2 leave out,
abbrev pub ReturnsEvery : Type 0
ReturnsEvery =
    (model range n channel c : ℕ) (v : Float) → dequantized model range n channel c ≡ named (kind_of model channel) v
    → excluded (range_of range) n c ≡ false → quantized model range n channel v ≡ Ok (record { code = c; cut = false })

-- which come back as the nearer end, and cut
abbrev pub ReturnsExcluded : Type 0
ReturnsExcluded =
    (model range n channel c : ℕ) (v : Float) → dequantized model range n channel c ≡ named (kind_of model channel) v
    → excluded (range_of range) n c ≡ true → quantized model range n channel v ≡ Ok (record { code = nearer_end (range_of range) n c; cut = true })

-- ---- quantizing never falls as the value rises, infinities included (A5)

-- of two floats in order both have codes, and these are in order: on any scale whose low end is not above its high end,
abbrev pub CodesRise : Type 0
CodesRise =
    (sc : Scale) (x y : Float) → sc.low ≤ sc.high → NoHigher x y
    → (a : Clamped) × (b : Clamped) × (code_of sc x ≡ Some a) × (code_of sc y ≡ Some b) × (a.code ≤ b.code)

-- and so what quantizing answers at every channel of the paper
abbrev pub QuantizingRises : Type 0
QuantizingRises =
    (model range n channel : ℕ) (x y : Float) → channel_known_at model range n channel ≡ true → NoHigher x y
    → (a : Clamped) × (b : Clamped) × (quantized model range n channel x ≡ Ok a) × (quantized model range n channel y ≡ Ok b) × (a.code ≤ b.code)

-- wherever IEEE 754's comparison, the machine's x <= y, is true, the floats are in this order
abbrev pub MachineOrders : Type 0
MachineOrders = (x y : Float) → le x y ≡ true → NoHigher x y
