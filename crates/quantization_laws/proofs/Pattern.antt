-- The code of a float is that of the exact value that the paper reads off its bit pattern. Assumes nothing.
use mathlib.Core.Path.{◌≡◌, refl, sym, ap, ◌∙◌}
use Prim.Native.Nat.{ℕ, zero, suc, ◌+◌, ◌*◌, ◌^◌, ◌<◌}
use native.Mathlib.Nat.{mul_assoc, mul_left_comm, mul-one, pow-succ'}
use native.Mathlib.Omega.{arith}
use mathlib.Core.Bool.{Bool, true, false, cond}
use lib.Dec.{T, eqb, eqb→eq}
use lib.Pow.{pow_pos}
use lib.Ieee.{nan, inf, binary32, odd, of_fields, of_bits}
use lib.Ieee.Exact.{odd_sign}
use Rattle.scale.specs.declared.Scale.{Scale}
use Rattle.float_scale.specs.inner.Floats.{strictly}
use Rattle.quantization.specs.Code.{code_of_value, code_of}
use Rattle.quantization.proofs.Codes.{whole_code, code_of_fraction, code_of_value_lem, whole_same}
use Rattle.std.specs.Prelude.{Some}
use Rattle.quantization_laws.specs.Pattern.{sign_bit, field_of, digits_of, by_field, pattern_value}

-- a field of 1 to 254
finite : (s : Bool) (t x : ℕ) → suc x < 255 → of_fields binary32 s (suc x) t ≡ odd 24 s (2 ^ 23 + t) x 149
unfolding of_fields
finite s t x h = go (eqb (suc x) 255) (eqb→eq (suc x) 255)
  where
    go : (b : Bool) → (T b → suc x ≡ 255) → cond b (cond (eqb t 0) (inf s) nan) (odd 24 s (2 ^ 23 + t) x 149) ≡ odd 24 s (2 ^ 23 + t) x 149
    go true e = let q : suc x ≡ 255 = e tt in absurd (omega arith)
    go false e = refl

by_field_lem : (sc : Scale) → (strictly sc.rounding ≡ true → sc.low ≡ 0) → (s : Bool) (x t : ℕ) → x < 255 → code_of sc (of_fields binary32 s x t) ≡ Some (code_of_value sc (by_field s x t))
unfolding of_fields
by_field_lem sc z s zero t h =
    code_of_value_lem sc z (odd 24 s t 0 149) s (t * 2 ^ 0) (2 ^ 149) (pow_pos 149) (odd_sign 24 s t 0 149)
    ∙ ap Some (ap (λ (a : ℕ). whole_code sc s a (2 ^ 149)) (mul-one t) ∙ sym (code_of_fraction sc z s t (2 ^ 149) (pow_pos 149)))
by_field_lem sc z s (suc x) t h =
    let q = 2 ^ 23 + t in
    let a = q * 2 ^ x in
    let b = q * 2 ^ suc x in
    let e : a * 2 ^ 150 ≡ b * 2 ^ 149 = sym (twice q (2 ^ x) (2 ^ 149)) ∙ ap (λ (y : ℕ). q * y * 2 ^ 149) (sym (pow-succ' 2 x)) in
    ap (code_of sc) (finite s t x h)
    ∙ code_of_value_lem sc z (odd 24 s q x 149) s a (2 ^ 149) (pow_pos 149) (odd_sign 24 s q x 149)
    ∙ ap Some (whole_same sc s a (2 ^ 149) b (2 ^ 150) (pow_pos 149) (pow_pos 150) e ∙ sym (code_of_fraction sc z s b (2 ^ 150) (pow_pos 150)))
  where
    twice : (q y u : ℕ) → q * (2 * y) * u ≡ q * y * (2 * u)
    twice q y u = ap (λ (z : ℕ). z * u) (mul_left_comm q 2 y) ∙ mul_assoc 2 (q * y) u ∙ mul_left_comm 2 (q * y) u

-- every pattern but those of infinities and NaNs
pub pattern_code : (sc : Scale) → (strictly sc.rounding ≡ true → sc.low ≡ 0) → (bits : ℕ) → field_of bits < 255 → code_of sc (of_bits binary32 bits) ≡ Some (code_of_value sc (pattern_value bits))
unfolding of_bits pattern_value
pattern_code sc z bits h = by_field_lem sc z (sign_bit bits) (field_of bits) (digits_of bits) h
