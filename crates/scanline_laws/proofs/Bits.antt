-- Bytes and fields of a number, by its bits. Assumes nothing.
use mathlib.Core.Path.{◌≡◌, sym, ap, ap₂, ◌∙◌}
use mathlib.Core.Bool.{true, or_comm}
use mathlib.Core.Logic.{inl, inr}
use Prim.Native.Nat.{ℕ, ◌+◌, ◌-◌, ◌*◌, ◌/◌, ◌%◌, ◌^◌, ◌≤◌, ◌<◌}
use native.Mathlib.Nat.{mod-eq_of_lt, div-eq_of_lt, mul_assoc, mul-mod_left, zero-mod, lt_of_lt_of_le}
use native.Mathlib.Omega.{arith}
use borrow.Author.Tests.{leb-true}
use lib.Bits.{bit_and, bit_or, and_high, and_shr, and_mod, or_shr, or_mod}
use lib.Dec.{leb}
use lib.Pow.{pow-add, pow_mono, high_ones, shl_lt, shl-shr}
use Rattle.lists.specs.Bytes.{byte_of}
use Rattle.lists.proofs.Bytes.{pow_256}
use Rattle.lists.proofs.Tests.{or_cases}
use Rattle.layout.specs.Layout.{apart}
use Rattle.line.specs.Point.{bits}

-- a byte of an `&` is the `&` of the bytes
pub byte_and : (v m j : ℕ) → byte_of (bit_and v m) j ≡ bit_and (byte_of v j) (byte_of m j)
byte_and v m j = rw (pow_256 j) (ap (λ (x : ℕ). x % 256) (and_shr v m (8 * j)) ∙ and_mod (v / 2 ^ (8 * j)) (m / 2 ^ (8 * j)) 8)

-- a field in its place is the `&` with ones there
pub field_ones : (n o v : ℕ) → bits n o v * 2 ^ o ≡ bit_and v ((2 ^ n - 1) * 2 ^ o)
field_ones n o v = sym (ap (bit_and v) (sym (high_ones n o)) ∙ and_high v n o)

-- a code at its offset: its own field holds it, and a field that lies apart holds nothing of it
pub own : (n a x : ℕ) → x < 2 ^ n → bits n a (x * 2 ^ a) ≡ x
own n a x h = ap (λ (m : ℕ). m % 2 ^ n) (shl-shr x a) ∙ mod-eq_of_lt h

pub other : (n a b x : ℕ) → x < 2 ^ n → apart a b n ≡ true → bits n b (x * 2 ^ a) ≡ 0
other n a b x h e = elim (or_cases (leb (a + n) b) (leb (b + n) a) e) [
  | inl q ↦
      let le : n + a ≤ b = omega (arith, leb-true (a + n) b q) in
      ap (λ (m : ℕ). m % 2 ^ n) (div-eq_of_lt (lt_of_lt_of_le (shl_lt n a h) (pow_mono le))) ∙ zero-mod (2 ^ n)
  | inr q ↦
      let le : b + n ≤ a = leb-true (b + n) a q in
      let d : ℕ = a - (b + n) in
      let ea : a ≡ d + n + b = omega arith in
      let p : x * 2 ^ a ≡ x * 2 ^ d * 2 ^ n * 2 ^ b =
      ap (λ (m : ℕ). x * 2 ^ m) ea ∙ ap (λ (m : ℕ). x * m) (pow-add 2 (d + n) b ∙ ap (λ (m : ℕ). m * 2 ^ b) (pow-add 2 d n))
      ∙ sym (mul_assoc x (2 ^ d * 2 ^ n) (2 ^ b)) ∙ ap (λ (m : ℕ). m * 2 ^ b) (sym (mul_assoc x (2 ^ d) (2 ^ n))) in
      ap (λ (m : ℕ). m / 2 ^ b % 2 ^ n) p ∙ ap (λ (m : ℕ). m % 2 ^ n) (shl-shr (x * 2 ^ d * 2 ^ n) b) ∙ mul-mod_left (x * 2 ^ d) (2 ^ n)
]

pub turned : (a b n : ℕ) → apart a b n ≡ true → apart b a n ≡ true
turned a b n e = or_comm (leb (b + n) a) (leb (a + n) b) ∙ e

-- a field of three numbers joined by `|`
bits_or : (n o x y : ℕ) → bits n o (bit_or x y) ≡ bit_or (bits n o x) (bits n o y)
bits_or n o x y = ap (λ (m : ℕ). m % 2 ^ n) (or_shr x y o) ∙ or_mod (x / 2 ^ o) (y / 2 ^ o) n

pub bits_or3 : (n o x y z : ℕ) {u v w : ℕ} → bits n o x ≡ u → bits n o y ≡ v → bits n o z ≡ w → bits n o (bit_or x (bit_or y z)) ≡ bit_or u (bit_or v w)
bits_or3 n o x y z ex ey ez = bits_or n o x (bit_or y z) ∙ ap₂ bit_or ex (bits_or n o y z ∙ ap₂ bit_or ey ez)
