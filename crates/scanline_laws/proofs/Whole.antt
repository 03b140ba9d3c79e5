-- Where the three fields use every bit, clearing the unused bits changes nothing. Assumes nothing.
use mathlib.Core.Path.{◌≡◌, refl, sym, ap, ◌∙◌}
use mathlib.Core.Bool.{true}
use mathlib.Core.Logic.{◌⊎◌, inl, inr, ⊎_elim}
use mathlib.Core.List.{List}
use Prim.Native.Nat.{ℕ, suc, ◌+◌, ◌-◌, ◌*◌, ◌/◌, ◌%◌, ◌^◌, ◌≤◌, ◌<◌}
use native.Mathlib.Nat.{mod-lt, mod-eq_of_lt, suc-mul}
use native.Mathlib.Omega.{arith}
use borrow.Author.Tests.{leb-true, ltb-true}
use lib.Arith.{digits_div}
use lib.Bits.{bit_and, and_mask}
use lib.Dec.{leb, ltb}
use lib.ListN.{length, get_or}
use lib.Pow.{pow_pos, pow-add, pow_mono, high_ones}
use Rattle.lists.specs.Bytes.{byte_of}
use Rattle.lists.proofs.Bytes.{pow_256}
use Rattle.lists.proofs.Every.{every_at}
use Rattle.lists.proofs.Lists.{is_tabulate}
use Rattle.lists.proofs.Tests.{or_cases}
use Rattle.layout.specs.declared.Layout.{Layout}
use Rattle.layout.specs.Layout.{valid_points, apart}
use Rattle.layout.proofs.Facts.{Points as PointFacts, points_say}
use Rattle.scanline_laws.proofs.Points.{PackedPoints, used_fields}
use Rattle.scanline_laws.specs.Cleared.{field_bits, used_bits, cleared}
use Rattle.scanline_laws.proofs.Cleared.{bytes_pos}

-- m ones at offset o, and the one below them that carries to o + m
ones : (m o t : ℕ) → t ≡ o + m → (2 ^ m - 1) * 2 ^ o + 2 ^ o ≡ 2 ^ t
ones m o t e =
    let le : o ≤ m + o = omega arith in
    let f : m + o ≡ t = omega arith in
    omega (arith, high_ones m o, pow_mono le, ap (λ (k : ℕ). 2 ^ k) f)

-- three fields end to end from bit 0 on
chain : (m x y z t : ℕ) → x ≡ 0 → y ≡ x + m → z ≡ y + m → t ≡ z + m → (2 ^ m - 1) * 2 ^ x + ((2 ^ m - 1) * 2 ^ y + (2 ^ m - 1) * 2 ^ z) + 1 ≡ 2 ^ t
chain m x y z t ex ey ez et = omega (arith, ones m x y ey, ones m y z ez, ones m z t et, ap (λ (k : ℕ). 2 ^ k) ex)

-- a byte of ones
ones_byte : (b j : ℕ) → j < b → byte_of (256 ^ b - 1) j ≡ 255
ones_byte b j h =
    let d : ℕ = b - (j + 1) in
    let p : ℕ = 256 ^ j in
    let a : ℕ = 256 ^ d * 256 - 1 in
    let e : b ≡ d + 1 + j = omega arith in
    let f : 256 ^ b ≡ 256 ^ d * 256 * p = ap (λ (k : ℕ). 256 ^ k) e ∙ pow-add 256 (d + 1) j ∙ ap (λ (k : ℕ). k * p) (pow-add 256 d 1) in
    let up : 0 < 256 ^ d = rw (pow_256 d) (pow_pos (8 * d)) in
    let low : 0 < p = rw (pow_256 j) (pow_pos (8 * j)) in
    let g : 256 ^ d * 256 ≡ suc a = omega arith in
    let k : 256 ^ b ≡ a * p + p = f ∙ ap (λ (x : ℕ). x * p) g ∙ suc-mul a p in
    let v : 256 ^ b - 1 ≡ a * p + (p - 1) = omega arith in
    let w : p - 1 < p = omega arith in
    let q : (256 ^ b - 1) / p ≡ a = ap (λ (x : ℕ). x / p) v ∙ digits_div a w in
    omega arith

-- three fields of m bits that lie apart in 3 m bits lie end to end, in one of the six orders
whole : (m x y z t : ℕ) → 0 < m → 3 * m ≡ t → x + m ≤ t → y + m ≤ t → z + m ≤ t → (x + m ≤ y) ⊎ (y + m ≤ x) → (x + m ≤ z) ⊎ (z + m ≤ x) → (y + m ≤ z) ⊎ (z + m ≤ y)
    → (2 ^ m - 1) * 2 ^ x + ((2 ^ m - 1) * 2 ^ y + (2 ^ m - 1) * 2 ^ z) + 1 ≡ 2 ^ t
whole m x y z t pos e hx hy hz (inl a) (inl b) (inl c) = chain m x y z t (omega arith) (omega arith) (omega arith) (omega arith)
whole m x y z t pos e hx hy hz (inl a) (inl b) (inr c) = omega (arith, chain m x z y t (omega arith) (omega arith) (omega arith) (omega arith))
whole m x y z t pos e hx hy hz (inl a) (inr b) (inl c) = absurd (omega arith)
whole m x y z t pos e hx hy hz (inl a) (inr b) (inr c) = omega (arith, chain m z x y t (omega arith) (omega arith) (omega arith) (omega arith))
whole m x y z t pos e hx hy hz (inr a) (inl b) (inl c) = omega (arith, chain m y x z t (omega arith) (omega arith) (omega arith) (omega arith))
whole m x y z t pos e hx hy hz (inr a) (inl b) (inr c) = absurd (omega arith)
whole m x y z t pos e hx hy hz (inr a) (inr b) (inl c) = omega (arith, chain m y z x t (omega arith) (omega arith) (omega arith) (omega arith))
whole m x y z t pos e hx hy hz (inr a) (inr b) (inr c) = omega (arith, chain m z y x t (omega arith) (omega arith) (omega arith) (omega arith))

sides : (a b m : ℕ) → apart a b m ≡ true → (a + m ≤ b) ⊎ (b + m ≤ a)
sides a b m e = ⊎_elim (λ q. inl (leb-true (a + m) b q)) (λ q. inr (leb-true (b + m) a q)) (or_cases (leb (a + m) b) (leb (b + m) a) e)

module _ (l : Layout) (ok : valid_points l ≡ true) (every-bit : 3 * l.depth ≡ 8 * l.bytes) where
  used_all : used_bits l + 1 ≡ 256 ^ l.bytes
  unfolding field_bits
  used_all =
      let r : PointFacts l = points_say l ok in
      let m = l.depth in
      let x = l.offset0 in
      let y = l.offset1 in
      let z = l.offset2 in
      ap (λ (u : ℕ). u + 1) (used_fields l ok) ∙ whole m x y z (8 * l.bytes) (omega (arith, r.depth_least)) every-bit r.inside0 r.inside1 r.inside2 (sides x y m r.apart01) (sides x z m r.apart02) (sides y z m r.apart12)
      ∙ sym (pow_256 l.bytes)

  pub cleared_same : (n : ℕ) (s : List ℕ) → PackedPoints l n s → cleared l s ≡ s
  unfolding cleared
  cleared_same n s p =
      let b = l.bytes in
      sym (is_tabulate 0 s (length s) (λ k. bit_and (get_or s k 0) (byte_of (used_bits l) (k % b))) refl (λ k h.
      let j : ℕ = k % b in
      let u : used_bits l ≡ 256 ^ b - 1 = omega (arith, used_all) in
      let lt : get_or s k 0 < 256 = ltb-true (get_or s k 0) 256 (every_at (λ x. ltb x 256) 0 s k p.bytes h) in
      sym (ap (bit_and (get_or s k 0)) (ap (λ (v : ℕ). byte_of v j) u ∙ ones_byte b j (mod-lt k (bytes_pos l n s p))) ∙ and_mask (get_or s k 0) 8 ∙ mod-eq_of_lt lt)))
