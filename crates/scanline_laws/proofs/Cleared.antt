-- Packing what was unpacked gives the line with its unused bits cleared. Assumes nothing.
use mathlib.Core.Path.{◌≡◌, sym, ap, ap₂, ◌∙◌}
use mathlib.Core.Bool.{true}
use mathlib.Core.List.{List}
use Prim.Native.Nat.{ℕ, ◌+◌, ◌-◌, ◌*◌, ◌/◌, ◌%◌, ◌^◌, ◌≤◌, ◌<◌}
use native.Mathlib.Nat.{mod-lt, div-add-mod', mul_comm, div-lt_iff_lt-mul, add-zero}
use native.Mathlib.Omega.{arith}
use lib.Bits.{bit_and, bit_or}
use borrow.Author.Tests.{le-leb}
use lib.Dec.{lit<, leb, ltb}
use lib.ListN.{length, get_or, take, drop, length-drop}
use lib.Pow.{pow_pos, ones_lt}
use lib.Seq.{get_or-take, get_or-drop, length-take-le}
use Rattle.lists.specs.Lists.{tabulate, every}
use Rattle.lists.specs.Bytes.{little, byte_of}
use Rattle.lists.proofs.Bytes.{bytes_of-little, get_or-bytes_of}
use Rattle.lists.proofs.Every.{every_at, every_of}
use Rattle.lists.proofs.Lists.{length-tabulate, get_or-tabulate, tabulate_same}
use Rattle.layout.specs.declared.Layout.{Layout}
use Rattle.parameters.specs.Parameters.{top_of}
use Rattle.layout.specs.Layout.{offset_of}
use Rattle.layout.proofs.Facts.{Points as PointFacts, points_say}
use Rattle.line.specs.Point.{bits, point_of, in_place}
use Rattle.line.specs.Line.{joined, point_code, point_byte, codes_within}
use Rattle.line.specs.inner.Points.{point_codes, points_packed}
use Rattle.scanline_laws.proofs.Points.{PackedPoints, used_fields}
use Rattle.line.proofs.Joins.{and_or, or_sum}
use Rattle.line.proofs.Points.{point_count, code_at_lem, point_inside}
use Rattle.scanline_laws.specs.Cleared.{field_bits, used_bits, cleared}
use Rattle.scanline_laws.proofs.Bits.{byte_and, field_ones}

-- k elements from index o on
pub part_length : (s : List ℕ) (o k : ℕ) → o + k ≤ length s → length (take k (drop o s)) ≡ k
part_length s o k h = length-take-le k (drop o s) (rw (length-drop o s) (omega arith))

module _ (l : Layout) (n : ℕ) (s : List ℕ) (p : PackedPoints l n s) where
  abbrev b : ℕ
  b = l.bytes

  pub bytes_pos : 0 < b
  bytes_pos = let r : PointFacts l = points_say l p.valid in omega (arith, r.bytes_least)

  count : length s / b ≡ n
  count = point_count l s n bytes_pos p.points

  pub length-codes : length (point_codes l s) ≡ 3 * n
  length-codes = length-tabulate (3 * (length s / b)) (point_code l s) ∙ ap (λ (m : ℕ). 3 * m) count

  -- code 3 i + j of the line's codes
  code_is : (i j : ℕ) → j < 3 → i < n → get_or (point_codes l s) (3 * i + j) 0 ≡ bits l.depth (offset_of l j) (point_of l s i)
  code_is i j h k = get_or-tabulate (3 * (length s / b)) (point_code l s) (3 * i + j) 0 (omega (arith, count)) ∙ sym (code_at_lem l s i j h)

  -- the three fields of v in their places are the `&` with the used bits
  fields_used : (v : ℕ) → in_place l (bits l.depth l.offset0 v) (bits l.depth l.offset1 v) (bits l.depth l.offset2 v) ≡ bit_and v (used_bits l)
  unfolding field_bits
  fields_used v =
      let m = l.depth in
      let lt : (o : ℕ) → bits m o v < 2 ^ m = λ o. mod-lt (v / 2 ^ o) (pow_pos m) in
      let ones : ℕ → ℕ = λ o. (2 ^ m - 1) * 2 ^ o in
      let x = l.offset0 in
      let y = l.offset1 in
      let z = l.offset2 in
      sym (or_sum l p.valid (bits m x v) (bits m y v) (bits m z v) (lt x) (lt y) (lt z))
      ∙ ap₂ bit_or (field_ones m x v) (ap₂ bit_or (field_ones m y v) (field_ones m z v))
      ∙ ap (bit_or (bit_and v (ones x))) (sym (and_or v (ones y) (ones z)))
      ∙ sym (and_or v (ones x) (bit_or (ones y) (ones z)))
      ∙ ap (bit_and v) (or_sum l p.valid (2 ^ m - 1) (2 ^ m - 1) (2 ^ m - 1) (ones_lt m) (ones_lt m) (ones_lt m))
      ∙ ap (bit_and v) (sym (used_fields l p.valid))

  -- point i, unpacked and joined
  joined_is : (i : ℕ) → i < n → joined l (point_codes l s) i ≡ bit_and (point_of l s i) (used_bits l)
  unfolding joined
  joined_is i k =
      let first : get_or (point_codes l s) (3 * i) 0 ≡ bits l.depth l.offset0 (point_of l s i) =
      ap (λ (m : ℕ). get_or (point_codes l s) m 0) (sym (add-zero (3 * i))) ∙ code_is i 0 (lit< tt) k in
      (λ d. in_place l (first d) (code_is i 1 (lit< tt) k d) (code_is i 2 (lit< tt) k d)) ∙ fields_used (point_of l s i)

  -- byte j of point i
  point_byte_lem : (i j : ℕ) → i < n → j < b → byte_of (point_of l s i) j ≡ get_or s (i * b + j) 0
  unfolding point_of
  point_byte_lem i j k h =
      let part : List ℕ = take b (drop (i * b) s) in
      let inside : i * b + b ≤ length s = omega (arith, point_inside i n b k, p.points, mul_comm b n) in
      let len : length part ≡ b = part_length s (i * b) b inside in
      let at : (a : ℕ) → a < b → get_or part a 0 ≡ get_or s (i * b + a) 0 = λ a q. get_or-take b (drop (i * b) s) a 0 q ∙ get_or-drop (i * b) s a 0 in
      let all : every (λ x. ltb x 256) part ≡ true =
      every_of (λ x. ltb x 256) 0 part (λ a q. let r : a < b = omega arith in let t : i * b + a < length s = omega arith in ap (λ (x : ℕ). ltb x 256) (at a r) ∙ every_at (λ x. ltb x 256) 0 s (i * b + a) p.bytes t) in
      sym (get_or-bytes_of (little part) (length part) j (omega arith)) ∙ ap (λ (xs : List ℕ). get_or xs j 0) (bytes_of-little part all) ∙ at j h

  byte_is : (k : ℕ) → k < length s → point_byte l (point_codes l s) k ≡ bit_and (get_or s k 0) (byte_of (used_bits l) (k % b))
  unfolding point_byte
  byte_is k h =
      let hi : k / b < n = (div-lt_iff_lt-mul bytes_pos).1 (omega (arith, p.points, mul_comm b n)) in
      ap (λ (v : ℕ). byte_of v (k % b)) (joined_is (k / b) hi)
      ∙ byte_and (point_of l s (k / b)) (used_bits l) (k % b)
      ∙ ap (λ (x : ℕ). bit_and x (byte_of (used_bits l) (k % b))) (point_byte_lem (k / b) (k % b) hi (mod-lt k bytes_pos) ∙ ap (λ (m : ℕ). get_or s m 0) (div-add-mod' k b))

  pub pack_unpack : points_packed l (point_codes l s) ≡ cleared l s
  unfolding cleared
  pack_unpack =
      let e : length (point_codes l s) / 3 ≡ n = omega (arith, length-codes) in
      ap (λ (m : ℕ). tabulate m (point_byte l (point_codes l s))) (ap (λ (m : ℕ). b * m) e ∙ sym p.points)
      ∙ tabulate_same 0 (length s) (point_byte l (point_codes l s)) (λ k. bit_and (get_or s k 0) (byte_of (used_bits l) (k % b))) byte_is

  pub codes_small : codes_within l.depth (point_codes l s) ≡ true
  codes_small = every_of (λ c. leb c (top_of l.depth)) 0 (point_codes l s) (λ k h.
      let i = k / 3 in
      let j = k % 3 in
      let e : k ≡ 3 * i + j = omega arith in
      let lt : i < n = omega (arith, length-codes) in
      let v = point_of l s i in
      let o = offset_of l j in
      let c : get_or (point_codes l s) k 0 ≡ bits l.depth o v = ap (λ (m : ℕ). get_or (point_codes l s) m 0) e ∙ code_is i j (omega arith) lt in
      le-leb (get_or (point_codes l s) k 0) (top_of l.depth) (omega (arith, c, mod-lt (v / 2 ^ o) (pow_pos l.depth))))
