-- Unpacking what was packed gives the codes again. Assumes nothing.
use mathlib.Core.Path.{◌≡◌, sym, ap, ◌∙◌, subst}
use mathlib.Core.Bool.{true}
use mathlib.Core.List.{List}
use Prim.Native.Nat.{ℕ, zero, suc, ◌+◌, ◌*◌, ◌/◌, ◌%◌, ◌^◌, ◌≤◌, ◌<◌}
use native.Mathlib.Nat.{mul-div_cancel, mul_comm, lt_of_lt_of_le, add-zero}
use native.Mathlib.Omega.{arith}
use borrow.Author.Tests.{lt-ltb}
use lib.Bits.{bit_or, or_lt, or_zero_l, or_zero_r}
use lib.Dec.{lit<, ltb}
use lib.ListN.{length, get_or, take, drop}
use lib.Pow.{pow_mono, shl_lt}
use lib.Seq.{get_or-take, get_or-drop, ext_get_or}
use Rattle.lists.specs.Lists.{tabulate}
use Rattle.lists.specs.Bytes.{are_bytes, little, bytes_of}
use Rattle.lists.proofs.Bytes.{pow_256, little-bytes_of, get_or-bytes_of, length-bytes_of}
use Rattle.lists.proofs.Every.{every_of}
use Rattle.lists.proofs.Lists.{length-tabulate, get_or-tabulate, is_tabulate}
use Rattle.layout.specs.declared.Layout.{Layout}
use Rattle.layout.specs.Layout.{valid_points, offset_of}
use Rattle.layout.proofs.Facts.{Points as PointFacts, points_say}
use Rattle.line.specs.Point.{bits, point_of, in_place}
use Rattle.line.specs.Line.{joined, point_code, point_byte}
use Rattle.line.specs.inner.Points.{point_codes, points_packed}
use Rattle.scanline_laws.proofs.Points.{CodePoints}
use Rattle.line.proofs.Joins.{or_sum}
use Rattle.line.proofs.Points.{code_lt, byte_at_lem, point_inside}
use Rattle.scanline_laws.proofs.Bits.{own, other, turned, bits_or3}
use Rattle.scanline_laws.proofs.Cleared.{part_length}

-- three codes in their places: each field holds its code, and the number has no more bits than the point
module _ (l : Layout) (ok : valid_points l ≡ true) (a b c : ℕ) (ha : a < 2 ^ l.depth) (hb : b < 2 ^ l.depth) (hc : c < 2 ^ l.depth) where
  abbrev m : ℕ
  m = l.depth

  abbrev r : PointFacts l
  r = points_say l ok

  field0 : bits m l.offset0 (in_place l a b c) ≡ a
  field0 =
      ap (bits m l.offset0) (sym (or_sum l ok a b c ha hb hc))
      ∙ bits_or3 m l.offset0 _ _ _ (own m _ a ha) (other m l.offset1 _ b hb (turned l.offset0 l.offset1 m r.apart01)) (other m l.offset2 _ c hc (turned l.offset0 l.offset2 m r.apart02))
      ∙ or_zero_r a

  field1 : bits m l.offset1 (in_place l a b c) ≡ b
  field1 =
      ap (bits m l.offset1) (sym (or_sum l ok a b c ha hb hc))
      ∙ bits_or3 m l.offset1 _ _ _ (other m l.offset0 _ a ha r.apart01) (own m _ b hb) (other m l.offset2 _ c hc (turned l.offset1 l.offset2 m r.apart12))
      ∙ or_zero_l (bit_or b 0) ∙ or_zero_r b

  field2 : bits m l.offset2 (in_place l a b c) ≡ c
  field2 =
      ap (bits m l.offset2) (sym (or_sum l ok a b c ha hb hc))
      ∙ bits_or3 m l.offset2 _ _ _ (other m l.offset0 _ a ha r.apart02) (other m l.offset1 _ b hb r.apart12) (own m _ c hc)
      ∙ or_zero_l (bit_or 0 c) ∙ or_zero_l c

  in_place_lt : in_place l a b c < 256 ^ l.bytes
  in_place_lt =
      let w : ℕ = 8 * l.bytes in
      let each : (o x : ℕ) → x < 2 ^ m → o + m ≤ w → x * 2 ^ o < 2 ^ w = λ o x h k. let le : m + o ≤ w = omega arith in lt_of_lt_of_le (shl_lt m o h) (pow_mono le) in
      subst (λ (t : ℕ). in_place l a b c < t) (sym (pow_256 l.bytes))
      (subst (λ (t : ℕ). t < 2 ^ w) (or_sum l ok a b c ha hb hc)
      (or_lt w _ _ (each l.offset0 a ha r.inside0) (or_lt w _ _ (each l.offset1 b hb r.inside1) (each l.offset2 c hc r.inside2))))

module _ (l : Layout) (n : ℕ) (cs : List ℕ) (p : CodePoints l n cs) where
  small : (i j : ℕ) → j < 3 → i < n → get_or cs (3 * i + j) 0 < 2 ^ l.depth
  small i j h k = code_lt l cs (3 * i + j) p.codes (omega (arith, p.points))

  small0 : (i : ℕ) → i < n → get_or cs (3 * i) 0 < 2 ^ l.depth
  small0 i k = rw add-zero at (small i 0 (lit< tt) k)

  joined_lt : (i : ℕ) → i < n → joined l cs i < 256 ^ l.bytes
  unfolding joined
  joined_lt i k = in_place_lt l p.valid _ _ _ (small0 i k) (small i 1 (lit< tt) k) (small i 2 (lit< tt) k)

  -- a field of a point's number is its code
  joined_field : (i j : ℕ) → i < n → j < 3 → bits l.depth (offset_of l j) (joined l cs i) ≡ get_or cs (3 * i + j) 0
  unfolding joined
  joined_field i zero k h = field0 l p.valid _ _ _ (small0 i k) (small i 1 (lit< tt) k) (small i 2 (lit< tt) k) ∙ ap (λ (t : ℕ). get_or cs t 0) (sym (add-zero (3 * i)))
  joined_field i (suc zero) k h = field1 l p.valid _ _ _ (small0 i k) (small i 1 (lit< tt) k) (small i 2 (lit< tt) k)
  joined_field i (suc (suc zero)) k h = field2 l p.valid _ _ _ (small0 i k) (small i 1 (lit< tt) k) (small i 2 (lit< tt) k)
  joined_field i (suc (suc (suc j))) k h = absurd (omega arith)

  third : length cs / 3 ≡ n
  third = omega (arith, p.points)

  pub length-packed : length (points_packed l cs) ≡ l.bytes * n
  length-packed = length-tabulate (l.bytes * (length cs / 3)) (point_byte l cs) ∙ ap (λ (t : ℕ). l.bytes * t) third

  packed_at : (k : ℕ) → k < l.bytes * n → get_or (points_packed l cs) k 0 ≡ point_byte l cs k
  packed_at k h = get_or-tabulate (l.bytes * (length cs / 3)) (point_byte l cs) k 0 (subst (λ (t : ℕ). k < l.bytes * t) (sym third) h)

  pub packed-bytes : are_bytes (points_packed l cs) ≡ true
  unfolding point_byte
  packed-bytes = every_of (λ b. ltb b 256) 0 (points_packed l cs) (λ k h.
      let e = packed_at k (omega (arith, length-packed)) in
      lt-ltb (get_or (points_packed l cs) k 0) 256 (omega (arith, e)))

  -- point i of the packed line
  point_is : (i : ℕ) → i < n → point_of l (points_packed l cs) i ≡ joined l cs i
  unfolding point_of
  point_is i k =
      let b : ℕ = l.bytes in
      let v : ℕ = joined l cs i in
      let part : List ℕ = take b (drop (i * b) (points_packed l cs)) in
      let inside : i * b + b ≤ b * n = omega (arith, point_inside i n b k, mul_comm b n) in
      let len : length part ≡ b = part_length (points_packed l cs) (i * b) b (omega (arith, length-packed)) in
      let same : part ≡ bytes_of v b =
      ext_get_or 0 part (bytes_of v b) (len ∙ sym (length-bytes_of v b))
      (λ j h. let q : j < b = omega arith in
      get_or-take b (drop (i * b) (points_packed l cs)) j 0 q ∙ get_or-drop (i * b) (points_packed l cs) j 0 ∙ packed_at (i * b + j) (omega arith)
      ∙ ap (point_byte l cs) (ap (λ (t : ℕ). t + j) (mul_comm i b)) ∙ sym (byte_at_lem l cs i j q) ∙ sym (get_or-bytes_of v b j q)) in
      ap little same ∙ little-bytes_of v b (joined_lt i k)

  pub unpack_pack : point_codes l (points_packed l cs) ≡ cs
  unfolding point_code
  unpack_pack =
      let r : PointFacts l = points_say l p.valid in
      let pos : 0 < l.bytes = omega (arith, r.bytes_least) in
      let e : length (points_packed l cs) / l.bytes ≡ n = ap (λ (t : ℕ). t / l.bytes) (length-packed ∙ mul_comm l.bytes n) ∙ mul-div_cancel n pos in
      ap (λ (t : ℕ). tabulate (3 * t) (point_code l (points_packed l cs))) e
      ∙ sym (is_tabulate 0 cs (3 * n) (point_code l (points_packed l cs)) p.points (λ k h.
      let hi : k / 3 < n = omega arith in
      let e : k ≡ 3 * (k / 3) + k % 3 = omega arith in
      ap (λ (t : ℕ). get_or cs t 0) e ∙ sym (joined_field (k / 3) (k % 3) hi (omega arith)) ∙ ap (bits l.depth (offset_of l (k % 3))) (sym (point_is (k / 3) hi))))
