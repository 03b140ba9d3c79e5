-- A line of points or groups, part by part: its codes, its packed bytes, and its conversion. Assumes nothing.
use mathlib.Core.Path.{◌≡◌, refl, sym, ap, ap₂, ◌∙◌, subst}
use mathlib.Core.Bool.{true}
use mathlib.Core.Logic.{inl, inr}
use mathlib.Core.List.{List, ◌++◌}
use Prim.Native.Nat.{ℕ, zero, suc, ◌+◌, ◌*◌, ◌/◌, ◌%◌, ◌≤◌, ◌<◌}
use native.Mathlib.Nat.{mul_comm, add-mul, mul-add-div, mul-add-mod_self_left, mul-le-mul_right, div-lt_iff_lt-mul}
use native.Mathlib.Omega.{arith}
use lib.Dec.{lit<}
use lib.ListN.{length, get_or, take, drop, length-drop, get_or-append}
use lib.Seq.{take-append-le, drop-append-le, drop-append-add, get_or-append-add}
use Rattle.lists.specs.Bytes.{little, byte_of}
use Rattle.lists.proofs.Tests.{or_cases}
use Rattle.layout.specs.declared.Layout.{Layout}
use Rattle.layout.specs.Layout.{offset_of, points_each, valid_points, valid_groups, valid_layout}
use Rattle.layout.proofs.Facts.{points_say, groups_say, not_grouped, groups_grouped, one_each, two_each}
use Rattle.line.specs.Point.{bits, point_of, in_place}
use Rattle.line.specs.Group.{byte_of_code, group_code}
use Rattle.line.specs.Line.{point_code, codes_of, joined, point_byte, packed_of}
use Rattle.line.specs.inner.Points.{point_codes, points_packed}
use Rattle.line.specs.inner.Groups.{group_codes}
use Rattle.line.proofs.Own.{own_codes, own_packed}
use Rattle.line.proofs.Grouped.{group_codes_lem}
use Rattle.color_equations.specs.Line.{Converter, converted_at, converted_of}
use Rattle.parts.proofs.Parts.{Parts, parts_same, parts_table, whole-none, whole_more}

-- ---- the elements of two lists joined

module _ (s t : List ℕ) where
  in_front : (k : ℕ) → k < length s → get_or (s ++ t) k 0 ≡ get_or s k 0
  in_front k h = get_or-append s t 0 k h

  behind : (m k : ℕ) → length s ≡ m → get_or (s ++ t) (m + k) 0 ≡ get_or t k 0
  behind m k e = ap (λ (x : ℕ). get_or (s ++ t) (x + k) 0) (sym e) ∙ get_or-append-add s t k 0

  -- the codes of a point of the second
  third : (i p j : ℕ) → length s ≡ 3 * i → get_or (s ++ t) (3 * (i + p) + j) 0 ≡ get_or t (3 * p + j) 0
  third i p j e =
      let z : 3 * (i + p) + j ≡ 3 * i + (3 * p + j) = omega arith in
      ap (λ (x : ℕ). get_or (s ++ t) x 0) z ∙ behind (3 * i) (3 * p + j) e

  first : (i p : ℕ) → length s ≡ 3 * i → get_or (s ++ t) (3 * (i + p)) 0 ≡ get_or t (3 * p) 0
  first i p e =
      let z : 3 * (i + p) ≡ 3 * i + 3 * p = omega arith in
      ap (λ (x : ℕ). get_or (s ++ t) x 0) z ∙ behind (3 * i) (3 * p) e

-- ---- packed points, unpacked

module _ (l : Layout) (ok : valid_points l ≡ true) where
  abbrev b : ℕ
  b = l.bytes

  some : 0 < b
  some = omega (arith, (points_say l ok).bytes_least)

  point_front : (s t : List ℕ) (i j : ℕ) → length s ≡ b * i → j < i → point_of l (s ++ t) j ≡ point_of l s j
  unfolding point_of
  point_front s t i j e h =
      let inside : j * b + b ≤ length s = omega (arith, e, mul_comm b i, mul-le-mul_right b h, add-mul j 1 b) in
      ap little (ap (take b) (drop-append-le (j * b) s t (omega arith)) ∙ take-append-le b (drop (j * b) s) t (omega (arith, length-drop (j * b) s)))

  point_behind : (s t : List ℕ) (i j : ℕ) → length s ≡ b * i → point_of l (s ++ t) (i + j) ≡ point_of l t j
  unfolding point_of
  point_behind s t i j e =
      let at : (i + j) * b ≡ length s + j * b = add-mul i j b ∙ ap (λ (x : ℕ). x + j * b) (mul_comm i b ∙ sym e) in
      ap (λ (x : List ℕ). little (take b x)) (ap (λ (m : ℕ). drop m (s ++ t)) at ∙ drop-append-add s t (j * b))

  codes_own : Parts (point_codes l) b 3
  unfolding point_code
  codes_own = parts_table b 3 (λ n. 3 * (n / b)) (point_code l) (whole-none b 3) (whole_more b 3 some)
      (λ s t i k e h. ap (bits l.depth (offset_of l (k % 3))) (point_front s t i (k / 3) e (omega arith)))
      (λ s t i k e h.
      let q : (3 * i + k) / 3 ≡ i + k / 3 = omega arith in
      let r : (3 * i + k) % 3 ≡ k % 3 = omega arith in
      ap₂ (λ (p j : ℕ). bits l.depth (offset_of l j) (point_of l (s ++ t) p)) q r ∙ ap (bits l.depth (offset_of l (k % 3))) (point_behind s t i (k / 3) e))

  -- ---- codes, packed

  joined-front : (s t : List ℕ) (i j : ℕ) → length s ≡ 3 * i → j < i → joined l (s ++ t) j ≡ joined l s j
  unfolding joined
  joined-front s t i j e h = λ m. in_place l (in_front s t (3 * j) (omega (arith, e)) m) (in_front s t (3 * j + 1) (omega (arith, e)) m) (in_front s t (3 * j + 2) (omega (arith, e)) m)

  joined_behind : (s t : List ℕ) (i j : ℕ) → length s ≡ 3 * i → joined l (s ++ t) (i + j) ≡ joined l t j
  unfolding joined
  joined_behind s t i j e = λ m. in_place l (first s t i j e m) (third s t i j 1 e m) (third s t i j 2 e m)

  packed_own : Parts (points_packed l) 3 b
  unfolding point_byte
  packed_own = parts_table 3 b (λ n. b * (n / 3)) (point_byte l) (whole-none 3 b) (whole_more 3 b (lit< tt))
      (λ s t i k e h. ap (λ (v : ℕ). byte_of v (k % b)) (joined-front s t i (k / b) e ((div-lt_iff_lt-mul some).1 (omega (arith, mul_comm b i)))))
      (λ s t i k e h.
      ap₂ (λ (p j : ℕ). byte_of (joined l (s ++ t) p) j) (mul-add-div some i k) (mul-add-mod_self_left b i k)
      ∙ ap (λ (v : ℕ). byte_of v (k % b)) (joined_behind s t i (k / b) e))

-- ---- groups, unpacked

byte_small : (j : ℕ) → byte_of_code j < 4
byte_small zero = lit< tt
byte_small (suc zero) = lit< tt
byte_small (suc (suc zero)) = lit< tt
byte_small (suc (suc (suc zero))) = lit< tt
byte_small (suc (suc (suc (suc zero)))) = lit< tt
byte_small (suc (suc (suc (suc (suc j))))) = lit< tt

codes-grouped : Parts group_codes 4 6
unfolding group_code
codes-grouped = parts_table 4 6 (λ n. 6 * (n / 4)) group_code refl (whole_more 4 6 (lit< tt))
    (λ s t i k e h. in_front s t (4 * (k / 6) + byte_of_code (k % 6)) (omega (arith, e, byte_small (k % 6))))
    (λ s t i k e h.
    let q : (6 * i + k) / 6 ≡ i + k / 6 = omega arith in
    let r : (6 * i + k) % 6 ≡ k % 6 = omega arith in
    let z : 4 * (i + k / 6) + byte_of_code (k % 6) ≡ 4 * i + (4 * (k / 6) + byte_of_code (k % 6)) = omega arith in
    ap₂ (λ (p j : ℕ). get_or (s ++ t) (4 * p + byte_of_code j) 0) q r ∙ ap (λ (x : ℕ). get_or (s ++ t) x 0) z ∙ behind s t (4 * i) (4 * (k / 6) + byte_of_code (k % 6)) e)

-- ---- a line of any layout

-- the codes of a packed line: the bytes of a point or a group become its codes
pub codes_parts : (l : Layout) → valid_layout l ≡ true → Parts (codes_of l) l.bytes (3 * points_each l)
unfolding valid_layout
codes_parts l ok = elim (or_cases (valid_points l) (valid_groups l) ok) [
  | inl v ↦ let own = not_grouped l v in subst (λ (m : ℕ). Parts (codes_of l) l.bytes (3 * m)) (sym (one_each l own)) (parts_same (own_codes l own) (codes_own l v))
  | inr v ↦ subst (λ (m : ℕ). Parts (codes_of l) l.bytes (3 * m)) (sym (two_each l (groups_grouped l v)))
      (subst (λ (m : ℕ). Parts (codes_of l) m 6) (sym (groups_say l v).bytes) (parts_same (group_codes_lem l v) codes-grouped))
]

-- packed points of a line of codes
pub packed_parts : (l : Layout) → valid_points l ≡ true → Parts (packed_of l) 3 l.bytes
packed_parts l v = parts_same (own_packed l (not_grouped l v)) (packed_own l v)

-- a line converted, point by point
pub converted_parts : (f : Converter) → Parts (converted_of f) 3 3
unfolding converted_of converted_at
converted_parts f = parts_table 3 3 (λ n. n) (λ cs k. (converted_at f cs k).code) refl (λ i n. refl)
    (λ s t i k e h.
    let z : 3 * (k / 3) + 2 < length s = omega (arith, e) in
    λ m. (f (in_front s t (3 * (k / 3)) (omega arith) m) (in_front s t (3 * (k / 3) + 1) (omega arith) m) (in_front s t (3 * (k / 3) + 2) (omega arith) m) (k % 3)).code)
    (λ s t i k e h.
    let q : (3 * i + k) / 3 ≡ i + k / 3 = omega arith in
    let r : (3 * i + k) % 3 ≡ k % 3 = omega arith in
    let at : (j : ℕ) → get_or (s ++ t) (3 * (i + k / 3) + j) 0 ≡ get_or t (3 * (k / 3) + j) 0 = λ j. third s t i (k / 3) j e in
    ap₂ (λ (p j : ℕ). (f (get_or (s ++ t) (3 * p) 0) (get_or (s ++ t) (3 * p + 1) 0) (get_or (s ++ t) (3 * p + 2) 0) j).code) q r
    ∙ (λ m. (f (first s t i (k / 3) e m) (at 1 m) (at 2 m) (k % 3)).code))
