-- The claims of specs/Claims.antt. Assumes nothing.
use mathlib.Core.Path.{◌≡◌, refl, sym, ap, ap₂, ◌∙◌}
use mathlib.Core.Bool.{Bool, true, false, not, cond, ◌&&◌, ◌||◌, and-false}
use mathlib.Core.Logic.{inl, inr}
use mathlib.Core.List.{List, []}
use Prim.Native.Nat.{ℕ, ◌+◌, ◌*◌, ◌/◌, ◌%◌, ◌<◌}
use native.Mathlib.Nat.{add-zero, mul-zero}
use native.Mathlib.Omega.{arith}
use borrow.Author.Tests.{eqb-true, eq-eqb, le-leb, lt-leb, lt-ltb}
use lib.Dec.{eqb, leb, ltb, lit<}
use lib.ListN.{length, get_or}
use Rattle.lists.specs.Lists.{tabulate, every}
use Rattle.lists.specs.Bytes.{are_bytes}
use Rattle.lists.proofs.Every.{every_of}
use Rattle.lists.proofs.Lists.{length-tabulate, get_or-tabulate}
use Rattle.lists.proofs.Tests.{pass, stop}
use Rattle.layout.specs.declared.Layout.{Layout}
use Rattle.parameters.specs.Parameters.{top_of}
use Rattle.layout.specs.Layout.{whole_groups, valid_groups, valid_layout}
use Rattle.layout.proofs.Facts.{one_of_two, not_grouped, groups_say, groups_valid, odd_of_groups}
use Rattle.line.specs.Group.{group_code, group_byte}
use Rattle.line.specs.Line.{point_code, code_at, points_in, codes_of, point_byte, byte_at, bytes_for, packed_of, shared, codes_within, PackedLine, CodeLine}
use Rattle.line.specs.Answer.{unpack_answer, pack_answer}
use Rattle.line.proofs.Own.{own_bytes, own_whole, own_codes, own_packed, own_shared}
use Rattle.line.proofs.Grouped.{group_bytes, group_whole, group_codes_lem, group_packed, group_shared_lem, group_unpackable, group_points}
use Rattle.line_values.proofs.Encodes.{length-quantized, quantized-within}
use Rattle.scanline_laws.specs.Claims.{PacksWhatWasUnpacked, PacksBackWhole, UnpacksWhatWasPacked, SharedWhereTheSame, PacksWithoutLooking, ReadsGroups, WritesGroups, CountsTwoAGroup, OddInNumbers, RefusesOddCounts, RefusesTooMany, RefusesTooManyPacked, RefusesPartsOfGroups, RefusesPartsOfPoints, UnpacksToCodes, PacksToBytes, PacksUnusedBitsAsZero, AcceptsWhatWasUnpacked, AcceptsWhatWasPacked, EncodesToCodes, CountsEmptyLines}
use Rattle.scanline_laws.proofs.Points.{packed-points, code_points}
use Rattle.scanline_laws.proofs.Groups.{code_at_lem, byte_at_lem, packs_back, codes_small as group-codes-small, packed_at, unpacks_shared, bytes_small, groups_cleared}
use Rattle.scanline_laws.proofs.Cleared.{codes_small, pack_unpack}
use Rattle.scanline_laws.proofs.Back.{packed-bytes, unpack_pack}
use Rattle.scanline_laws.proofs.Whole.{cleared_same}
use Rattle.scanline_laws.proofs.Accepted.{points_in_lem, even_points, odd_points_lem, part-points, too_many, packing_accepted, unpacking_accepted}
use Rattle.std.specs.Prelude.{Ok}
use Rattle.scanline_laws.proofs.Looked.{shared_same, every-shared, packed_alike, answered_alike, packs_shared}

-- ---- of groups: how many there are

module _ (l : Layout) (ok : valid_groups l ≡ true) (n : ℕ) where
  even : whole_groups l n ≡ true → n % 2 ≡ 0
  even w = eqb-true (n % 2) 0 (sym (group_whole l ok n) ∙ w)

  in_groups : (s : List ℕ) → PackedLine l n s → length s ≡ 4 * (n / 2)
  in_groups s p = p.points ∙ group_bytes l ok n

  six_a_group : (cs : List ℕ) → CodeLine l n cs → length cs ≡ 6 * (n / 2)
  six_a_group cs p = omega (arith, p.points, even p.whole)

-- ---- there and back

pub packs_what_was_unpacked : PacksWhatWasUnpacked
packs_what_was_unpacked l n s p = elim (one_of_two l p.valid) [
  | inl ok ↦
      let own = not_grouped l ok in
      ap (packed_of l) (own_codes l own s) ∙ own_packed l own _ ∙ pack_unpack l n s (packed-points ok p)
  | inr ok ↦ ap (packed_of l) (group_codes_lem l ok s) ∙ group_packed l ok _ ∙ packs_back (n / 2) s (in_groups l ok n s p) ∙ sym (groups_cleared l s ok p.bytes)
]

pub packs_back_whole : PacksBackWhole
packs_back_whole l n s p e = packs_what_was_unpacked l n s p ∙ elim (one_of_two l p.valid) [
  | inl ok ↦
      let full : eqb (3 * l.depth) (8 * l.bytes) ≡ true = sym (ap (λ (t : Bool). t || eqb (3 * l.depth) (8 * l.bytes)) (not_grouped l ok)) ∙ e in
      cleared_same l ok (eqb-true (3 * l.depth) (8 * l.bytes) full) n s (packed-points ok p)
  | inr ok ↦ groups_cleared l s ok p.bytes
]

pub unpacks_what_was_packed : UnpacksWhatWasPacked
unpacks_what_was_packed l n cs p = elim (one_of_two l p.valid) [
  | inl ok ↦
      let own = not_grouped l ok in
      ap (codes_of l) (own_packed l own cs) ∙ own_codes l own _ ∙ unpack_pack l n cs (code_points ok p) ∙ sym (own_shared l own 0 cs)
  | inr ok ↦ ap (codes_of l) (group_packed l ok cs) ∙ group_codes_lem l ok _ ∙ unpacks_shared (n / 2) cs (six_a_group l ok n cs p) ∙ sym (group_shared_lem l ok 0 cs)
]

pub shared_where_the_same : SharedWhereTheSame
shared_where_the_same = shared_same

pub packs_without_looking : PacksWithoutLooking
packs_without_looking l cs ds e agree = (packed_alike l cs ds e agree, answered_alike l cs ds e agree)

-- ---- A6's words

pub reads_groups : ReadsGroups
unfolding code_at
reads_groups l s i e =
    let code : (k : ℕ) → code_at l s k ≡ group_code s k = λ k. ap (λ (t : Bool). cond t (group_code s k) (point_code l s k)) e in (
      ap (code_at l s) (sym (add-zero (6 * i))) ∙ code (6 * i + 0) ∙ code_at_lem s i 0 (lit< tt),
      code (6 * i + 1) ∙ code_at_lem s i 1 (lit< tt) ∙ ap (λ (m : ℕ). get_or s m 0) (add-zero (4 * i)),
      code (6 * i + 2) ∙ code_at_lem s i 2 (lit< tt),
      code (6 * i + 3) ∙ code_at_lem s i 3 (lit< tt),
      code (6 * i + 4) ∙ code_at_lem s i 4 (lit< tt) ∙ ap (λ (m : ℕ). get_or s m 0) (add-zero (4 * i)),
      code (6 * i + 5) ∙ code_at_lem s i 5 (lit< tt),
    )

pub writes_groups : WritesGroups
unfolding byte_at
writes_groups l cs i e =
    let byte : (k : ℕ) → byte_at l cs k ≡ group_byte cs k = λ k. ap (λ (t : Bool). cond t (group_byte cs k) (point_byte l cs k)) e in (
      ap (byte_at l cs) (sym (add-zero (4 * i))) ∙ byte (4 * i + 0) ∙ byte_at_lem cs i 0 (lit< tt),
      byte (4 * i + 1) ∙ byte_at_lem cs i 1 (lit< tt) ∙ ap (λ (m : ℕ). get_or cs m 0) (add-zero (6 * i)),
      byte (4 * i + 2) ∙ byte_at_lem cs i 2 (lit< tt),
      byte (4 * i + 3) ∙ byte_at_lem cs i 3 (lit< tt),
    )

pub counts_two_a_group : CountsTwoAGroup
unfolding unpack_answer
counts_two_a_group l g ok h =
    let fits = ap₂ ◌&&◌ (ap₂ ◌&&◌ (eq-eqb (4 * g % 4) 0 (omega arith)) (le-leb (2 * (4 * g / 4)) 4096 (omega arith))) (eq-eqb (6 * g) (3 * (2 * (4 * g / 4))) (omega arith)) in
    pass _ (ap not (groups_valid l ok)) (pass _ (ap not (group_unpackable l ok (4 * g) (6 * g) ∙ fits)) (ap Ok (group_points l ok (4 * g) ∙ omega arith)))

pub odd_in_numbers : OddInNumbers
odd_in_numbers l size = ap (λ (t : Bool). eqb (size % 3) 0 && t) (odd_of_groups l (size / 3))

pub refuses_odd_counts : RefusesOddCounts
unfolding pack_answer
refuses_odd_counts l g bytes cs ok e = pass _ (ap not (groups_valid l ok)) (stop _ (odd_points_lem l ok g (length cs) e))

pub refuses_too_many : RefusesTooMany
unfolding pack_answer
refuses_too_many l n bytes cs ok w h e = pass _ (ap not ok) (pass _ (even_points l ok n w (length cs) e) (stop _ (ap not (too_many l n (length cs) bytes h e))))

pub refuses_too_many_packed : RefusesTooManyPacked
unfolding unpack_answer
refuses_too_many_packed l bytes codes ok h =
    let part = eqb (bytes % l.bytes) 0 in
    let many : leb (points_in l bytes) 4096 ≡ false = lt-leb (points_in l bytes) 4096 h in
    pass _ (ap not ok) (stop _ (ap (λ (t : Bool). not (t && eqb codes (3 * points_in l bytes))) (ap (λ (t : Bool). part && t) many ∙ and-false part)))

pub refuses_parts_of_groups : RefusesPartsOfGroups
unfolding unpack_answer
refuses_parts_of_groups l bytes codes ok e =
    pass _ (ap not (groups_valid l ok))
    (stop _ (ap not (group_unpackable l ok bytes codes ∙ ap (λ (t : Bool). t && leb (2 * (bytes / 4)) 4096 && eqb codes (3 * (2 * (bytes / 4)))) e)))

pub refuses_parts_of_points : RefusesPartsOfPoints
unfolding pack_answer
refuses_parts_of_points l bytes cs ok e = let p = part-points l (length cs) bytes e in pass _ (ap not ok) (pass _ p.0 (stop _ (ap not p.1)))

-- ---- each of the two is of the other's kind

pub length-codes : (l : Layout) (n : ℕ) (s : List ℕ) → PackedLine l n s → length (codes_of l s) ≡ 3 * n
unfolding codes_of
length-codes l n s p = length-tabulate (3 * points_in l (length s)) (code_at l s) ∙ ap (λ (m : ℕ). 3 * m) (points_in_lem l p.valid n p.whole (length s) p.points)

pub codes-within : (l : Layout) (n : ℕ) (s : List ℕ) → PackedLine l n s → codes_within l.depth (codes_of l s) ≡ true
codes-within l n s p = elim (one_of_two l p.valid) [
  | inl ok ↦ ap (codes_within l.depth) (own_codes l (not_grouped l ok) s) ∙ codes_small l n s (packed-points ok p)
  | inr ok ↦
      ap₂ codes_within (groups_say l ok).depth (group_codes_lem l ok s)
      ∙ every_of (λ c. leb c 255) 0 _ (λ k h.
      let g = n / 2 in
      let e = in_groups l ok n s p in
      let m = 6 * (length s / 4) in
      let inside : k < m = omega (arith, h, length-tabulate m (group_code s)) in
      ap (λ (c : ℕ). leb c 255) (get_or-tabulate m (group_code s) k 0 inside) ∙ le-leb (group_code s k) 255 (group-codes-small g s e p.bytes k (omega arith)))
]

pub unpacks_to_codes : UnpacksToCodes
unpacks_to_codes l n s p = record { valid = p.valid; whole = p.whole; codes = every-shared l 0 (codes_of l s) (λ c. leb c (top_of l.depth)) (codes-within l n s p); points = length-codes l n s p }

length-packed : (l : Layout) (n : ℕ) (cs : List ℕ) → length cs ≡ 3 * n → length (packed_of l cs) ≡ bytes_for l n
unfolding packed_of
length-packed l n cs e = length-tabulate (bytes_for l (length cs / 3)) (byte_at l cs) ∙ ap (bytes_for l) (omega arith)

are_bytes_lem : (l : Layout) (n : ℕ) (cs : List ℕ) → CodeLine l n cs → are_bytes (packed_of l cs) ≡ true
are_bytes_lem l n cs p = elim (one_of_two l p.valid) [
  | inl ok ↦ ap are_bytes (own_packed l (not_grouped l ok) cs) ∙ packed-bytes l n cs (code_points ok p)
  | inr ok ↦
      ap are_bytes (group_packed l ok cs)
      ∙ every_of (λ b. ltb b 256) 0 _ (λ k h.
      let g = n / 2 in
      let e = six_a_group l ok n cs p in
      let m = 4 * (length cs / 6) in
      let inside : k < 4 * g = omega (arith, h, length-tabulate m (group_byte cs)) in
      let within = ap₂ codes_within (sym (groups_say l ok).depth) (sym (group_shared_lem l ok 0 cs)) ∙ p.codes in
      ap (λ (b : ℕ). ltb b 256) (packed_at g cs e k inside) ∙ lt-ltb (group_byte cs k) 256 (bytes_small g cs e within k inside))
]

pub packs_to_bytes : PacksToBytes
packs_to_bytes l n cs p = record { valid = p.valid; whole = p.whole; bytes = are_bytes_lem l n cs p; points = length-packed l n cs p.points }

pub packs_unused_bits_as_zero : PacksUnusedBitsAsZero
packs_unused_bits_as_zero l n cs p =
    sym (packs_what_was_unpacked l n (packed_of l cs) (packs_to_bytes l n cs p)) ∙ ap (packed_of l) (unpacks_what_was_packed l n cs p) ∙ packs_shared l cs

pub accepts_what_was_unpacked : AcceptsWhatWasUnpacked
accepts_what_was_unpacked l n s p h = packing_accepted l n (codes_of l s) (length s) (unpacks_to_codes l n s p) p.points h

pub accepts_what_was_packed : AcceptsWhatWasPacked
accepts_what_was_packed l n cs p h = unpacking_accepted l n (packed_of l cs) (length cs) (packs_to_bytes l n cs p) p.points h

pub encodes_to_codes : EncodesToCodes
encodes_to_codes l n vs ok w h = record { valid = ok; whole = w; codes = every-shared l 0 _ (λ c. leb c (top_of l.depth)) (quantized-within l vs ok); points = length-quantized l vs ∙ h }

-- ---- no elements are a line of no points

pub no_points : (l : Layout) → valid_layout l ≡ true → (whole_groups l 0 ≡ true) × (0 ≡ bytes_for l 0)
no_points l ok = elim (one_of_two l ok) [
  | inl p ↦ let own = not_grouped l p in (own_whole l own 0, sym (own_bytes l own 0 ∙ mul-zero l.bytes))
  | inr g ↦ (group_whole l g 0, sym (group_bytes l g 0))
]

empty_bytes : (l : Layout) → valid_layout l ≡ true → PackedLine l 0 []
unfolding every
empty_bytes l e = record { valid = e; whole = (no_points l e).0; bytes = refl; points = (no_points l e).1 }

empty_codes : (l : Layout) → valid_layout l ≡ true → CodeLine l 0 []
unfolding every shared tabulate
empty_codes l e = record { valid = e; whole = (no_points l e).0; codes = refl; points = refl }

pub counts_empty_lines : CountsEmptyLines
counts_empty_lines l e = (unpacking_accepted l 0 [] 0 (empty_bytes l e) refl (omega arith), packing_accepted l 0 [] 0 (empty_codes l e) (no_points l e).1 (omega arith))
