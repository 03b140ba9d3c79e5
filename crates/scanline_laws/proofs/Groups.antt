-- Lines of groups: packing undoes unpacking, and unpacking undoes packing but for each second point's colour. Assumes nothing.
use mathlib.Core.Path.{◌≡◌, refl, sym, ap, ap₂, ◌∙◌}
use mathlib.Core.Bool.{Bool, true, false, cond}
use mathlib.Core.List.{List}
use Prim.Native.Nat.{ℕ, zero, suc, ◌+◌, ◌-◌, ◌*◌, ◌/◌, ◌%◌, ◌≤◌, ◌<◌}
use native.Mathlib.Nat.{mod-eq_of_lt}
use native.Mathlib.Omega.{arith}
use borrow.Author.Tests.{ltb-true, leb-true, lt-leb}
use lib.Bits.{bit_and, and_mask}
use lib.Dec.{leb, ltb}
use lib.ListN.{length, get_or}
use Rattle.lists.specs.Lists.{tabulate}
use Rattle.lists.specs.Bytes.{are_bytes, byte_of}
use Rattle.lists.proofs.Every.{every_at}
use Rattle.lists.proofs.Lists.{length-tabulate, get_or-tabulate, is_tabulate, tabulate_same}
use Rattle.layout.specs.declared.Layout.{Layout}
use Rattle.parameters.specs.Parameters.{top_of}
use Rattle.layout.specs.Layout.{valid_groups}
use Rattle.layout.proofs.Facts.{groups_say, groups_grouped}
use Rattle.line.specs.Group.{byte_of_code, code_of_byte, group_code, group_byte, second_color}
use Rattle.line.specs.Line.{codes_within}
use Rattle.line.specs.inner.Groups.{group_codes, groups_packed, group_shared}
use Rattle.scanline_laws.specs.Cleared.{field_bits, used_bits, cleared}

-- ---- the codes and bytes of one group

pub code_inside : (j : ℕ) → code_of_byte j < 4
code_inside zero = omega arith
code_inside (suc zero) = omega arith
code_inside (suc (suc zero)) = omega arith
code_inside (suc (suc (suc j))) = omega arith

pub byte_inside : (j : ℕ) → byte_of_code j < 4
byte_inside zero = omega arith
byte_inside (suc zero) = omega arith
byte_inside (suc (suc zero)) = omega arith
byte_inside (suc (suc (suc zero))) = omega arith
byte_inside (suc (suc (suc (suc zero)))) = omega arith
byte_inside (suc (suc (suc (suc (suc j))))) = omega arith

byte_again : (j : ℕ) → j < 4 → byte_of_code (code_of_byte j) ≡ j
byte_again zero h = refl
byte_again (suc zero) h = refl
byte_again (suc (suc zero)) h = refl
byte_again (suc (suc (suc zero))) h = refl
byte_again (suc (suc (suc (suc j)))) h = absurd (omega arith)

-- the code that a code's byte is made of: the same, or the first point's colour for the second's
code_again : (i j : ℕ) → j < 6 → 6 * i + code_of_byte (byte_of_code j) ≡ cond (leb 4 j) (6 * i + j - 3) (6 * i + j)
code_again i zero h = refl
code_again i (suc zero) h = refl
code_again i (suc (suc zero)) h = refl
code_again i (suc (suc (suc zero))) h = refl
code_again i (suc (suc (suc (suc zero)))) h = omega arith
code_again i (suc (suc (suc (suc (suc zero))))) h = omega arith
code_again i (suc (suc (suc (suc (suc (suc j)))))) h = absurd (omega arith)

-- code 6 i + j is code j of group i, and byte 4 i + j is byte j of group i
pub code_at_lem : (s : List ℕ) (i j : ℕ) → j < 6 → group_code s (6 * i + j) ≡ get_or s (4 * i + byte_of_code j) 0
unfolding group_code
code_at_lem s i j h =
    let q : (6 * i + j) / 6 ≡ i = omega arith in
    let r : (6 * i + j) % 6 ≡ j = omega arith in
    ap₂ (λ (a b : ℕ). get_or s (4 * a + byte_of_code b) 0) q r

pub byte_at_lem : (cs : List ℕ) (i j : ℕ) → j < 4 → group_byte cs (4 * i + j) ≡ get_or cs (6 * i + code_of_byte j) 0
unfolding group_byte
byte_at_lem cs i j h =
    let q : (4 * i + j) / 4 ≡ i = omega arith in
    let r : (4 * i + j) % 4 ≡ j = omega arith in
    ap₂ (λ (a b : ℕ). get_or cs (6 * a + code_of_byte b) 0) q r

-- ---- a packed line of g groups

module _ (g : ℕ) (s : List ℕ) (e : length s ≡ 4 * g) where
  byte_back : (k : ℕ) → k < 4 * g → get_or s k 0 ≡ group_byte (group_codes s) k
  unfolding group_byte
  byte_back k h =
      let i = k / 4 in
      let j = k % 4 in
      let c = code_of_byte j in
      let lc : c < 4 = code_inside j in
      let inside : 6 * i + c < 6 * (length s / 4) = omega (arith, lc) in
      let at : 4 * i + j ≡ k = omega arith in
      sym (get_or-tabulate (6 * (length s / 4)) (group_code s) (6 * i + c) 0 inside ∙ code_at_lem s i c (omega (arith, lc)) ∙ ap (λ (m : ℕ). get_or s (4 * i + m) 0) (byte_again j (omega arith)) ∙ ap (λ (m : ℕ). get_or s m 0) at)

  pub packs_back : groups_packed (group_codes s) ≡ s
  packs_back =
      let m : 4 * g ≡ 4 * (length (group_codes s) / 6) = omega (arith, length-tabulate (6 * (length s / 4)) (group_code s)) in
      sym (is_tabulate 0 s (4 * g) (group_byte (group_codes s)) e byte_back ∙ ap (λ (x : ℕ). tabulate x (group_byte (group_codes s))) m)

  pub codes_small : are_bytes s ≡ true → (k : ℕ) → k < 6 * g → group_code s k ≤ 255
  unfolding group_code
  codes_small are k h =
      let b = byte_of_code (k % 6) in
      let at = 4 * (k / 6) + b in
      omega (arith, ltb-true (get_or s at 0) 256 (every_at (λ x. ltb x 256) 0 s at are (omega (arith, byte_inside (k % 6)))))

-- ---- a line of codes, of g groups

module _ (g : ℕ) (cs : List ℕ) (e : length cs ≡ 6 * g) where
  pub packed_at : (k : ℕ) → k < 4 * g → get_or (groups_packed cs) k 0 ≡ group_byte cs k
  packed_at k h = get_or-tabulate (4 * (length cs / 6)) (group_byte cs) k 0 (omega arith)

  code_back : (k : ℕ) → k < 6 * g → group_code (groups_packed cs) k ≡ get_or cs (cond (second_color k) (k - 3) k) 0
  unfolding group_code
  code_back k h =
      let i = k / 6 in
      let j = k % 6 in
      let b = byte_of_code j in
      let at : 6 * i + j ≡ k = omega arith in
      packed_at (4 * i + b) (omega (arith, byte_inside j)) ∙ byte_at_lem cs i b (byte_inside j)
      ∙ ap (λ (m : ℕ). get_or cs m 0) (code_again i j (omega arith) ∙ ap (λ (m : ℕ). cond (leb 4 j) (m - 3) m) at)

  pub unpacks_shared : group_codes (groups_packed cs) ≡ group_shared 0 cs
  unpacks_shared =
      let m : 6 * (length (groups_packed cs) / 4) ≡ length cs = omega (arith, length-tabulate (4 * (length cs / 6)) (group_byte cs)) in
      ap (λ (x : ℕ). tabulate x (group_code (groups_packed cs))) m ∙ tabulate_same 0 (length cs) (group_code (groups_packed cs)) (λ k. get_or cs (cond (second_color k) (k - 3) k) 0) (λ k h. code_back k (omega arith))

  -- the codes that are looked at stand in the shared line, so that each byte is one
  pub bytes_small : codes_within 8 (group_shared 0 cs) ≡ true → (k : ℕ) → k < 4 * g → group_byte cs k < 256
  unfolding group_byte
  bytes_small w k h =
      let c = code_of_byte (k % 4) in
      let at = 6 * (k / 4) + c in
      let lc : c < 4 = code_inside (k % 4) in
      let first : at % 6 ≡ c = omega (arith, lc) in
      let f : ℕ → ℕ = λ m. get_or cs (cond (second_color m) (m - 3) m) 0 in
      let inside : at < length cs = omega (arith, lc) in
      let is : get_or (group_shared 0 cs) at 0 ≡ get_or cs at 0 = get_or-tabulate (length cs) f at 0 inside ∙ ap (λ (t : Bool). get_or cs (cond t (at - 3) at) 0) (looked_at at c first lc) in
      omega (arith, leb-true (get_or (group_shared 0 cs) at 0) 255 (every_at (λ x. leb x 255) 0 (group_shared 0 cs) at w (omega (arith, inside, length-tabulate (length cs) f))), is)
    where
      looked_at : (m c : ℕ) → m % 6 ≡ c → c < 4 → second_color m ≡ false
      looked_at m c p h = lt-leb 4 (m % 6) (omega arith)

-- ---- every bit is used

ones : (j : ℕ) → j < 4 → byte_of (top_of 32) j ≡ 255
ones zero h = refl
ones (suc zero) h = refl
ones (suc (suc zero)) h = refl
ones (suc (suc (suc zero))) h = refl
ones (suc (suc (suc (suc j)))) h = absurd (omega arith)

pub groups_cleared : (l : Layout) (s : List ℕ) → valid_groups l ≡ true → are_bytes s ≡ true → cleared l s ≡ s
unfolding cleared used_bits
groups_cleared l s ok are =
    let used : used_bits l ≡ top_of 32 = ap (λ (t : Bool). cond t (top_of 32) (field_bits l)) (groups_grouped l ok) in
    sym (is_tabulate 0 s (length s) (λ k. bit_and (get_or s k 0) (byte_of (used_bits l) (k % l.bytes))) refl (λ k h.
    let lt : get_or s k 0 < 256 = ltb-true (get_or s k 0) 256 (every_at (λ x. ltb x 256) 0 s k are h) in
    sym (ap₂ (λ (u b : ℕ). bit_and (get_or s k 0) (byte_of u (k % b))) used (groups_say l ok).bytes ∙ ap (bit_and (get_or s k 0)) (ones (k % 4) (omega arith)) ∙ and_mask (get_or s k 0) 8 ∙ mod-eq_of_lt lt)))
