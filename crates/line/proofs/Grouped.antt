-- A layout of groups: its lines are of groups of four bytes. Assumes nothing.
use mathlib.Core.Path.{◌≡◌, refl, sym, ap, ap₂, ◌∙◌}
use mathlib.Core.Bool.{Bool, true, false, not, cond, ◌&&◌}
use mathlib.Core.List.{List}
use Prim.Native.Nat.{ℕ, ◌-◌, ◌*◌, ◌/◌, ◌%◌}
use native.Mathlib.Omega.{arith}
use lib.Dec.{leb, eqb}
use lib.ListN.{length, get_or}
use Rattle.lists.specs.Lists.{tabulate}
use Rattle.lists.proofs.Lists.{tabulate_same}
use Rattle.lists.proofs.Tests.{and_left, and_right}
use Rattle.layout.specs.declared.Layout.{Layout}
use Rattle.layout.specs.Layout.{grouped, whole_groups, valid_groups, valid_layout}
use Rattle.layout.proofs.Facts.{two_each, groups_say, groups_grouped, valid_groups_lem}
use Rattle.line.specs.Group.{group_code, group_byte, second_color}
use Rattle.line.specs.Line.{point_code, code_at, points_in, codes_of, point_byte, byte_at, bytes_for, packed_of, looked, stands_for, shared}
use Rattle.line.specs.Answer.{most_points, whole_points, unpackable, odd_points, packable, of_groups}
use Rattle.line.specs.inner.Groups.{group_codes, groups_packed, group_shared}

module _ (l : Layout) (ok : valid_groups l ≡ true) where
  yes : grouped l ≡ true
  yes = groups_grouped l ok

  four : l.bytes ≡ 4
  four = (groups_say l ok).bytes

  -- ---- how many

  pub group_points : (bytes : ℕ) → points_in l bytes ≡ 2 * (bytes / 4)
  group_points bytes = ap₂ (λ (x y : ℕ). x * (bytes / y)) (two_each l yes) four

  pub group_bytes : (n : ℕ) → bytes_for l n ≡ 4 * (n / 2)
  group_bytes n = ap₂ (λ (x y : ℕ). x * (n / y)) four (two_each l yes)

  pub group_whole : (n : ℕ) → whole_groups l n ≡ eqb (n % 2) 0
  group_whole n = ap (λ (x : ℕ). eqb (n % x) 0) (two_each l yes)

  pub group_odd : (size : ℕ) → odd_points l size ≡ eqb (size % 3) 0 && not (eqb (size / 3 % 2) 0)
  group_odd size = ap (λ (t : Bool). eqb (size % 3) 0 && not t) (group_whole (size / 3))

  pub group_unpackable : (bytes output : ℕ) → unpackable l bytes output ≡ eqb (bytes % 4) 0 && leb (2 * (bytes / 4)) most_points && eqb output (3 * (2 * (bytes / 4)))
  group_unpackable bytes output = ap₂ (λ (x n : ℕ). eqb (bytes % x) 0 && leb n most_points && eqb output (3 * n)) four (group_points bytes)

  pub group_packable : (size output : ℕ) → packable l size output ≡ whole_points size 3 && eqb output (4 * (size / 3 / 2))
  group_packable size output = ap (λ (n : ℕ). whole_points size 3 && eqb output n) (group_bytes (size / 3))

  -- ---- the codes and the bytes

  pub group_code_lem : (s : List ℕ) (k : ℕ) → code_at l s k ≡ group_code s k
  unfolding code_at
  group_code_lem s k = ap (λ (t : Bool). cond t (group_code s k) (point_code l s k)) yes

  pub group_codes_lem : (s : List ℕ) → codes_of l s ≡ group_codes s
  unfolding codes_of
  group_codes_lem s =
      tabulate_same 0 (3 * points_in l (length s)) (code_at l s) (group_code s) (λ k h. group_code_lem s k)
      ∙ ap (λ (n : ℕ). tabulate n (group_code s)) (ap (λ (n : ℕ). 3 * n) (group_points (length s)) ∙ omega arith)

  group_byte_lem : (cs : List ℕ) (k : ℕ) → byte_at l cs k ≡ group_byte cs k
  unfolding byte_at
  group_byte_lem cs k = ap (λ (t : Bool). cond t (group_byte cs k) (point_byte l cs k)) yes

  pub group_packed : (cs : List ℕ) → packed_of l cs ≡ groups_packed cs
  unfolding packed_of
  group_packed cs =
      tabulate_same 0 (bytes_for l (length cs / 3)) (byte_at l cs) (group_byte cs) (λ k h. group_byte_lem cs k)
      ∙ ap (λ (n : ℕ). tabulate n (group_byte cs)) (group_bytes (length cs / 3) ∙ omega arith)

  -- ---- what is looked at: all but the second point's colour

  pub group_looked : (k : ℕ) → looked l k ≡ not (second_color k)
  group_looked k = ap (λ (t : Bool). not (t && second_color k)) yes

  pub group_shared_lem : {A : Type 0} (d : A) (xs : List A) → shared l d xs ≡ group_shared d xs
  unfolding shared
  group_shared_lem d xs =
      tabulate_same d (length xs) (λ k. get_or xs (stands_for l k) d) (λ k. get_or xs (cond (second_color k) (k - 3) k) d)
      (λ k h. ap (λ (m : ℕ). get_or xs m d) (ap (λ (t : Bool). cond t k (k - 3)) (group_looked k) ∙ swap (second_color k) k (k - 3)))
    where
      swap : (t : Bool) (a b : ℕ) → cond (not t) a b ≡ cond t b a
      swap true a b = refl
      swap false a b = refl

-- an answer and an output by a layout of groups, and by any other
module _ {A B : Type 0} (l : Layout) (answer other : A) (output kept : B) where
  pub of_groups_lem : {r : A} {after : B} → grouped l ≡ true → (r ≡ answer) × (after ≡ output) → (r ≡ of_groups l answer other) × (after ≡ of_groups l output kept)
  of_groups_lem e h = (h.0 ∙ sym (ap (λ (t : Bool). cond t answer other) e), h.1 ∙ sym (ap (λ (t : Bool). cond t output kept) e))

  pub of_points_lem : grouped l ≡ false → (other ≡ of_groups l answer other) × (kept ≡ of_groups l output kept)
  of_points_lem e = (sym (ap (λ (t : Bool). cond t answer other) e), sym (ap (λ (t : Bool). cond t output kept) e))

  -- a layout that is not of groups, or not valid
  pub of_neither : grouped l && valid_layout l ≡ false → (valid_layout l ≡ false → (other ≡ answer) × (kept ≡ output)) → (other ≡ of_groups l answer other) × (kept ≡ of_groups l output kept)
  of_neither e f = go (grouped l) refl e
    where
      go : (t : Bool) → grouped l ≡ t → t && valid_layout l ≡ false → (other ≡ of_groups l answer other) × (kept ≡ of_groups l output kept)
      go true g v = of_groups_lem g (f v)
      go false g v = of_points_lem g

-- what is known of a layout that the two tests let pass
pub record GroupLayout (l : Layout) : Type 0 where
  pub own : grouped l ≡ true
  pub ok : valid_layout l ≡ true
  pub valid : valid_groups l ≡ true

pub two_tests : (l : Layout) {s t u : Bool} → s ≡ grouped l → t ≡ valid_layout l → s && t ≡ u → grouped l && valid_layout l ≡ u
two_tests l e f g = sym (ap₂ ◌&&◌ e f) ∙ g

pub group_layout : (l : Layout) {s t : Bool} → s ≡ grouped l → t ≡ valid_layout l → s && t ≡ true → GroupLayout l
group_layout l e f g =
    let both = two_tests l e f g in
    let own = and_left (grouped l) (valid_layout l) both in
    let ok = and_right (grouped l) (valid_layout l) both in
    record { own = own; ok = ok; valid = valid_groups_lem l ok own }
