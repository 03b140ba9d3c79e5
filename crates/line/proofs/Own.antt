-- A layout that is not of groups: its lines are of points of their own. Assumes nothing.
use mathlib.Core.Path.{◌≡◌, refl, sym, ap, ◌∙◌}
use mathlib.Core.Bool.{Bool, true, false, not, cond, ◌&&◌}
use mathlib.Core.List.{List}
use Prim.Native.Nat.{ℕ, ◌-◌, ◌*◌, ◌/◌, ◌%◌}
use native.Mathlib.Nat.{div-one, mod-one}
use native.Mathlib.Omega.{arith}
use borrow.Author.Tests.{eq-eqb}
use lib.Dec.{leb, eqb}
use lib.ListN.{length, get_or}
use Rattle.lists.specs.Lists.{tabulate}
use Rattle.lists.proofs.Lists.{is_tabulate, tabulate_same}
use Rattle.layout.specs.declared.Layout.{Layout}
use Rattle.layout.specs.Layout.{grouped, whole_groups, valid_points}
use Rattle.layout.proofs.Facts.{Points, points_say, one_each, not_grouped}
use Rattle.line.specs.Group.{group_code, group_byte, second_color}
use Rattle.line.specs.Line.{point_code, code_at, points_in, codes_of, point_byte, byte_at, bytes_for, packed_of, looked, stands_for, shared}
use Rattle.line.specs.Answer.{most_points, whole_points, fitting, unpackable, odd_points, packable, of_points}
use Rattle.line.specs.inner.Points.{point_codes, points_packed}

module _ (l : Layout) (own : grouped l ≡ false) where
  -- ---- how many

  pub own_points : (bytes : ℕ) → points_in l bytes ≡ bytes / l.bytes
  own_points bytes = ap (λ (x : ℕ). x * (bytes / l.bytes)) (one_each l own) ∙ omega arith

  pub own_bytes : (n : ℕ) → bytes_for l n ≡ l.bytes * n
  own_bytes n = ap (λ (x : ℕ). l.bytes * (n / x)) (one_each l own) ∙ ap (λ (x : ℕ). l.bytes * x) (div-one n)

  -- any number of points is right
  pub own_whole : (n : ℕ) → whole_groups l n ≡ true
  own_whole n = ap (λ (x : ℕ). eqb (n % x) 0) (one_each l own) ∙ eq-eqb (n % 1) 0 (mod-one n)

  pub own_odd : (size : ℕ) → odd_points l size ≡ false
  own_odd size = ap (λ (t : Bool). eqb (size % 3) 0 && not t) (own_whole (size / 3)) ∙ and_false (eqb (size % 3) 0)
    where
      and_false : (a : Bool) → a && false ≡ false
      and_false true = refl
      and_false false = refl

  pub own_unpackable : (bytes output : ℕ) → unpackable l bytes output ≡ fitting bytes l.bytes output 3
  own_unpackable bytes output = ap (λ (n : ℕ). eqb (bytes % l.bytes) 0 && leb n most_points && eqb output (3 * n)) (own_points bytes)

  pub own_packable : (size output : ℕ) → packable l size output ≡ fitting size 3 output l.bytes
  own_packable size output = ap (λ (n : ℕ). whole_points size 3 && eqb output n) (own_bytes (size / 3))

  -- ---- the codes and the bytes

  pub own_code : (s : List ℕ) (k : ℕ) → code_at l s k ≡ point_code l s k
  unfolding code_at
  own_code s k = ap (λ (t : Bool). cond t (group_code s k) (point_code l s k)) own

  pub own_codes : (s : List ℕ) → codes_of l s ≡ point_codes l s
  unfolding codes_of
  own_codes s = tabulate_same 0 (3 * points_in l (length s)) (code_at l s) (point_code l s) (λ k h. own_code s k) ∙ ap (λ (n : ℕ). tabulate (3 * n) (point_code l s)) (own_points (length s))

  own_byte : (cs : List ℕ) (k : ℕ) → byte_at l cs k ≡ point_byte l cs k
  unfolding byte_at
  own_byte cs k = ap (λ (t : Bool). cond t (group_byte cs k) (point_byte l cs k)) own

  pub own_packed : (cs : List ℕ) → packed_of l cs ≡ points_packed l cs
  unfolding packed_of
  own_packed cs =
      tabulate_same 0 (bytes_for l (length cs / 3)) (byte_at l cs) (point_byte l cs) (λ k h. own_byte cs k) ∙ ap (λ (n : ℕ). tabulate n (point_byte l cs)) (own_bytes (length cs / 3))

  -- ---- what is looked at: everything

  pub own_looked : (k : ℕ) → looked l k ≡ true
  own_looked k = ap (λ (t : Bool). not (t && second_color k)) own

  pub own_shared : {A : Type 0} (d : A) (xs : List A) → shared l d xs ≡ xs
  unfolding shared
  own_shared d xs =
      sym (is_tabulate d xs (length xs) (λ k. get_or xs (stands_for l k) d) refl (λ k h. ap (λ (t : Bool). get_or xs (cond t k (k - 3)) d) (sym (own_looked k))))

-- an answer and an output by a layout of points of their own, and by any other
module _ {A B : Type 0} (l : Layout) (answer other : A) (output kept : B) where
  pub own_answer : {r : A} {after : B} → valid_points l ≡ true → (r ≡ answer) × (after ≡ output) → (r ≡ of_points l answer other) × (after ≡ of_points l output kept)
  own_answer e h =
      let own = not_grouped l e in
      (h.0 ∙ sym (ap (λ (t : Bool). cond t other answer) own), h.1 ∙ sym (ap (λ (t : Bool). cond t kept output) own))

  -- a layout of groups, or one that is not valid
  pub own_other : (grouped l ≡ false → (other ≡ answer) × (kept ≡ output)) → (other ≡ of_points l answer other) × (kept ≡ of_points l output kept)
  own_other f = go (grouped l) refl
    where
      go : (t : Bool) → grouped l ≡ t → (other ≡ cond t other answer) × (kept ≡ cond t kept output)
      go true g = (refl, refl)
      go false g = f g

-- what is known of a layout that the test let pass
pub record OwnLayout (l : Layout) : Type 0 where
  pub ok : valid_points l ≡ true
  pub own : grouped l ≡ false
  pub facts : Points l

pub own_layout : (l : Layout) {t : Bool} → t ≡ valid_points l → t ≡ true → OwnLayout l
own_layout l e f = let ok = sym e ∙ f in record { ok = ok; own = not_grouped l ok; facts = points_say l ok }
