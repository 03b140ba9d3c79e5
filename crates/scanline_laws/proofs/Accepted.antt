-- A line of a valid layout, of no more points than a line may have, is accepted into an output of its own length. Assumes nothing.
use mathlib.Core.Path.{◌≡◌, sym, ap, ap₂, ◌∙◌}
use mathlib.Core.Bool.{Bool, true, false, not, ◌&&◌, and-false}
use mathlib.Core.List.{List}
use Prim.Native.Nat.{ℕ, ◌+◌, ◌*◌, ◌/◌, ◌%◌, ◌≤◌, ◌<◌}
use native.Mathlib.Nat.{mul_comm, mul-div_cancel, mul-mod_left, div-add-mod'}
use native.Mathlib.Omega.{arith}
use borrow.Author.Tests.{eqb-true, eq-eqb, ne_eqb, le-leb, lt-leb}
use lib.Dec.{eqb, leb}
use lib.ListN.{length}
use Rattle.lists.proofs.Tests.{pass}
use Rattle.layout.specs.declared.Layout.{Layout}
use Rattle.layout.specs.Layout.{points_each, whole_groups, valid_groups, valid_layout}
use Rattle.layout.proofs.Facts.{valid_says}
use Rattle.line.specs.Line.{points_in, bytes_for, PackedLine, CodeLine}
use Rattle.line.proofs.Grouped.{group_odd}
use Rattle.std.specs.Prelude.{Ok}
use Rattle.line.specs.Answer.{most_points, unpackable, odd_points, packable, unpack_answer, pack_answer}

-- n points in whole groups, and their bytes
module _ (l : Layout) (ok : valid_layout l ≡ true) (n : ℕ) (whole : whole_groups l n ≡ true) where
  pos : 0 < l.bytes
  pos = omega (arith, (valid_says l ok).bytes_least)

  -- the bytes of n points hold n points
  pub points_in_lem : (bytes : ℕ) → bytes ≡ bytes_for l n → points_in l bytes ≡ n
  points_in_lem bytes e =
      let q : bytes / l.bytes ≡ n / points_each l = ap (λ (x : ℕ). x / l.bytes) (e ∙ mul_comm l.bytes (n / points_each l)) ∙ mul-div_cancel (n / points_each l) pos in
      ap (λ (x : ℕ). points_each l * x) q ∙ mul_comm (points_each l) (n / points_each l)
      ∙ omega (arith, div-add-mod' n (points_each l), eqb-true (n % points_each l) 0 whole)

  -- and can be unpacked
  pub can_unpack : (bytes output : ℕ) → bytes ≡ bytes_for l n → output ≡ 3 * n → n ≤ most_points → unpackable l bytes output ≡ true
  can_unpack bytes output e f h =
      let m = points_in_lem bytes e in
      let r : bytes % l.bytes ≡ 0 = ap (λ (x : ℕ). x % l.bytes) (e ∙ mul_comm l.bytes (n / points_each l)) ∙ mul-mod_left (n / points_each l) l.bytes in
      ap₂ ◌&&◌ (ap₂ ◌&&◌ (eq-eqb (bytes % l.bytes) 0 r) (le-leb (points_in l bytes) most_points (omega (arith, m)))) (eq-eqb output (3 * points_in l bytes) (f ∙ ap (λ (x : ℕ). 3 * x) (sym m)))

  -- 3 n elements are not of an odd count, and can be packed
  third : (size : ℕ) → size ≡ 3 * n → size / 3 ≡ n
  third size e = omega arith

  pub even_points : (size : ℕ) → size ≡ 3 * n → odd_points l size ≡ false
  even_points size e = ap₂ (λ (t u : Bool). t && not u) (eq-eqb (size % 3) 0 (omega arith)) (ap (whole_groups l) (third size e) ∙ whole)

  pub can_pack : (size output : ℕ) → size ≡ 3 * n → output ≡ bytes_for l n → n ≤ most_points → packable l size output ≡ true
  can_pack size output e f h =
      ap₂ ◌&&◌ (ap₂ ◌&&◌ (eq-eqb (size % 3) 0 (omega arith)) (le-leb (size / 3) most_points (omega arith))) (eq-eqb output (bytes_for l (size / 3)) (f ∙ ap (bytes_for l) (sym (third size e))))

-- an odd count of whole points of groups, what is not of whole points, and too many
pub odd_points_lem : (l : Layout) → valid_groups l ≡ true → (g size : ℕ) → size ≡ 3 * (2 * g + 1) → odd_points l size ≡ true
odd_points_lem l ok g size e = group_odd l ok size ∙ ap₂ (λ (t u : Bool). t && not u) (eq-eqb (size % 3) 0 (omega arith)) (ne_eqb (size / 3 % 2) 0 (λ q. omega arith))

pub part-points : (l : Layout) (size bytes : ℕ) → eqb (size % 3) 0 ≡ false → (odd_points l size ≡ false) × (packable l size bytes ≡ false)
part-points l size bytes e =
    (ap (λ (t : Bool). t && not (whole_groups l (size / 3))) e, ap (λ (t : Bool). t && leb (size / 3) most_points && eqb bytes (bytes_for l (size / 3))) e)

pub too_many : (l : Layout) (n size bytes : ℕ) → most_points < n → size ≡ 3 * n → packable l size bytes ≡ false
too_many l n size bytes h e =
    let part = eqb (size % 3) 0 in
    ap (λ (t : Bool). t && eqb bytes (bytes_for l (size / 3))) (ap (λ (t : Bool). part && t) (lt-leb (size / 3) 4096 (omega arith)) ∙ and-false part)

pub packing_accepted : (l : Layout) (n : ℕ) (cs : List ℕ) (bytes : ℕ) → CodeLine l n cs → bytes ≡ bytes_for l n → n ≤ most_points → pack_answer l cs bytes ≡ Ok n
unfolding pack_answer
packing_accepted l n cs bytes p e h =
    pass _ (ap not p.valid)
    (pass _ (even_points l p.valid n p.whole (length cs) p.points)
    (pass _ (ap not (can_pack l p.valid n p.whole (length cs) bytes p.points e h))
    (pass _ (ap not p.codes) (ap Ok (points_in_lem l p.valid n p.whole bytes e)))))

pub unpacking_accepted : (l : Layout) (n : ℕ) (s : List ℕ) (codes : ℕ) → PackedLine l n s → codes ≡ 3 * n → n ≤ most_points → unpack_answer l (length s) codes ≡ Ok n
unfolding unpack_answer
unpacking_accepted l n s codes p e h =
    pass _ (ap not p.valid)
    (pass _ (ap not (can_unpack l p.valid n p.whole (length s) codes p.points e h)) (ap Ok (points_in_lem l p.valid n p.whole (length s) p.points)))
