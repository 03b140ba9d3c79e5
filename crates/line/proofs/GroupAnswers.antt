-- The rows of lines of groups that go by lengths alone, by the tests that lead to them: unpacking and decoding share theirs, and so do packing and encoding. Assumes nothing.
use mathlib.Core.Path.{◌≡◌, refl, sym, ap, ◌∙◌}
use mathlib.Core.Bool.{Bool, true, false, not, ◌&&◌, true≢false}
use Prim.Native.Nat.{ℕ, ◌*◌, ◌/◌, ◌%◌, ◌≤◌}
use native.Mathlib.Omega.{arith}
use borrow.Author.Tests.{leb-true, eqb-true}
use lib.Dec.{leb, eqb}
use Rattle.lists.proofs.Tests.{and3, pass, stop}
use Rattle.layout.specs.declared.Layout.{Layout}
use Rattle.layout.specs.Layout.{grouped, valid_groups, valid_layout}
use Rattle.layout.proofs.Facts.{valid_groups_lem}
use Rattle.line.specs.Answer.{most_points, odd_points, packable, unpack_answer}
use Rattle.std.specs.Prelude.{Ok, Err}
use Rattle.refusal.specs.declared.Refusal.TheVariants.{Outside, WrongLineOrOutput}
use Rattle.line.proofs.Grouped.{group_points, group_unpackable, group_odd, group_packable}

-- ---- out of groups

-- so many bytes are of whole groups, few enough, and the output has six elements a group
abbrev pub unpack_fits : ℕ → ℕ → Bool
unpack_fits bytes output = eqb (bytes % 4) 0 && leb (2 * (bytes / 4)) most_points && eqb output (3 * (2 * (bytes / 4)))

pub unpack_sizes : (bytes output : ℕ) → unpack_fits bytes output ≡ true → (bytes ≡ 4 * (bytes / 4)) × (output ≡ 6 * (bytes / 4))
unpack_sizes bytes output e =
    let h = and3 (eqb (bytes % 4) 0) (leb (2 * (bytes / 4)) most_points) (eqb output (3 * (2 * (bytes / 4)))) e in
    (omega (arith, eqb-true (bytes % 4) 0 h.0), omega (arith, eqb-true output (3 * (2 * (bytes / 4))) h.2))

module _ (l : Layout) (bytes output : ℕ) where
  pub unpack_outside : valid_layout l ≡ false → unpack_answer l bytes output ≡ Err Outside
  unfolding unpack_answer
  unpack_outside e = stop _ (ap not e)

  pub unpack_unfit : valid_layout l ≡ true → grouped l ≡ true → unpack_fits bytes output ≡ false → unpack_answer l bytes output ≡ Err WrongLineOrOutput
  unfolding unpack_answer
  unpack_unfit e g f = pass _ (ap not e) (stop _ (ap not (group_unpackable l (valid_groups_lem l e g) bytes output ∙ f)))

  pub unpack_points_lem : valid_layout l ≡ true → grouped l ≡ true → unpack_fits bytes output ≡ true → unpack_answer l bytes output ≡ Ok (2 * (bytes / 4))
  unfolding unpack_answer
  unpack_points_lem e g f =
      pass _ (ap not e) (pass _ (ap not (group_unpackable l (valid_groups_lem l e g) bytes output ∙ f)) (ap Ok (group_points l (valid_groups_lem l e g) bytes)))

-- ---- into groups

-- so many elements are of whole points, and of an odd count of them
abbrev pub odd_groups : ℕ → Bool
odd_groups size = eqb (size % 3) 0 && not (eqb (size / 3 % 2) 0)

-- they are of whole points, few enough, and the output has four bytes for two of them
abbrev pub pack_fits : ℕ → ℕ → Bool
pack_fits size bytes = eqb (size % 3) 0 && leb (size / 3) most_points && eqb bytes (4 * (size / 3 / 2))

-- so they are of whole groups
pub pack_sizes : (size bytes : ℕ) → odd_groups size ≡ false → pack_fits size bytes ≡ true → (size ≡ 6 * (size / 3 / 2)) × (bytes ≡ 4 * (size / 3 / 2)) × (size / 3 / 2 ≤ 2048)
pack_sizes size bytes o e =
    let h = and3 (eqb (size % 3) 0) (leb (size / 3) most_points) (eqb bytes (4 * (size / 3 / 2))) e in
    let two = eqb-true (size / 3 % 2) 0 (even (eqb (size % 3) 0) (eqb (size / 3 % 2) 0) o h.0) in
    (omega (arith, eqb-true (size % 3) 0 h.0, two), eqb-true bytes (4 * (size / 3 / 2)) h.2, omega (arith, leb-true (size / 3) most_points h.1))
  where
    even : (a b : Bool) → a && not b ≡ false → a ≡ true → b ≡ true
    even true true e f = refl
    even true false e f = sym e
    even false b e f = absurd (true≢false (sym f))

module _ (l : Layout) (ok : valid_groups l ≡ true) where
  pub odd_so : (size : ℕ) {t : Bool} → odd_groups size ≡ t → odd_points l size ≡ t
  odd_so size o = group_odd l ok size ∙ o

  pub fits-so : (size bytes : ℕ) {t : Bool} → pack_fits size bytes ≡ t → not (packable l size bytes) ≡ not t
  fits-so size bytes f = ap not (group_packable l ok size bytes ∙ f)
