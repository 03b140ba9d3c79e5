-- How large the numbers of a header are, and so how long it is. Assumes nothing.
use mathlib.Core.Path.{◌≡◌}
use mathlib.Core.Bool.{true, ◌||◌}
use mathlib.Core.Logic.{⊎_elim}
use Prim.Native.Nat.{ℕ, ◌^◌, ◌≤◌, ◌<◌}
use native.Mathlib.Omega.{arith}
use borrow.Author.Tests.{leb-true, eqb-true}
use lib.Dec.{eqb, leb}
use lib.ListN.{length}
use Rattle.lists.proofs.Tests.{and_right, and3, or_cases}
use Rattle.ppm_header.specs.Text.{header_text}
use Rattle.ppm_header.specs.Header.{largest_picture_side, side_taken, top_known, header_known}
use Rattle.ppm_header.proofs.Texts.{header_short}

side_small : (n : ℕ) → side_taken n ≡ true → n < 10 ^ 4
side_small n e = omega (arith, leb-true n largest_picture_side (and_right (leb 1 n) (leb n largest_picture_side) e))

top_small : (t : ℕ) → top_known t ≡ true → t < 10 ^ 4
top_small t e =
    ⊎_elim
    (λ a. ⊎_elim (λ p. omega (arith, eqb-true t 255 p)) (λ p. omega (arith, eqb-true t 1023 p)) (or_cases (eqb t 255) (eqb t 1023) a))
    (λ p. omega (arith, eqb-true t 4095 p))
    (or_cases (eqb t 255 || eqb t 1023) (eqb t 4095) e)

module _ (w h t : ℕ) (e : header_known w h t ≡ true) where
  -- at most four digits each
  pub known_small : (w < 10 ^ 4) × (h < 10 ^ 4) × (t < 10 ^ 4)
  known_small = let k = and3 (side_taken w) (side_taken h) (top_known t) e in (side_small w k.0, side_small h k.1, top_small t k.2)

  pub known_short : length (header_text w h t) ≤ 21
  known_short = let k = known_small in header_short w h t (omega (arith, k.0)) (omega (arith, k.1)) (omega (arith, k.2))
