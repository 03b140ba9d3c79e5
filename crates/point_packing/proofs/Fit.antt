-- What it means that points fit. Assumes nothing.
use mathlib.Core.Path.{◌≡◌}
use mathlib.Core.Bool.{true, ◌&&◌}
use Prim.Native.Nat.{ℕ, ◌+◌, ◌*◌, ◌≤◌, ◌<◌}
use native.Mathlib.Nat.{mul-add, mul-le-mul_left, mul_comm}
use native.Mathlib.Omega.{arith}
use borrow.Author.Tests.{leb-true, le-leb}
use lib.Dec.{leb}
use Rattle.lists.proofs.Tests.{and_left, and_right}
use Rattle.point_packing.specs.inner.Store.{points_fit}

pub record PointsFit (size i count bytes : ℕ) : Type 0 where
  pub least : 3 ≤ size
  pub most : size ≤ 8
  pub first : i ≤ 4096
  pub fits : size * (i + count) ≤ bytes

module _ (size i count bytes : ℕ) where
  pub fit_says : points_fit size i count bytes ≡ true → PointsFit size i count bytes
  fit_says e =
      let a = leb 3 size in
      let b = leb size 8 in
      let c = leb i 4096 in
      let d = leb (size * (i + count)) bytes in
      let f = and_left (a && b && c) d e in
      let g = and_left (a && b) c f in
      record { least = leb-true 3 size (and_left a b g); most = leb-true size 8 (and_right a b g); first = leb-true i 4096 (and_right (a && b) c f); fits = leb-true (size * (i + count)) bytes (and_right (a && b && c) d e) }

  pub fit_is : PointsFit size i count bytes → points_fit size i count bytes ≡ true
  fit_is r = (λ k. le-leb 3 size r.least k && le-leb size 8 r.most k && le-leb i 4096 r.first k && le-leb (size * (i + count)) bytes r.fits k)

  -- eight bytes from a point on, which two more points follow
  pub eight_fit : PointsFit size i count bytes → (k : ℕ) → k + 3 ≤ count → size * (i + k) + 8 ≤ bytes
  eight_fit r k h = omega (arith, r.fits, r.least, mul-le-mul_left {m = i + k + 3} {n = i + count} size (omega arith), mul-add size (i + k) 3, mul_comm size 3)

  -- the bytes of a point alone
  pub point_fits : PointsFit size i count bytes → (k : ℕ) → k < count → size * (i + k) + size ≤ bytes
  point_fits r k h = omega (arith, r.fits, mul-le-mul_left {m = i + k + 1} {n = i + count} size (omega arith), mul-add size (i + k) 1)
