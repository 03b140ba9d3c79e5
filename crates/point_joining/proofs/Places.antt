-- Three codes joined by the machine's operations stand in their places. Assumes nothing.
use mathlib.Core.Path.{◌≡◌}
use mathlib.Core.Bool.{true}
use Prim.Native.Nat.{ℕ, ◌%◌, ◌^◌, ◌<◌}
use native.Mathlib.Omega.{arith}
use Rattle.layout.specs.declared.Layout.{Layout}
use Rattle.layout.specs.Layout.{valid_points}
use Rattle.layout.proofs.Facts.{points_say}
use Rattle.line.specs.Point.{in_place}
use Rattle.line.proofs.Joins.{machine_sum}
use Rattle.point_joining.specs.inner.Places.{joined_bits}

-- three codes that fit, joined
pub join_is : (l : Layout) → valid_points l ≡ true → (a b c : ℕ) → a < 2 ^ l.depth → b < 2 ^ l.depth → c < 2 ^ l.depth → joined_bits l a b c ≡ in_place l a b c
unfolding joined_bits
join_is l ok a b c ha hb hc =
    let r = points_say l ok in
    let e0 : l.offset0 % 64 ≡ l.offset0 = omega (arith, r) in
    let e1 : l.offset1 % 64 ≡ l.offset1 = omega (arith, r) in
    let e2 : l.offset2 % 64 ≡ l.offset2 = omega (arith, r) in
    rw (e0, e1, e2) (machine_sum l ok a b c ha hb hc 64 (omega (arith, r)))
