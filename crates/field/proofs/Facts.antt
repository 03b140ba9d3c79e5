-- What a valid layout says of its fields. Assumes nothing.
use mathlib.Core.Path.{◌≡◌}
use mathlib.Core.Bool.{true}
use Prim.Native.Nat.{ℕ, zero, suc, ◌+◌, ◌*◌, ◌≤◌, ◌<◌}
use native.Mathlib.Omega.{arith}
use Rattle.layout.specs.declared.Layout.{Layout}
use Rattle.layout.specs.Layout.{offset_of, valid_points}
use Rattle.layout.proofs.Facts.{points_say}
use Rattle.field.specs.Field.{field_of}

-- the field of a channel: n bits at a bit of a byte, in one to three bytes of the point
pub record Placed (l : Layout) (channel : ℕ) : Type 0 where
  pub bits_least : 8 ≤ l.depth
  pub bits_most : l.depth ≤ 12
  pub from_less : (field_of l channel).from < 8
  pub begins : offset_of l channel ≡ 8 * (field_of l channel).first + (field_of l channel).from
  pub ends : l.depth + (field_of l channel).from ≤ 8 * (field_of l channel).count
  pub tight : 8 * (field_of l channel).count < l.depth + (field_of l channel).from + 8
  pub inside : (field_of l channel).first + (field_of l channel).count ≤ l.bytes
  pub whole : offset_of l channel + l.depth ≤ 8 * l.bytes

pub placed : (l : Layout) (channel : ℕ) → valid_points l ≡ true → Placed l channel
placed l channel ok =
    let v = points_say l ok in
    let within : (k : ℕ) → offset_of l k + l.depth ≤ 8 * l.bytes = inside l ok in
    let w = within channel in
    record {
      bits_least = v.depth_least;
      bits_most = v.depth_most;
      from_less = omega arith;
      begins = omega arith;
      ends = omega (arith, v.depth_least);
      tight = omega (arith, v.depth_least);
      inside = omega (arith, v.depth_least, w);
      whole = w;
    }
  where
    inside : (l : Layout) → valid_points l ≡ true → (k : ℕ) → offset_of l k + l.depth ≤ 8 * l.bytes
    inside l ok zero = (points_say l ok).inside0
    inside l ok (suc zero) = (points_say l ok).inside1
    inside l ok (suc (suc k)) = (points_say l ok).inside2
