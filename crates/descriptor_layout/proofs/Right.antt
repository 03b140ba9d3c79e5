-- What right samples say of their numbers. Assumes nothing.
use mathlib.Core.Path.{◌≡◌}
use mathlib.Core.Bool.{Bool, true, false, cond, ◌&&◌}
use Prim.Native.Nat.{ℕ, ◌+◌, ◌*◌, ◌≤◌, ◌<◌}
use native.Mathlib.Omega.{arith}
use borrow.Author.Tests.{eqb-true, leb-true}
use lib.Dec.{eqb, leb}
use Rattle.lists.proofs.Tests.{and_left, and_right, and3}
use Rattle.parameters.specs.Parameters.{depth_known}
use Rattle.layout.specs.Layout.{bytes_known}
use Rattle.parameters.proofs.Depths.{known_between}
use Rattle.descriptor_samples.specs.declared.samples.Samples.{Samples}
use Rattle.descriptor_samples.specs.Samples.{each_once, in_order, samples_right}
use Rattle.descriptor_layout.specs.Told.{offset_in}

-- the facts behind the tests
pub record Right (bytes : ℕ) (s : Samples) : Type 0 where
  pub depth : depth_known (s.first.length + 1) ≡ true
  pub second_length : s.second.length ≡ s.first.length
  pub third_length : s.third.length ≡ s.first.length
  pub first_position : s.first.position ≡ 0
  pub second_position : s.second.position ≡ 0
  pub third_position : s.third.position ≡ 0
  pub channels : each_once s.first.channel s.second.channel s.third.channel ≡ true
  pub first_below : s.first.offset + (s.first.length + 1) ≤ s.second.offset
  pub second_below : s.second.offset + (s.first.length + 1) ≤ s.third.offset
  pub third_inside : s.third.offset + (s.first.length + 1) ≤ 8 * bytes

-- a chain of tests, part by part
parts : (d l m p q r c o : Bool) → d && l && m && p && q && r && c && o ≡ true
    → ((d ≡ true) × (l ≡ true) × (m ≡ true)) × ((p ≡ true) × (q ≡ true) × (r ≡ true)) × (c ≡ true) × (o ≡ true)
parts d l m p q r c o e =
    let orders = and3 (d && l && m && p && q && r) c o e in
    let positions = and3 (d && l && m && p) q r orders.0 in
    let lengths = and3 (d && l) m p positions.0 in
    ((and_left d l lengths.0, and_right d l lengths.0, lengths.1), (lengths.2, positions.1, positions.2), orders.1, orders.2)

pub right_says : (bytes : ℕ) (s : Samples) → samples_right bytes s ≡ true → Right bytes s
unfolding samples_right
right_says bytes s e =
    let n = s.first.length + 1 in
    let h =
    parts (depth_known n) (eqb s.second.length s.first.length) (eqb s.third.length s.first.length)
    (eqb s.first.position 0) (eqb s.second.position 0) (eqb s.third.position 0)
    (each_once s.first.channel s.second.channel s.third.channel)
    (in_order n s.first.offset s.second.offset s.third.offset bytes) e in
    let o = and3 (leb (s.first.offset + n) s.second.offset) (leb (s.second.offset + n) s.third.offset) (leb (s.third.offset + n) (8 * bytes)) h.3 in
    record {
      depth = h.0.0;
      second_length = eqb-true s.second.length s.first.length h.0.1;
      third_length = eqb-true s.third.length s.first.length h.0.2;
      first_position = eqb-true s.first.position 0 h.1.0;
      second_position = eqb-true s.second.position 0 h.1.1;
      third_position = eqb-true s.third.position 0 h.1.2;
      channels = h.2;
      first_below = leb-true (s.first.offset + n) s.second.offset o.0;
      second_below = leb-true (s.second.offset + n) s.third.offset o.1;
      third_inside = leb-true (s.third.offset + n) (8 * bytes) o.2;
    }

-- every offset is a byte
pub offset_lt : (bytes : ℕ) (s : Samples) (channel : ℕ) → bytes_known bytes ≡ true → samples_right bytes s ≡ true → offset_in s channel < 256
unfolding offset_in
offset_lt bytes s channel k e =
    let r = right_says bytes s e in
    let most : bytes ≤ 8 = leb-true bytes 8 (and_right (leb 3 bytes) (leb bytes 8) k) in
    of_three (eqb s.first.channel channel) (eqb s.second.channel channel) s.first.offset s.second.offset s.third.offset (omega arith) (omega arith) (omega arith)
  where
    of_three : (t u : Bool) (x y z : ℕ) → x < 256 → y < 256 → z < 256 → cond t x (cond u y z) < 256
    of_three true u x y z a b c = a
    of_three false true x y z a b c = b
    of_three false false x y z a b c = c

-- and a length is below 12
pub length_lt : (bytes : ℕ) (s : Samples) → samples_right bytes s ≡ true → s.first.length + 1 < 256
length_lt bytes s e = omega (arith, known_between (s.first.length + 1) (right_says bytes s e).depth)
