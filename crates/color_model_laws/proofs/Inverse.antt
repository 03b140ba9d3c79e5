-- The equations undo each other, over values with one denominator. Assumes nothing.
use mathlib.Core.Path.{refl}
use Prim.Native.Nat.{ℕ, ◌-◌, ◌*◌, ◌<◌}
use native.Mathlib.Nat.{mul-pos}
use native.Mathlib.Omega.{arith}
use Rattle.fractions.specs.Fraction.{Fraction, Same}
use Rattle.fractions.proofs.Same.{Is, is_cut_lem, is_times, is_within, same_by}
use Rattle.color_equations.specs.declared.weights.Weights.{Weights}
use Rattle.color_equations.specs.Weights.{green_of}
use Rattle.color_equations.specs.Equations.{luma_of, chroma_of, primary_of, green_from}
use Rattle.color_equations.proofs.Whole.{luma_is, chroma_is, primary_is, green_is}

-- ---- a primary x and luma y, by the weight k
module _ (k : ℕ) (K : k < 10000) {x y : Fraction} {p n q m c : ℕ} (h : Is x p n c) (i : Is y q m c) where
  -- the primary, from luma and its difference
  primary_back : Is (primary_of k y (chroma_of k x y)) p n c
  primary_back = is_cut_lem (10000 * (2 * (10000 - k))) p n c (omega arith) (omega arith) (omega arith) (primary_is k (is_times (2 * (10000 - k)) i) (chroma_is k h i))

  -- the difference x, from its primary and any fraction that is luma
  chroma_back : {z : Fraction} → Is z q m c → Is (chroma_of k (primary_of k y x) z) p n c
  chroma_back j = is_cut_lem (10000 * (2 * (10000 - k))) p n c (omega arith) (omega arith) (omega arith) (chroma_is k (primary_is k i h) (is_times 10000 j))

-- ---- green and luma
module _ (w : Weights) (K : 0 < green_of w) {x y z : Fraction} {p n q m r l c : ℕ} (h : Is x p n c) (i : Is y q m c) (j : Is z r l c) where
  -- green, from the luma of x, y, z and any fractions that are x and z
  green_back : {u v : Fraction} → Is u p n c → Is v r l c → Is (green_from w (luma_of w x y z) u v) q m c
  green_back s t = is_cut_lem (10000 * green_of w) q m c (omega arith) (omega arith) (omega arith) (green_is w (luma_is w h i j) (is_times 10000 s) (is_times 10000 t))

  -- luma x, from the green that x, y, z give
  luma_back : Is (luma_of w y (green_from w x y z) z) p n c
  luma_back = is_cut_lem (10000 * green_of w) p n c (omega arith) (omega arith) (omega arith) (luma_is w (is_times (green_of w) i) (green_is w h i j) (is_times (green_of w) j))

-- ---- all three, over their common denominator
module _ (w : Weights) (K : 0 < green_of w) (x y z : Fraction) (X : 0 < x.den) (Y : 0 < y.den) (Z : 0 < z.den) where
  positive : 0 < 10000 * (x.den * y.den * z.den)
  positive = let C : 0 < x.den * y.den * z.den = mul-pos (mul-pos X Y) Z in omega arith

  first : (p : ℕ) × (n : ℕ) × Is x p n (x.den * y.den * z.den)
  first = is_within x (y.den * z.den) (x.den * y.den * z.den) (omega arith)

  second : (p : ℕ) × (n : ℕ) × Is y p n (x.den * y.den * z.den)
  second = is_within y (x.den * z.den) (x.den * y.den * z.den) (omega arith)

  third : (p : ℕ) × (n : ℕ) × Is z p n (x.den * y.den * z.den)
  third = is_within z (x.den * y.den) (x.den * y.den * z.den) refl

  -- x is R', y G' and z B'
  pub rgb_back : let k = luma_of w x y z in
      let u = primary_of w.red k (chroma_of w.red x k) in
      let v = primary_of w.blue k (chroma_of w.blue z k) in
      Same u x × Same (green_from w k u v) y × Same v z
  rgb_back =
      let a = is_times 10000 first.2 in
      let b = is_times 10000 second.2 in
      let d = is_times 10000 third.2 in
      let k = luma_is w first.2 second.2 third.2 in
      let u = primary_back w.red (omega arith) a k in
      let v = primary_back w.blue (omega arith) d k in
      (same_by u a positive, same_by (green_back w K a b d u v) b positive, same_by v d positive)

  -- x is Y', y Cb and z Cr
  pub ycbcr_back : let u = primary_of w.red x z in
      let v = primary_of w.blue x y in
      let k = luma_of w u (green_from w x u v) v in
      Same k x × Same (chroma_of w.blue v k) y × Same (chroma_of w.red u k) z
  ycbcr_back =
      let a = is_times 10000 first.2 in
      let b = is_times 10000 second.2 in
      let d = is_times 10000 third.2 in
      let k = luma_back w K a (primary_is w.red first.2 third.2) (primary_is w.blue first.2 second.2) in
      (same_by k a positive, same_by (chroma_back w.blue (omega arith) b a k) b positive, same_by (chroma_back w.red (omega arith) d a k) d positive)
