-- G' out of narrow range, with the common factors taken out, is the same fraction as the equation's. Assumes nothing.
use mathlib.Core.Path.{◌≡◌, refl, sym, ap, ap₂, ◌∙◌}
use mathlib.Core.Bool.{Bool, true, ◌&&◌}
use Prim.Native.Nat.{ℕ, zero, suc, ◌+◌, ◌-◌, ◌*◌, ◌/◌, ◌<◌}
use native.Mathlib.Nat.{mul_assoc, mul_comm, mul_left_comm, mul-add, add-mul, zero-mul, mul-pos, mul-div-mul_right, eq_of_mul-eq-mul_right}
use native.Mathlib.Omega.{arith}
use borrow.Author.Tests.{eqb-true, leb-true}
use lib.Dec.{eqb, leb}
use Rattle.lists.specs.Lists.{tabulate, every}
use Rattle.lists.proofs.Tests.{and_left, and_right}
use Rattle.lists.proofs.Numbers.{sub_mul}
use Rattle.parameters.specs.declared.range.Range.{Range}
use Rattle.parameters.specs.declared.range.Range.TheVariants.{Narrow, Full, LegacyFull}
use Rattle.parameters.specs.declared.depth.Depth.{Depth}
use Rattle.parameters.specs.declared.depth.Depth.TheVariants.{Eight, Ten, Twelve}
use Rattle.parameters.specs.declared.kind.Kind.TheVariants.{Brightness}
use Rattle.parameters.specs.Parameters.{primaries_known, bits_of, step_of}
use Rattle.parameters.proofs.Depths.{depth_steps}
use Rattle.fractions.specs.Fraction.{bounded}
use Rattle.fractions.proofs.Cuts.{outside, outside_same}
use Rattle.floats.specs.declared.Ends.{Ends}
use Rattle.scale.specs.declared.Scale.{Scale}
use Rattle.scale.specs.Scale.{scale_of}
use Rattle.color_equations.specs.declared.weights.Weights.{Weights}
use Rattle.color_equations.specs.Weights.{weights_of, green_of}
use Rattle.color_equations.proofs.Table.{each-known}
use Rattle.color_numbers.specs.declared.green.GreenTerms.{GreenTerms}
use Rattle.color_numbers.specs.declared.green.Ratio.{Ratio}
use Rattle.color_numbers.specs.inner.Green.{green_terms, ratio_of}
use Rattle.color_numbers.specs.inner.Spread.{spread_of}
use Rattle.color_numbers.proofs.Table.{ratio_small}
use Rattle.color_rows.specs.declared.linear.Row.{Row}
use Rattle.color_rows.specs.inner.Green.{narrow_green_value}
use Rattle.color_rows.specs.inner.Rows.{coded_of, code_row, green_value}
use Rattle.color_rows_laws.proofs.Rows.{plus_at, minus_at, clamped_by, clamped_at}

-- ---- rows of one fraction

-- k times the numbers of a are l times those of b
record Alike (a b : Row) (k l : ℕ) : Type 0 where
  plus0 : a.sum.plus0 * k ≡ b.sum.plus0 * l
  plus1 : a.sum.plus1 * k ≡ b.sum.plus1 * l
  plus2 : a.sum.plus2 * k ≡ b.sum.plus2 * l
  plus : a.sum.plus * k ≡ b.sum.plus * l
  minus0 : a.sum.minus0 * k ≡ b.sum.minus0 * l
  minus1 : a.sum.minus1 * k ≡ b.sum.minus1 * l
  minus2 : a.sum.minus2 * k ≡ b.sum.minus2 * l
  minus : a.sum.minus * k ≡ b.sum.minus * l
  over : a.over * k ≡ b.over * l
  ends : a.ends ≡ b.ends

linear_times : (p q r s x y z k : ℕ) → (p * x + q * y + r * z + s) * k ≡ p * k * x + q * k * y + r * k * z + s * k
linear_times p q r s x y z k = simp (add-mul, mul_assoc, mul_comm)

sums-alike : (p q r s p' q' r' s' x y z k l : ℕ) → p * k ≡ p' * l → q * k ≡ q' * l → r * k ≡ r' * l → s * k ≡ s' * l → (p * x + q * y + r * z + s) * k ≡ (p' * x + q' * y + r' * z + s') * l
sums-alike p q r s p' q' r' s' x y z k l a b c d = linear_times p q r s x y z k ∙ rw (a, b, c, d) refl ∙ sym (linear_times p' q' r' s' x y z l)

-- a fraction by a common multiple: X k = Y l over d k = c l
crossed : (X Y d c k l : ℕ) → 0 < k → 0 < l → X * k ≡ Y * l → d * k ≡ c * l → X * c ≡ Y * d
crossed X Y d c k l K L e o = eq_of_mul-eq-mul_right (k * l) (mul-pos K L) (X * c) (Y * d) (sort X c k l ∙ ap₂ (λ (u v : ℕ). u * v) e (sym o) ∙ back Y l d k)
  where
    sort : (X c k l : ℕ) → X * c * (k * l) ≡ X * k * (c * l)
    sort X c k l = simp (mul_assoc, mul_left_comm)

    back : (Y l d k : ℕ) → Y * l * (d * k) ≡ Y * d * (k * l)
    back Y l d k = simp (mul_assoc, mul_comm, mul_left_comm)

-- what has a product above 0
factor_some : (d k n : ℕ) → d * k ≡ n → 0 < n → 0 < d
factor_some zero k n e h = absurd (omega (arith, zero-mul k))
factor_some (suc d) k n e h = omega arith

-- two differences over divisors, one value: rounded down they are one number, and both or neither lie outside the ends
alike-clamped : (e : Ends) (P M Q N d c k l : ℕ) → 0 < k → 0 < l → 0 < c → P * k ≡ Q * l → M * k ≡ N * l → d * k ≡ c * l → clamped_by e d P M ≡ clamped_by e c Q N
alike-clamped e P M Q N d c k l K L C p m o = λ i. record { code = bounded e.low e.high (quotients i); cut = outsides i }
  where
    differences : (A B : ℕ) → A * k ≡ B * l → (A - M) * k ≡ (B - N) * l
    differences A B h = sub_mul A M k ∙ ap₂ (λ (u v : ℕ). u - v) h m ∙ sym (sub_mul B N l)

    quotients : (P - M) / d ≡ (Q - N) / c
    quotients = sym (mul-div-mul_right (P - M) d K) ∙ ap₂ (λ (u v : ℕ). u / v) (differences P Q p) o ∙ mul-div-mul_right (Q - N) c L

    -- 4096 above
    above : (P + 4096 * d) * k ≡ (Q + 4096 * c) * l
    above = add-mul P (4096 * d) k ∙ ap₂ (λ (u v : ℕ). u + v) p (mul_assoc 4096 d k ∙ ap (λ (u : ℕ). 4096 * u) o ∙ sym (mul_assoc 4096 c l)) ∙ sym (add-mul Q (4096 * c) l)

    outsides : outside e.strict e.low e.high (P + 4096 * d - M) d ≡ outside e.strict e.low e.high (Q + 4096 * c - N) c
    outsides = outside_same e.strict e.low e.high (P + 4096 * d - M) d (Q + 4096 * c - N) c (factor_some d k (c * l) o (mul-pos C L)) C
        (crossed (P + 4096 * d - M) (Q + 4096 * c - N) d c k l K L (differences (P + 4096 * d) (Q + 4096 * c) above) o)

alike_rows : (a b : Row) (k l : ℕ) → 0 < k → 0 < l → 0 < b.over → Alike a b k l → (x y z : ℕ) → clamped_at a x y z ≡ clamped_at b x y z
alike_rows a b k l K L B e x y z =
    let P = plus_at a.sum x y z in
    let M = minus_at a.sum x y z in
    let Q = plus_at b.sum x y z in
    let N = minus_at b.sum x y z in
    let p : P * k ≡ Q * l = sums-alike a.sum.plus0 a.sum.plus1 a.sum.plus2 a.sum.plus b.sum.plus0 b.sum.plus1 b.sum.plus2 b.sum.plus x y z k l e.plus0 e.plus1 e.plus2 e.plus in
    let m : M * k ≡ N * l = sums-alike a.sum.minus0 a.sum.minus1 a.sum.minus2 a.sum.minus b.sum.minus0 b.sum.minus1 b.sum.minus2 b.sum.minus x y z k l e.minus0 e.minus1 e.minus2 e.minus in
    ap (λ (h : Ends). clamped_by h a.over P M) e.ends ∙ alike-clamped b.ends P M Q N a.over b.over k l K L B p m e.over

-- ---- the table: by a factor, its terms are those of the equation
pub record Right (w : Weights) (g : GreenTerms) : Type 0 where
  pub factor : ℕ
  pub some : 0 < factor
  pub luma : 10000 * green_of w * 224 ≡ factor * g.luma
  pub red : 2 * w.red * (10000 - w.red) * 219 ≡ factor * g.red
  pub blue : 2 * w.blue * (10000 - w.blue) * 219 ≡ factor * g.blue
  pub half : 5000 * green_of w * 49056 ≡ factor * (21 * g.half)

abbrev factor_of : ℕ → ℕ
factor_of p = 10000 * green_of (weights_of p) * 224 / (green_terms p).luma

abbrev right : ℕ → Bool
right p =
    let w = weights_of p in
    let g = green_terms p in
    leb 1 (factor_of p)
    && eqb (10000 * green_of w * 224) (factor_of p * g.luma)
    && eqb (2 * w.red * (10000 - w.red) * 219) (factor_of p * g.red)
    && eqb (2 * w.blue * (10000 - w.blue) * 219) (factor_of p * g.blue)
    && eqb (5000 * green_of w * 49056) (factor_of p * (21 * g.half))

all_right : every right (tabulate 4 suc) ≡ true
unfolding every tabulate
all_right = refl

pub terms_right : (p : ℕ) → primaries_known p ≡ true → Right (weights_of p) (green_terms p)
terms_right p e =
    let w = weights_of p in
    let g = green_terms p in
    let k = factor_of p in
    let h = each-known right all_right p e in
    let a = leb 1 k in
    let b = eqb (10000 * green_of w * 224) (k * g.luma) in
    let c = eqb (2 * w.red * (10000 - w.red) * 219) (k * g.red) in
    let d = eqb (2 * w.blue * (10000 - w.blue) * 219) (k * g.blue) in
    let f = eqb (5000 * green_of w * 49056) (k * (21 * g.half)) in
    let h4 = and_left (a && b && c && d) f h in
    let h3 = and_left (a && b && c) d h4 in
    let h2 = and_left (a && b) c h3 in
    record {
      factor = k;
      some = leb-true 1 k (and_left a b h2);
      luma = eqb-true (10000 * green_of w * 224) (k * g.luma) (and_right a b h2);
      red = eqb-true (2 * w.red * (10000 - w.red) * 219) (k * g.red) (and_right (a && b) c h3);
      blue = eqb-true (2 * w.blue * (10000 - w.blue) * 219) (k * g.blue) (and_right (a && b && c) d h4);
      half = eqb-true (5000 * green_of w * 49056) (k * (21 * g.half)) (and_right (a && b && c && d) f h);
    }

-- ---- the ratio: the span of what comes out, over 21 s
ratio_right : (to : Range) (d : Depth) → (scale_of to (bits_of d) Brightness).span * (ratio_of to d).whole ≡ 21 * step_of (bits_of d) * (ratio_of to d).span
unfolding scale_of
ratio_right Narrow Eight = refl
ratio_right Narrow Ten = refl
ratio_right Narrow Twelve = refl
ratio_right Full Eight = refl
ratio_right Full Ten = refl
ratio_right Full Twelve = refl
ratio_right LegacyFull d = omega (arith, depth_steps d)

-- ---- both rows of G'

-- a term of the one: the span P, R of W in lowest terms over u, and X by a factor T
term_alike : (P R W u T X x : ℕ) → P * W ≡ u * R → X ≡ T * x → P * X * W ≡ R * x * (u * T)
term_alike P R W u T X x e f = ap (λ (m : ℕ). P * m * W) f ∙ sort P T x W ∙ ap (λ (m : ℕ). m * (T * x)) e ∙ back u R T x
  where
    sort : (P T x W : ℕ) → P * (T * x) * W ≡ P * W * (T * x)
    sort P T x W = simp (mul_assoc, mul_comm, mul_left_comm)

    back : (u R T x : ℕ) → u * R * (T * x) ≡ R * x * (u * T)
    back u R T x = simp (mul_assoc, mul_comm, mul_left_comm)

module _ (w : Weights) (g : GreenTerms) (to : Range) (d : Depth) (h : Right w g) where
  abbrev s : ℕ
  s = step_of (bits_of d)

  abbrev T : ℕ
  T = h.factor

  abbrev sc : Scale
  sc = scale_of to (bits_of d) Brightness

  abbrev r : Ratio
  r = ratio_of to d

  abbrev whole_row : Row
  whole_row = code_row (green_value w (spread_of Narrow (bits_of d))) sc

  abbrev lowest_row : Row
  lowest_row = coded_of (narrow_green_value g (spread_of Narrow (bits_of d)) r) r.span sc

  abbrev k : ℕ
  k = r.whole

  abbrev l : ℕ
  l = 21 * s * T

  by : (X x : ℕ) → X ≡ T * x → sc.span * X * k ≡ r.span * x * l
  by X x e = term_alike sc.span r.span k (21 * s) T X x (ratio_right to d) e

  none : sc.span * 0 * k ≡ r.span * 0 * l
  none = by 0 0 (omega arith)

  halves : 5000 * green_of w * (49056 * s) * k ≡ g.half * k * l
  halves = ap (λ (m : ℕ). m * k) (sym (mul_assoc (5000 * green_of w) 49056 s) ∙ ap (λ (m : ℕ). m * s) h.half) ∙ sort T g.half s k
    where
      sort : (T f s k : ℕ) → T * (21 * f) * s * k ≡ f * k * (21 * s * T)
      sort T f s k = simp (mul_assoc, mul_comm, mul_left_comm)

  -- a multiple of both halves
  times : (m : ℕ) → m * (5000 * green_of w * (49056 * s)) * k ≡ m * (g.half * k) * l
  times m = mul_assoc m (5000 * green_of w * (49056 * s)) k ∙ ap (λ (n : ℕ). m * n) halves ∙ sym (mul_assoc m (g.half * k) l)

  chroma : (n : ℕ) → (2 * w.blue * (10000 - w.blue) + 2 * w.red * (10000 - w.red)) * 219 * n ≡ T * ((g.blue + g.red) * n)
  chroma n =
      ap (λ (m : ℕ). m * n) (add-mul (2 * w.blue * (10000 - w.blue)) (2 * w.red * (10000 - w.red)) 219 ∙ ap₂ (λ (u v : ℕ). u + v) h.blue h.red ∙ sym (mul-add T g.blue g.red))
      ∙ mul_assoc T (g.blue + g.red) n

  -- the sum of a term and a half, and a term of black
  sum : (A B C D : ℕ) → A * k ≡ C * l → B * k ≡ D * l → (A + B) * k ≡ (C + D) * l
  sum A B C D e f = add-mul A B k ∙ ap₂ (λ (u v : ℕ). u + v) e f ∙ sym (add-mul C D l)

  black : (n : ℕ) → 10000 * green_of w * 224 * n ≡ T * (g.luma * n)
  black n = ap (λ (m : ℕ). m * n) h.luma ∙ mul_assoc T g.luma n

  both : Alike whole_row lowest_row k l
  unfolding coded_of green_value narrow_green_value
  both =
      record {
        plus0 = by (10000 * green_of w * 224) g.luma h.luma;
        plus1 = none;
        plus2 = none;
        plus = sum
            (sc.span * ((2 * w.blue * (10000 - w.blue) + 2 * w.red * (10000 - w.red)) * 219 * (128 * s))) ((2 * sc.base + 1) * (5000 * green_of w * (49056 * s)))
            (r.span * ((g.blue + g.red) * (128 * s))) ((2 * sc.base + 1) * (g.half * k))
            (by ((2 * w.blue * (10000 - w.blue) + 2 * w.red * (10000 - w.red)) * 219 * (128 * s)) ((g.blue + g.red) * (128 * s)) (chroma (128 * s)))
            (times (2 * sc.base + 1));
        minus0 = none;
        minus1 = by (2 * w.blue * (10000 - w.blue) * 219) g.blue h.blue;
        minus2 = by (2 * w.red * (10000 - w.red) * 219) g.red h.red;
        minus = by (10000 * green_of w * 224 * (16 * s)) (g.luma * (16 * s)) (black (16 * s));
        over = times 2;
        ends = refl;
      }

  pub lowest_whole : 0 < g.half → (y cb cr : ℕ) → clamped_at lowest_row y cb cr ≡ clamped_at whole_row y cb cr
  unfolding coded_of narrow_green_value
  lowest_whole some y cb cr =
      sym (alike_rows whole_row lowest_row k l (ratio_small to d).some (mul-pos {m = 21 * s} (omega (arith, depth_steps d)) h.some) (omega (arith, mul-pos some (ratio_small to d).some)) both y cb cr)
