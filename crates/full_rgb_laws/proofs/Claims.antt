-- The claims of specs/Claims.antt. Assumes nothing.
use mathlib.Core.Path.{◌≡◌, refl, sym, ap, ap₂, ◌∙◌, subst}
use mathlib.Core.Bool.{Bool, true, false, cond, ◌&&◌}
use Prim.Native.Nat.{ℕ, zero, suc, ◌+◌, ◌*◌, ◌/◌, ◌%◌, ◌≤◌, ◌<◌}
use native.Mathlib.Omega.{arith}
use borrow.Author.Tests.{le-leb, eq-eqb}
use lib.Dec.{eqb, leb}
use lib.IntN.{ℤ, pos, negsuc}
use lib.ListN.{length, get_or}
use Rattle.lists.proofs.Lists.{is_tabulate, length-tabulate, get_or-tabulate}
use Rattle.lists.proofs.Every.{every_of}
use Rattle.fractions.specs.declared.Clamped.{Clamped}
use Rattle.fractions.specs.Fraction.{Fraction, clamp}
use Rattle.layout.specs.declared.Layout.{Layout}
use Rattle.parameters.specs.declared.range.Range.TheVariants.{Full}
use Rattle.parameters.specs.declared.kind.Kind.TheVariants.{Brightness}
use Rattle.parameters.specs.declared.depth.Depth.{Depth}
use Rattle.parameters.specs.Parameters.{range_of, depth_of, bits_of, top_of}
use Rattle.layout.specs.Layout.{valid_layout}
use Rattle.parameters.proofs.Depths.{known-bits}
use Rattle.layout.proofs.Facts.{Valid, valid_says}
use Rattle.scale.specs.Scale.{scale_of}
use Rattle.quantization.specs.Code.{unclamped, code_of_value}
use Rattle.color_equations.specs.Weights.{weights_of}
use Rattle.color_equations.specs.Conversion.{pick, as_brightness, rgb_of}
use Rattle.color_equations.specs.Line.{convertible, converted_at, converted_of}
use Rattle.color_rows.specs.inner.Known.{rgb_conversion}
use Rattle.color_rows_laws.proofs.Claims.{to_rgb_exact}
use Rattle.color_rows_laws.proofs.Lines.{code_le, converted_same}
use Rattle.full_rgb.specs.declared.Way.TheVariants.{Each, Rows}
use Rattle.full_rgb.specs.Full.{stretched_of, as_it_is, full_of, full_codes}
use Rattle.full_rgb.specs.inner.Way.{narrow_stretch, no_stretch, stretched_by, each_code, rgb_way, ycbcr_way, way_of, way_code}
use Rattle.full_rgb.proofs.Stretches.{pick_code}
use Rattle.full_rgb_laws.specs.Claims.{WayIsFull, ConvertsAsALine, StaysWithin, FullAsItIs}
use Rattle.full_rgb_laws.proofs.Narrow.{narrow_exact}

-- ---- one point

-- what holds of three holds of the one that is picked
picked : {A : Type 0} (P : A → Type 0) (j : ℕ) (x y z : A) → P x → P y → P z → P (pick j x y z)
picked P zero x y z a b c = a
picked P (suc zero) x y z a b c = b
picked P (suc (suc j)) x y z a b c = c

not_stretched : (d : Depth) (c : ℕ) → c ≤ top_of (bits_of d) → stretched_by (no_stretch d) c ≡ c
not_stretched d c h = omega (arith, h)

module _ (l : Layout) (ok : valid_layout l ≡ true) where
  v : Valid l
  v = valid_says l ok

  bits : bits_of (depth_of l.depth) ≡ l.depth
  bits = known-bits l.depth v.depth

  -- the weights, the depth and both ranges are known
  converts : convertible l.primaries l.depth l.range 2 ≡ true
  converts = λ i. v.primaries i && v.depth i && v.range i && true

  module _ (x y z j : ℕ) (hx : x ≤ top_of l.depth) (hy : y ≤ top_of l.depth) (hz : z ≤ top_of l.depth) where
    small : pick j x y z ≤ top_of (bits_of (depth_of l.depth))
    small = subst (λ (m : ℕ). pick j x y z ≤ top_of m) (sym bits) (picked (λ c. c ≤ top_of l.depth) j x y z hx hy hz)

    of_rgb_lem : (t : Bool) → eqb l.range 1 ≡ t → (way_code (rgb_way l.range (depth_of l.depth)) x y z j).code ≡ (cond (eqb l.range 1) (stretched_of l.depth (pick j x y z)) (as_it_is (pick j x y z))).code
    unfolding each_code
    of_rgb_lem true e =
        ap (λ (t : Bool). (way_code (cond t (Each (narrow_stretch (depth_of l.depth))) (Each (no_stretch (depth_of l.depth)))) x y z j).code) e
        ∙ narrow_exact (depth_of l.depth) (pick j x y z) small
        ∙ ap (λ (m : ℕ). (stretched_of m (pick j x y z)).code) bits
        ∙ ap (λ (t : Bool). (cond t (stretched_of l.depth (pick j x y z)) (as_it_is (pick j x y z))).code) (sym e)
    of_rgb_lem false e =
        ap (λ (t : Bool). (way_code (cond t (Each (narrow_stretch (depth_of l.depth))) (Each (no_stretch (depth_of l.depth)))) x y z j).code) e
        ∙ not_stretched (depth_of l.depth) (pick j x y z) small
        ∙ ap (λ (t : Bool). (cond t (stretched_of l.depth (pick j x y z)) (as_it_is (pick j x y z))).code) (sym e)

    point_full : (t : Bool) → eqb l.model 2 ≡ t → (way_code (way_of l (depth_of l.depth)) x y z j).code ≡ (full_of l x y z j).code
    unfolding full_of
    point_full true e =
        ap (λ (t : Bool). (way_code (cond t (ycbcr_way l (depth_of l.depth)) (rgb_way l.range (depth_of l.depth))) x y z j).code) e
        ∙ ap (λ (t : Bool). (way_code (cond t (Rows (rgb_conversion l.primaries l.depth l.range 2).rows) (rgb_way l.range (depth_of l.depth))) x y z j).code) converts
        ∙ ap (λ (c : Clamped). c.code) (to_rgb_exact l.primaries l.depth l.range 2 converts x y z j hx hy hz)
        ∙ ap (λ (t : Bool). (cond t (rgb_of (weights_of l.primaries) l.depth (range_of l.range) Full x y z j) (cond (eqb l.range 1) (stretched_of l.depth (pick j x y z)) (as_it_is (pick j x y z)))).code) (sym e)
    point_full false e =
        ap (λ (t : Bool). (way_code (cond t (ycbcr_way l (depth_of l.depth)) (rgb_way l.range (depth_of l.depth))) x y z j).code) e
        ∙ of_rgb_lem (eqb l.range 1) refl
        ∙ ap (λ (t : Bool). (cond t (rgb_of (weights_of l.primaries) l.depth (range_of l.range) Full x y z j) (cond (eqb l.range 1) (stretched_of l.depth (pick j x y z)) (as_it_is (pick j x y z)))).code) (sym e)

pub way_is_full : WayIsFull
way_is_full l cs ok w =
    converted_same (way_code (way_of l (depth_of l.depth))) (full_of l) (top_of l.depth) cs w (λ x y z j a b c. point_full l ok x y z j a b c (eqb l.model 2) refl)

pub converts_as_a_line : ConvertsAsALine
unfolding converted_of converted_at full_of
converts_as_a_line l cs m =
    ap (λ (t : Bool). converted_of (λ x y z j. cond t (rgb_of (weights_of l.primaries) l.depth (range_of l.range) Full x y z j) (cond (eqb l.range 1) (stretched_of l.depth (pick j x y z)) (as_it_is (pick j x y z)))) cs) (eq-eqb l.model 2 m)

-- ---- what comes out is a code of the depth

clamp_le : (low high : ℕ) (z : ℤ) → low ≤ high → clamp low high z ≤ high
clamp_le low high (pos n) h = omega (arith, h)
clamp_le low high (negsuc n) h = h

full_le : (n : ℕ) (x : Fraction) → (as_brightness Full n x).code ≤ top_of n
unfolding code_of_value scale_of
full_le n x = clamp_le 0 (top_of n) (unclamped (scale_of Full n Brightness) x) (omega arith)

point_small : (l : Layout) (x y z j : ℕ) → x ≤ top_of l.depth → y ≤ top_of l.depth → z ≤ top_of l.depth → (full_of l x y z j).code ≤ top_of l.depth
unfolding full_of rgb_of stretched_of
point_small l x y z j hx hy hz = by (eqb l.model 2) (eqb l.range 1)
  where
    by : (t u : Bool) → (cond t (rgb_of (weights_of l.primaries) l.depth (range_of l.range) Full x y z j) (cond u (stretched_of l.depth (pick j x y z)) (as_it_is (pick j x y z)))).code ≤ top_of l.depth
    by true u = picked (λ (c : Clamped). c.code ≤ top_of l.depth) j _ _ _ (full_le l.depth _) (full_le l.depth _) (full_le l.depth _)
    by false true = full_le l.depth _
    by false false = picked (λ (c : ℕ). c ≤ top_of l.depth) j x y z hx hy hz

pub stays_within : StaysWithin
unfolding converted_of converted_at
stays_within l cs ok w = every_of (λ c. leb c (top_of l.depth)) 0 (full_codes l cs) (λ k h.
    let m : k < length cs = subst (λ (i : ℕ). k < i) (length-tabulate (length cs) (λ i. (converted_at (full_of l) cs i).code)) h in
    let e = get_or-tabulate (length cs) (λ i. (converted_at (full_of l) cs i).code) k 0 m in
    le-leb (get_or (full_codes l cs) k 0) (top_of l.depth) (subst (λ (c : ℕ). c ≤ top_of l.depth) (sym e)
    (point_small l (get_or cs (3 * (k / 3)) 0) (get_or cs (3 * (k / 3) + 1) 0) (get_or cs (3 * (k / 3) + 2) 0) (k % 3) (code_le (top_of l.depth) cs w (3 * (k / 3))) (code_le (top_of l.depth) cs w (3 * (k / 3) + 1)) (code_le (top_of l.depth) cs w (3 * (k / 3) + 2)))))

-- ---- as it is

pub full_as_it_is : FullAsItIs
unfolding converted_of converted_at full_of
full_as_it_is l cs m r =
    sym (is_tabulate 0 cs (length cs) (λ k. (converted_at (full_of l) cs k).code) refl (λ k h. sym (as_it_is_lem k)))
  where
    as_it_is_lem : (k : ℕ) → (converted_at (full_of l) cs k).code ≡ get_or cs k 0
    as_it_is_lem k =
        let x = get_or cs (3 * (k / 3)) 0 in
        let y = get_or cs (3 * (k / 3) + 1) 0 in
        let z = get_or cs (3 * (k / 3) + 2) 0 in
        let j = k % 3 in
        ap₂ (λ (model range : ℕ). (cond (eqb model 2) (rgb_of (weights_of l.primaries) l.depth (range_of l.range) Full x y z j) (cond (eqb range 1) (stretched_of l.depth (pick j x y z)) (as_it_is (pick j x y z)))).code) m r
        ∙ pick_code cs k
