-- The picture of facts that a card shows: its points, its bytes, and its header before its points; and the rows of the answers. Assumes nothing.
use mathlib.Core.Path.{◌≡◌, sym, ap, ap₂, ◌∙◌, subst}
use mathlib.Core.Bool.{true, ◌&&◌}
use mathlib.Core.List.{List, [], ◌++◌, append-nil}
use Prim.Native.Nat.{ℕ, ◌+◌, ◌-◌, ◌*◌, ◌/◌, ◌%◌, ◌^◌, ◌≤◌, ◌<◌}
use native.Mathlib.Nat.{mul_comm, mul_assoc, mul-le-mul, mul-div_cancel, mul-mod_right, div-le_self, div-add-mod, add-zero}
use native.Mathlib.Omega.{arith}
use borrow.Author.Tests.{leb-true, eq-eqb, eqb-true, not-false}
use borrow.Rule.Slice.PartMut.{put_mid, Post-is}
use lib.Dec.{eqb, leb, ltb}
use lib.ListN.{length, get_or, take, drop, length-drop}
use lib.Seq.{take_at, drop-length, length-take-le, length-sets}
use Rattle.lists.proofs.Tests.{and_left, and_right, and3}
use Rattle.parameters.specs.declared.depth.Depth.{Depth}
use Rattle.parameters.specs.Parameters.{depth_of, bits_of, top_of}
use Rattle.layout.specs.Layout.{points_each, valid_layout}
use Rattle.layout.proofs.Facts.{valid_says}
use Rattle.parameters.proofs.Depths.{Steps, steps, known-bits}
use Rattle.line.specs.Line.{points_in, bytes_for}
use Rattle.card_table.specs.declared.facts.Facts.{Facts}
use Rattle.card_table.specs.Facts.{least_edition, side_known, facts_valid}
use Rattle.card_edition.specs.Access.{access_known}
use Rattle.card_reader.specs.Reading.{writer_of, facts_in, front_right, read_card}
use Rattle.card_reader.proofs.Shown.{accepted}
use Rattle.ppm_header.specs.Header.{most_picture_points}
use Rattle.text_writer.specs.Put.{Put}
use Rattle.text_writer.proofs.Puts.{front}
use Rattle.ppm_header.proofs.Texts.{header_short}
use Rattle.ppm_raster.specs.Raster.{code_bytes}
use Rattle.ppm_raster.proofs.Parts.{few_code_bytes}
use Rattle.ppm_export.specs.Export.{points_of, header_of_facts, picture_bytes, export_fits}
use Rattle.ppm_pixels.specs.Pixels.{pixels_fit}
use Rattle.ppm_pixels.proofs.Pixels.{each-some}
use Rattle.std.specs.Prelude.{Ok}
use Rattle.ppm_export.specs.inner.Picture.{Known, units_of}

-- ---- facts that are known

pub record Says (f : Facts) : Type 0 where
  pub valid : valid_layout f.layout ≡ true
  pub wide : side_known f.width ≡ true
  pub high : side_known f.height ≡ true
  pub width : f.width ≤ 4096
  pub height : f.height ≤ 4096

pub says : (f : Facts) → facts_valid f ≡ true → Says f
unfolding facts_valid
says f v =
    let l = valid_layout f.layout in
    let w = side_known f.width in
    let h = side_known f.height in
    let i = leb 1 f.item in
    let u = ltb f.item (2 ^ 64) in
    let sides = and3 l w h (and_left (l && w && h) i (and_left (l && w && h && i) u (and_left (l && w && h && i && u) (access_known f.access) v))) in
    record {
      valid = sides.0;
      wide = sides.1;
      high = sides.2;
      width = leb-true f.width 4096 (and_right (leb 1 f.width) (leb f.width 4096) sides.1);
      height = leb-true f.height 4096 (and_right (leb 1 f.height) (leb f.height 4096) sides.2);
    }

-- what a card shows is known
pub shown-known : (b : List ℕ) (e : ℕ) (f : Facts) → read_card b e ≡ Ok f → Known f
unfolding front_right facts_in
shown-known b e f h =
    let a = accepted b e f h in
    let x = eqb (get_or b 0 0) (least_edition (facts_in b e)) in
    let y = leb (get_or b 0 0) (writer_of b) in
    let v = (and3 x y (facts_valid (facts_in b e)) (and_left (x && y && facts_valid (facts_in b e)) (eqb (get_or b 11 0) 0) a.front)).2 in
    subst Known a.is (record { facts = v; whole = not-false _ a.even })

module _ (f : Facts) (k : Known f) where
  s : Says f
  s = says f k.facts

  -- the depth, looked up
  pub bits_of_lem : {d : Depth} → d ≡ depth_of f.layout.depth → bits_of d ≡ f.layout.depth
  bits_of_lem e = ap bits_of e ∙ known-bits f.layout.depth (valid_says f.layout s.valid).depth

  pub few-points : points_of f ≤ most_picture_points
  few-points = mul-le-mul s.width s.height

  pub few_units : units_of f ≤ most_picture_points
  few_units = omega (arith, few-points, div-le_self (points_of f) (points_each f.layout))

  pub packed_small : f.layout.bytes * units_of f ≤ 8 * most_picture_points
  packed_small = mul-le-mul (valid_says f.layout s.valid).bytes_most few_units

  -- all points are in whole points or groups
  pub whole_units : points_of f ≡ points_each f.layout * units_of f
  whole_units =
      let p = points_each f.layout in
      let q = f.width / p in
      let even : f.width % p ≡ 0 = eqb-true (f.width % p) 0 k.whole in
      let width : f.width ≡ p * q = sym (div-add-mod f.width p) ∙ ap (λ (r : ℕ). p * q + r) even ∙ add-zero (p * q) in
      let all : points_of f ≡ p * (q * f.height) = ap (λ (w : ℕ). w * f.height) width ∙ mul_assoc p q f.height in
      let units : units_of f ≡ q * f.height = ap (λ (n : ℕ). n / p) (all ∙ mul_comm p (q * f.height)) ∙ mul-div_cancel (q * f.height) (each-some f.layout).0 in
      all ∙ ap (λ (u : ℕ). p * u) (sym units)

  -- the points' bytes are those that `ppm_pixels::put` asks for
  pub pixels_fit_lem : (packed rest : ℕ) → packed ≡ f.layout.bytes * units_of f → rest ≡ 3 * code_bytes f.layout.depth * points_of f → pixels_fit f.layout packed rest ≡ true
  pixels_fit_lem packed rest e r =
      let l = f.layout in
      let least = (valid_says l s.valid).bytes_least in
      let parts : packed % l.bytes ≡ 0 = ap (λ (x : ℕ). x % l.bytes) e ∙ mul-mod_right l.bytes (units_of f) in
      let units : packed / l.bytes ≡ units_of f = ap (λ (x : ℕ). x / l.bytes) (e ∙ mul_comm l.bytes (units_of f)) ∙ mul-div_cancel (units_of f) (omega (arith, least)) in
      let points : points_of f ≡ points_in l packed = whole_units ∙ ap (λ (u : ℕ). points_each l * u) (sym units) in
      λ i. s.valid i && eq-eqb (packed % l.bytes) 0 parts i && eq-eqb rest (3 * code_bytes l.depth * points_in l packed) (r ∙ ap (λ (n : ℕ). 3 * code_bytes l.depth * n) points) i

  pub bytes_small : 3 * code_bytes f.layout.depth * points_of f ≤ 6 * most_picture_points
  bytes_small =
      let three : 3 * code_bytes f.layout.depth ≤ 6 = omega (arith, few_code_bytes f.layout.depth) in
      mul-le-mul three few-points

  -- ---- the whole file

  top_small : top_of f.layout.depth < 2 ^ 16
  top_small =
      let v = valid_says f.layout s.valid in
      let p : Steps f.layout.depth = steps f.layout.depth v.depth_least v.depth_most in
      omega (arith, p)

  pub head_short : length (header_of_facts f) ≤ 21
  unfolding header_of_facts
  head_short = header_short f.width f.height (top_of f.layout.depth) (omega (arith, s.width)) (omega (arith, s.height)) top_small

  pub picture_short : picture_bytes f < 2 ^ 32
  unfolding picture_bytes
  picture_short = omega (arith, head_short, bytes_small)

  -- lengths that fit
  pub fit_say : (packed output : ℕ) → export_fits f packed output ≡ true → (packed ≡ f.layout.bytes * units_of f) × (output ≡ length (header_of_facts f) + 3 * code_bytes f.layout.depth * points_of f)
  unfolding export_fits picture_bytes
  fit_say packed output e =
      let x = eqb packed (bytes_for f.layout (points_of f)) in
      let y = eqb output (picture_bytes f) in
      (eqb-true packed (bytes_for f.layout (points_of f)) (and_left x y e), eqb-true output (picture_bytes f) (and_right x y e))

-- the header at the front of an output, and then the rest
module _ (text before after rest : List ℕ) (at : ℕ) (fits : length text ≤ length before) (p : Put text 0 before after at) where
  pub head_end : at ≡ length text
  head_end = (front fits p).0

  pub rest_long : length (take (length after - at) (drop at after)) ≡ length before - length text
  rest_long =
      let l : length after ≡ length before = ap length p.holds ∙ length-sets before 0 text in
      length-take-le (length after - at) (drop at after) (omega (arith, length-drop at after)) ∙ omega (arith, l, head_end)

  pub then_rest : length rest ≡ length before - length text → put_mid at (length after - at) after rest ≡ text ++ rest
  then_rest r =
      let l : length after ≡ length before = ap length p.holds ∙ length-sets before 0 text in
      let inside : at ≤ length after = omega (arith, head_end, l) in
      let none : drop (length after) after ≡ [] = drop-length after in
      ap₂ (λ (x y : List ℕ). x ++ (rest ++ y)) (ap (take at) (front fits p).1 ∙ take_at text (drop at before) at (sym head_end)) (Post-is at (length after) after inside ∙ none)
      ∙ ap (λ (x : List ℕ). text ++ x) (append-nil rest)
