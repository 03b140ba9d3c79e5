-- Points as the file's bytes: part by part, and a block by its three steps. Assumes nothing.
use mathlib.Core.Path.{◌≡◌, refl, sym, ap, ◌∙◌, subst}
use mathlib.Core.Bool.{Bool, true, false, not, cond, ◌&&◌}
use mathlib.Core.List.{List}
use Prim.Native.Nat.{ℕ, ◌*◌, ◌/◌, ◌%◌, ◌≤◌, ◌<◌}
use native.Mathlib.Nat.{mul_comm, mul_assoc, one-mul, mul-div_cancel, mul-mod_right, mul-le-mul}
use native.Mathlib.Omega.{arith}
use borrow.Author.Tests.{le-leb, eq-eqb}
use lib.Dec.{eqb, lit<, lit≤}
use lib.ListN.{length, get_or}
use Rattle.lists.specs.Lists.{new_or_kept}
use Rattle.lists.proofs.Bytes.{are_bytes_lem}
use Rattle.lists.proofs.Tests.{pass, stop}
use Rattle.layout.specs.declared.Layout.{Layout}
use Rattle.parameters.specs.declared.depth.Depth.{Depth}
use Rattle.parameters.specs.Parameters.{bits_of, depth_of}
use Rattle.layout.specs.Layout.{grouped, points_each, valid_layout}
use Rattle.parameters.proofs.Depths.{known-bits}
use Rattle.layout.proofs.Facts.{valid_says}
use Rattle.line.specs.Line.{points_in, codes_of, PackedLine}
use Rattle.line.specs.Answer.{unpackable, unpack_answer, unpack_output}
use Rattle.scanline_laws.proofs.Claims.{codes-within}
use Rattle.parts.proofs.Parts.{Parts, parts_then, parts_many}
use Rattle.parts.proofs.Lines.{codes_parts, converted_parts}
use Rattle.color_equations.specs.Line.{converted_of}
use Rattle.color_line.specs.inner.Rows.{alike}
use Rattle.full_rgb.specs.declared.Way.{Way}
use Rattle.full_rgb.specs.Full.{full_of, full_codes}
use Rattle.full_rgb.specs.inner.Way.{way_of, way_code, full_by}
use Rattle.full_rgb_laws.proofs.Claims.{way_is_full}
use Rattle.ppm_raster.specs.Raster.{code_bytes, raster_by, stored_by}
use Rattle.ppm_raster.proofs.Rasters.{stored, holds-so}
use Rattle.ppm_raster.proofs.Parts.{raster_parts, some_bytes}
use Rattle.ppm_pixels.specs.Pixels.{pixels_of}
use Rattle.std.specs.Prelude.{Result, Err, is_ok}
use Rattle.refusal.specs.declared.Refusal.TheVariants.{Outside, WrongLineOrOutput}
use Rattle.refusal.specs.declared.Refusal.{Refusal}
use Rattle.ppm_pixels.specs.inner.Unit.{unit_codes, unit_bytes, Ready}

-- one point or two
pub each-some : (l : Layout) → (1 ≤ points_each l) × (points_each l ≤ 2)
each-some l = by (grouped l)
  where
    by : (t : Bool) → (1 ≤ cond t 2 1) × (cond t 2 1 ≤ 2)
    by true = (lit≤ tt, lit≤ tt)
    by false = (lit≤ tt, lit≤ tt)

-- at most two, of three codes of two bytes
pub unit_small : (l : Layout) → (3 ≤ unit_codes l) × (0 < unit_bytes l) × (unit_bytes l ≤ 12)
unit_small l = by (eqb l.depth 8) (grouped l)
  where
    by : (u t : Bool) → (3 ≤ 3 * cond t 2 1) × (0 < cond u 1 2 * (3 * cond t 2 1)) × (cond u 1 2 * (3 * cond t 2 1) ≤ 12)
    by true true = (lit≤ tt, lit< tt, lit≤ tt)
    by true false = (lit≤ tt, lit< tt, lit≤ tt)
    by false true = (lit≤ tt, lit< tt, lit≤ tt)
    by false false = (lit≤ tt, lit< tt, lit≤ tt)

-- a block's codes are at most 480, and so its points or groups at most 160
pub block_small : (l : Layout) → (0 < 480 / unit_codes l) × ((k : ℕ) → k ≤ 480 / unit_codes l → (unit_codes l * k ≤ 480) × (k ≤ 160))
block_small l = by (grouped l)
  where
    by : (t : Bool) → (0 < 480 / (3 * cond t 2 1)) × ((k : ℕ) → k ≤ 480 / (3 * cond t 2 1) → (3 * cond t 2 1 * k ≤ 480) × (k ≤ 160))
    by true = (lit< tt, λ k h. (omega (arith, h), omega (arith, h)))
    by false = (lit< tt, λ k h. (omega (arith, h), omega (arith, h)))

-- ---- part by part

pub pixels_parts : (l : Layout) → valid_layout l ≡ true → Parts (pixels_of l) l.bytes (unit_bytes l)
unfolding pixels_of
pixels_parts l v =
    let m = 3 * points_each l in
    let raster = subst (λ (p : ℕ). Parts (raster_by (code_bytes l.depth)) p (code_bytes l.depth * m)) (one-mul m) (parts_many m (raster_parts l.depth)) in
    parts_then (parts_then (codes_parts l v) (parts_many (points_each l) (converted_parts (full_of l)))) raster

-- ---- a block of k points or groups

module _ (l : Layout) (d : Depth) (way : Way) (r : Ready l d way) (s : List ℕ) (k : ℕ) (small : k ≤ 160) (e : length s ≡ l.bytes * k) (bytes : (i : ℕ) → get_or s i 0 < 256) where
  some : 0 < l.bytes
  some = let b = (valid_says l r.valid).bytes_least in omega (arith, b)

  units : length s / l.bytes ≡ k
  units = ap (λ (x : ℕ). x / l.bytes) (e ∙ mul_comm l.bytes k) ∙ mul-div_cancel k some

  points : points_in l (length s) ≡ points_each l * k
  points = ap (λ (x : ℕ). points_each l * x) units

  few : points_each l * k ≤ 4096
  few =
      let h : points_each l * k ≤ 2 * 160 = mul-le-mul (each-some l).1 small in
      omega (arith, h)

  line : PackedLine l (points_each l * k) s
  line =
      let back : points_each l * k / points_each l ≡ k = ap (λ (x : ℕ). x / points_each l) (mul_comm (points_each l) k) ∙ mul-div_cancel k (each-some l).0 in
      record {
        valid = r.valid;
        whole = eq-eqb (points_each l * k % points_each l) 0 (mul-mod_right (points_each l) k);
        bytes = are_bytes_lem s bytes;
        points = e ∙ ap (λ (x : ℕ). l.bytes * x) (sym back);
      }

  long-codes : length (codes_of l s) ≡ 3 * points_each l * k
  long-codes = (codes_parts l r.valid).long s k e

  pub unpacked : (before : List ℕ) → length before ≡ 3 * points_each l * k → unpack_output l s before ≡ codes_of l s
  unfolding unpack_answer
  unpacked before o =
      let rest : length s % l.bytes ≡ 0 = ap (λ (x : ℕ). x % l.bytes) e ∙ mul-mod_right l.bytes k in
      let count : length before ≡ 3 * points_in l (length s) = o ∙ mul_assoc 3 (points_each l) k ∙ ap (λ (x : ℕ). 3 * x) (sym points) in
      let fits : unpackable l (length s) (length before) ≡ true = λ i. eq-eqb (length s % l.bytes) 0 rest i && le-leb (points_in l (length s)) 4096 (omega (arith, points, few)) i && eq-eqb (length before) (3 * points_in l (length s)) count i in
      ap (λ (a : Result ℕ Refusal). new_or_kept (is_ok a) (codes_of l s) before) (pass (Err Outside) (ap not r.valid) (pass (Err WrongLineOrOutput) (ap not fits) refl))

  pub converted : (before : List ℕ) → length before ≡ 3 * points_each l * k → full_by way (codes_of l s) before ≡ full_codes l (codes_of l s)
  converted before o =
      let n = length (codes_of l s) in
      let whole : n % 3 ≡ 0 = omega (arith, long-codes, mul_assoc 3 (points_each l) k) in
      let same : alike n (length before) ≡ true = λ i. eq-eqb (n % 3) 0 whole i && eq-eqb (length before) n (o ∙ sym long-codes) i in
      let here : way ≡ way_of l (depth_of l.depth) = r.so ∙ ap (way_of l) r.depth in
      stop before same ∙ ap (λ (w : Way). converted_of (way_code w) (codes_of l s)) here ∙ way_is_full l (codes_of l s) r.valid (codes-within l (points_each l * k) s line)

  pub rastered : (before : List ℕ) → length before ≡ code_bytes l.depth * (3 * points_each l) * k → stored_by (code_bytes (bits_of d)) (full_codes l (codes_of l s)) before ≡ pixels_of l s
  unfolding pixels_of
  rastered before o =
      let b = code_bytes l.depth in
      let full = full_codes l (codes_of l s) in
      let long : length full ≡ 3 * points_each l * k = (parts_many (points_each l) (converted_parts (full_of l))).long (codes_of l s) k long-codes in
      let fits = holds-so b (length before) (length full) (some_bytes l.depth) (o ∙ mul_assoc b (3 * points_each l) k ∙ ap (λ (x : ℕ). b * x) (sym long)) in
      let bits : bits_of d ≡ l.depth = ap bits_of r.depth ∙ known-bits l.depth (valid_says l r.valid).depth in
      ap (λ (n : ℕ). stored_by (code_bytes n) full before) bits ∙ sym (stored b full before fits)
