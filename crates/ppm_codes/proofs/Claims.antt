-- The claim of specs/Claims.antt. Assumes nothing.
use mathlib.Core.Path.{◌≡◌, refl, sym, ap, ap₂, ◌∙◌}
use mathlib.Core.Bool.{Bool, true, false, cond}
use mathlib.Core.List.{List}
use Prim.Native.Nat.{ℕ, ◌+◌, ◌*◌, ◌/◌, ◌%◌, ◌≤◌, ◌<◌}
use native.Mathlib.Omega.{arith}
use borrow.Author.Tests.{leb-true, eqb-true}
use lib.Dec.{eqb, leb}
use lib.ListN.{length, get_or}
use Rattle.lists.specs.Bytes.{byte_of}
use Rattle.lists.proofs.Lists.{is_tabulate, length-tabulate, get_or-tabulate}
use Rattle.lists.proofs.Every.{every_at}
use Rattle.parameters.specs.Parameters.{top_of}
use Rattle.parameters.proofs.Depths.{Steps, steps, known_between}
use Rattle.ppm_raster.specs.Raster.{raster_byte, raster_by}
use Rattle.ppm_raster.proofs.Rasters.{byte_single, byte_double}
use Rattle.ppm_codes.specs.Codes.{code_by, codes_by}
use Rattle.ppm_codes.specs.Claims.{CodesBack}

module _ (b : ℕ) (cs : List ℕ) where
  length_raster : length (raster_by b cs) ≡ b * length cs
  unfolding raster_by
  length_raster = length-tabulate (b * length cs) (raster_byte b cs)

  raster_at : (k : ℕ) → k < b * length cs → get_or (raster_by b cs) k 0 ≡ raster_byte b cs k
  unfolding raster_by
  raster_at k h = get_or-tabulate (b * length cs) (raster_byte b cs) k 0 h

  back_by : length (raster_by b cs) / b ≡ length cs → ((k : ℕ) → k < length cs → get_or cs k 0 ≡ code_by b (raster_by b cs) k) → codes_by b (raster_by b cs) ≡ cs
  unfolding codes_by
  back_by l h = sym (is_tabulate 0 cs (length (raster_by b cs) / b) (code_by b (raster_by b cs)) (sym l) (λ k w. h k (omega arith)))

back_single : (cs : List ℕ) → ((k : ℕ) → k < length cs → get_or cs k 0 ≤ 255) → codes_by 1 (raster_by 1 cs) ≡ cs
unfolding code_by
back_single cs small =
    back_by 1 cs (omega (arith, length_raster 1 cs)) (λ k h.
    let e : get_or cs k 0 ≡ get_or cs k 0 % 256 = omega (arith, small k h) in
    e ∙ byte_single cs k ∙ sym (raster_at 1 cs k (omega arith)))

back_double : (cs : List ℕ) → ((k : ℕ) → k < length cs → get_or cs k 0 ≤ 4095) → codes_by 2 (raster_by 2 cs) ≡ cs
unfolding code_by
back_double cs small =
    back_by 2 cs (omega (arith, length_raster 2 cs)) (λ k h.
    let c : ℕ = get_or cs k 0 in
    let z : 2 * k + 0 ≡ 2 * k = omega arith in
    let high : byte_of c 1 ≡ get_or (raster_by 2 cs) (2 * k) 0 = byte_double cs k 0 (omega arith) ∙ ap (raster_byte 2 cs) z ∙ sym (raster_at 2 cs (2 * k) (omega arith)) in
    let low : byte_of c 0 ≡ get_or (raster_by 2 cs) (2 * k + 1) 0 = byte_double cs k 1 (omega arith) ∙ sym (raster_at 2 cs (2 * k + 1) (omega arith)) in
    let e : c ≡ 256 * byte_of c 1 + byte_of c 0 = omega (arith, small k h) in
    e ∙ ap₂ (λ (x y : ℕ). 256 * x + y) high low)

pub codes_back : CodesBack
codes_back n cs d w = by (eqb n 8) refl
  where
    within : (k : ℕ) → k < length cs → get_or cs k 0 ≤ top_of n
    within k h = leb-true (get_or cs k 0) (top_of n) (every_at (λ c. leb c (top_of n)) 0 cs k w h)

    by : (t : Bool) → eqb n 8 ≡ t → codes_by (cond (eqb n 8) 1 2) (raster_by (cond (eqb n 8) 1 2) cs) ≡ cs
    by true e =
        let s : ℕ = top_of n in
        let m : top_of n ≡ 255 = ap top_of (eqb-true n 8 e) in
        ap (λ (t : Bool). codes_by (cond t 1 2) (raster_by (cond t 1 2) cs)) e ∙ back_single cs (λ k h. omega (arith, within k h))
    by false e =
        let b = known_between n d in
        let p : Steps n = steps n b.0 b.1 in
        ap (λ (t : Bool). codes_by (cond t 1 2) (raster_by (cond t 1 2) cs)) e ∙ back_double cs (λ k h. omega (arith, within k h, p))
