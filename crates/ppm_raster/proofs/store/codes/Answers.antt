-- `ppm_raster::store::codes` meets its contract: each turn fills in one code. Assumes nothing.
use Prim.Native.Nat.{ℕ, ◌*◌}
use mathlib.Core.Path.{◌≡◌, refl, ap, ◌∙◌}
use native.Mathlib.Omega.{arith}
use lib.ListN.{length}
use Rattle.ppm_raster.proofs.Rasters.{code_more, raster_all, stored, stored_not, holds_says}
use Rattle.ppm_raster.proofs.store.codes.Goals as goal

pub returns-then-not-out-n : goal.returns-then-not-out-n
returns-then-not-out-n g c = let a = c.args in stored_not g.row.BYTES a.codes.now a.out.now c.if-not-out-n.true

pub loop-i-preserved : goal.loop-i-preserved
loop-i-preserved g c =
    let b = g.row.BYTES in
    let a = c.args in
    let long : length a.out.now ≡ b * length a.codes.now = holds_says b _ _ c.if-not-out-n.false in
    code_more b c.requires.0 c.requires.1 a.codes.now c.loop-i.i long c.loop-i-test.true c.loop-i.invariant c.to_be_bytes-bytes.ensures c.copy_from_slice.ensures.after refl

pub returns : goal.returns
returns g c =
    let b = g.row.BYTES in
    let a = c.args in
    let long : length a.out.now ≡ b * length a.codes.now = holds_says b _ _ c.if-not-out-n.false in
    let all : c.loop-i.i ≡ length a.codes.now = omega (arith, c.loop-i.auto.i-end) in
    raster_all a.codes.now b long (ap (λ (i : ℕ). b * i) all) c.loop-i.invariant ∙ stored b a.codes.now a.out.now c.if-not-out-n.false
