-- `ppm_codes::take::codes` meets its contract: each turn fills in one code. Assumes nothing.
use Prim.Native.Nat.{◌*◌}
use mathlib.Core.Path.{◌≡◌, ◌∙◌}
use native.Mathlib.Omega.{arith}
use lib.ListN.{length}
use Rattle.lists.proofs.Filled.{filled_one}
use Rattle.ppm_raster.proofs.Rasters.{holds_says, holds_many}
use Rattle.ppm_codes.proofs.Codes.{codes_all, taken, taken_not, code_inside}
use Rattle.ppm_codes.proofs.take.codes.Goals as goal

pub returns-then-not-raster-n : goal.returns-then-not-raster-n
returns-then-not-raster-n g c = let a = c.args in taken_not g.row.BYTES a.raster.now a.codes.now c.if-not-raster-n.true

pub code-requires : goal.code-requires
code-requires g c =
    let a = c.args in
    let long : length a.raster.now ≡ g.row.BYTES * length a.codes.now = holds_says g.row.BYTES _ _ c.if-not-raster-n.false in
    record { size = c.requires; within = code_inside g.row.BYTES _ _ c.loop-i.i c.loop-i-test.true long }

pub loop-i-preserved : goal.loop-i-preserved
loop-i-preserved g c = filled_one _ (omega arith) c.code.ensures c.loop-i.invariant

pub returns : goal.returns
returns g c =
    let b = g.row.BYTES in
    let a = c.args in
    let ok = c.if-not-raster-n.false in
    let all : c.loop-i.i ≡ length a.codes.now = omega (arith, c.loop-i.auto.i-end) in
    codes_all a.raster.now b (holds_many b _ _ ok) all c.loop-i.invariant ∙ taken b a.raster.now a.codes.now ok
