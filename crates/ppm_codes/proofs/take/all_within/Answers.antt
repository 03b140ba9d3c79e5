-- `ppm_codes::take::all_within` meets its contract: what is left of the codes decides. Assumes nothing.
use Rattle.ppm_codes.proofs.Codes.{scan_next, scan_end}
use Rattle.ppm_codes.proofs.take.all_within.Goals as goal

pub loop-i-preserved : goal.loop-i-preserved
loop-i-preserved c = let k = c.loop-i in
    let a = c.args in
    scan_next 2 a.top a.raster.now k.i k.within _ c.loop-i-test.true c.code.ensures k.invariant

pub returns : goal.returns
returns c = let k = c.loop-i in
    let a = c.args in
    scan_end 2 a.top a.raster.now k.i k.within c.loop-i-test.false k.invariant
