-- `ppm_codes::take::codes` meets its contract: each turn fills in one code. Assumes nothing.
use Rattle.lists.proofs.Filled.{Filled}
use Rattle.ppm_codes.specs.Codes.{code_by}
use Rattle.ppm_codes.proofs.take.codes.Given as goal

abbrev pub invariant-loop-i : goal.invariant-loop-i
invariant-loop-i g l = Filled l.initial.codes (code_by g.row.BYTES l.raster) l.i l.codes
