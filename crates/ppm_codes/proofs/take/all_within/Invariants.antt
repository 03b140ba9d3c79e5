-- `ppm_codes::take::all_within` meets its contract: what is left of the codes decides. Assumes nothing.
use mathlib.Core.Path.{◌≡◌}
use mathlib.Core.Bool.{◌&&◌}
use lib.Dec.{leb}
use lib.ListN.{drop}
use Rattle.lists.specs.Lists.{every}
use Rattle.ppm_codes.specs.Codes.{codes_by}
use Rattle.ppm_codes.proofs.take.all_within.Given as goal

abbrev pub invariant-loop-i : goal.invariant-loop-i
invariant-loop-i l = l.within && every (λ x. leb x l.top) (drop l.i (codes_by 2 l.raster)) ≡ every (λ x. leb x l.top) (codes_by 2 l.raster)
