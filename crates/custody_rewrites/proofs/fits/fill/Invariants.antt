-- `custody_rewrites::fits::fill` meets its contract: what is left is the sum of the rest exactly if the total is the sum of all. Assumes nothing.
use mathlib.Core.Path.{◌≡◌}
use lib.Dec.{eqb}
use lib.ListN.{drop}
use Rattle.custody_rewrites.specs.Lists.{sum}
use Rattle.custody_rewrites.proofs.fits.fill.Given as goal

abbrev pub invariant-loop-length : goal.invariant-loop-length
invariant-loop-length l = eqb (sum (drop l.length-index l.lengths)) l.left ≡ eqb (sum l.lengths) l.total
