-- `line::all_within` meets its contract: the greatest code passed, and what is left, decide together. Assumes nothing.
use mathlib.Core.Path.{◌≡◌}
use mathlib.Core.Bool.{◌&&◌}
use lib.Dec.{leb}
use lib.ListN.{drop}
use Rattle.lists.specs.Lists.{every}
use Rattle.line.proofs.codes.all_within.Given as goal

abbrev pub invariant-loop-code : goal.invariant-loop-code
invariant-loop-code l = every (λ c. leb c l.top) l.codes ≡ leb l.greatest l.top && every (λ c. leb c l.top) (drop l.code-index l.codes)
