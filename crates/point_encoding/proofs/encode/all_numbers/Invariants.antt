-- `point_encoding::all_numbers` meets its contract: what was passed, and what is left, decide together. Assumes nothing.
use mathlib.Core.Path.{◌≡◌}
use mathlib.Core.Bool.{not, ◌&&◌}
use lib.Ieee.{is_nan}
use lib.ListN.{drop}
use Rattle.lists.specs.Lists.{every}
use Rattle.point_encoding.proofs.encode.all_numbers.Given as goal

abbrev pub invariant-loop-value : goal.invariant-loop-value
invariant-loop-value l = every (λ v. not (is_nan v)) l.values ≡ l.ok && every (λ v. not (is_nan v)) (drop l.value-index l.values)
