-- `group_encoding::numbers::all_numbers` meets its contract: what was passed, and what is left, decide together. Assumes nothing.
use mathlib.Core.Path.{◌≡◌}
use mathlib.Core.Bool.{not, ◌&&◌}
use Prim.Native.Nat.{◌*◌}
use lib.Ieee.{nan, is_nan}
use lib.ListN.{drop}
use Rattle.lists.specs.Lists.{every}
use Rattle.line.specs.inner.Groups.{group_shared}
use Rattle.line_values.specs.Encode.{all_numbers}
use Rattle.group_encoding.proofs.numbers.all_numbers.Given as goal

abbrev pub invariant-loop-i : goal.invariant-loop-i
invariant-loop-i l = all_numbers (group_shared nan l.values) ≡ l.ok && every (λ v. not (is_nan v)) (drop (6 * l.i) (group_shared nan l.values))
