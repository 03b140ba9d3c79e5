-- `group_encoding::numbers::all_numbers` meets its contract: what was passed, and what is left, decide together. Assumes nothing.
use mathlib.Core.Path.{sym, ap, ◌∙◌}
use mathlib.Core.Bool.{Bool, not, ◌&&◌}
use Prim.Native.Nat.{◌+◌, ◌*◌}
use native.Mathlib.Omega.{arith}
use lib.Ieee.{nan, is_nan}
use lib.ListN.{drop}
use Rattle.lists.specs.Lists.{every}
use Rattle.line.specs.inner.Groups.{group_shared}
use Rattle.group_encoding.proofs.Looked.{every_group, every_group_end}
use Rattle.group_encoding.proofs.numbers.all_numbers.Goals as goal

pub loop-i-preserved : goal.loop-i-preserved
loop-i-preserved c = let l = c.loop-i in
    let vs = c.args.values.now in
    l.invariant ∙ every_group nan vs (λ v. not (is_nan v)) l.ok l.i (omega arith)
    ∙ ap (λ (b : Bool). l.ok && b && every (λ v. not (is_nan v)) (drop (6 * (l.i + 1)) (group_shared nan vs))) (sym c.group_numbers-ok.ensures)

pub returns : goal.returns
returns c = let l = c.loop-i in
    sym (l.invariant ∙ every_group_end nan c.args.values.now (λ v. not (is_nan v)) l.ok l.i (omega arith))
