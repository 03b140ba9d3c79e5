-- `point_encoding::all_numbers` meets its contract: what was passed, and what is left, decide together. Assumes nothing.
use mathlib.Core.Path.{sym, ap, ◌∙◌}
use mathlib.Core.Bool.{Bool, not, ◌&&◌}
use Prim.Native.Nat.{◌+◌}
use native.Mathlib.Omega.{arith}
use lib.Ieee.{nan, is_nan}
use lib.ListN.{drop, get_or}
use Rattle.lists.specs.Lists.{every}
use Rattle.lists.proofs.Tests.{and_true}
use Rattle.lists.proofs.Every.{every_next, every_end}
use Rattle.line_values.proofs.Encodes.{eq_self}
use Rattle.point_encoding.proofs.encode.all_numbers.Goals as goal

pub loop-value-preserved : goal.loop-value-preserved
loop-value-preserved c = let l = c.loop-value in
    let vs = c.args.values.now in
    l.invariant ∙ every_next (λ v. not (is_nan v)) nan l.ok vs l.value-index c.loop-value-test.true
    ∙ ap (λ (b : Bool). l.ok && b && every (λ v. not (is_nan v)) (drop (l.value-index + 1) vs)) (sym (eq_self (get_or vs l.value-index nan)))

pub returns : goal.returns
returns c = let l = c.loop-value in
    let vs = c.args.values.now in
    sym (l.invariant ∙ ap (λ (b : Bool). l.ok && b) (every_end (λ v. not (is_nan v)) nan vs l.value-index (omega arith)) ∙ and_true l.ok)
