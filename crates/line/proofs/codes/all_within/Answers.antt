-- `line::all_within` meets its contract: the greatest code passed, and what is left, decide together. Assumes nothing.
use mathlib.Core.Path.{◌≡◌, sym, ap, ◌∙◌}
use mathlib.Core.Bool.{Bool, ◌&&◌}
use Prim.Native.Nat.{ℕ, ◌+◌, max}
use native.Mathlib.Omega.{arith}
use Rattle.std.proofs.lemmas.Grind.{common_steps}
use lib.Dec.{leb}
use lib.ListN.{drop, get_or}
use Rattle.lists.specs.Lists.{every}
use Rattle.lists.proofs.Tests.{and_true}
use Rattle.lists.proofs.Every.{every_next, every_end}
use Rattle.line.proofs.Within.{both_below}
use Rattle.line.proofs.codes.all_within.Goals as goal

pub loop-code-preserved : goal.loop-code-preserved
loop-code-preserved c = let l = c.loop-code in
    let a = c.args in
    let x = get_or a.codes.now l.code-index 0 in
    let h = c.max-greatest.ensures in
    let larger : c.max-greatest.result ≡ max l.greatest x = grind (arith, common_steps) in
    l.invariant ∙ every_next (λ y. leb y a.top) 0 (leb l.greatest a.top) a.codes.now l.code-index c.loop-code-test.true
    ∙ ap (λ (b : Bool). b && every (λ y. leb y a.top) (drop (l.code-index + 1) a.codes.now)) (sym (ap (λ (m : ℕ). leb m a.top) larger ∙ both_below l.greatest x a.top))

pub returns : goal.returns
returns c = let l = c.loop-code in
    let a = c.args in
    sym (l.invariant ∙ ap (λ (b : Bool). leb l.greatest a.top && b) (every_end (λ x. leb x a.top) 0 a.codes.now l.code-index (omega arith)) ∙ and_true (leb l.greatest a.top))
