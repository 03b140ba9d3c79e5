-- `custody_rewrites::rewrites::rewrite` meets its contract, by what the rewrite answered. Assumes nothing.
use mathlib.Core.Path.{sym, ◌∙◌}
use native.Mathlib.Omega.{arith}
use Rattle.custody_rewrites.proofs.OneRewrite.{rewrite_done, left_refused, left_done}
use Rattle.custody_rewrites.proofs.rewrites.rewrite.Goals as goal

-- after an accepted rewrite the card is as long as the output
pub copy_from_slice-requires : goal.copy_from_slice-requires
copy_from_slice-requires c =
    let a = c.args in
    omega (arith, c.rewrite.auto.out, rewrite_done a.card.now a.edition _ (sym c.rewrite.ensures.answer ∙ c.in-Ok.is), c.requires)

pub returns-in-Err : goal.returns-in-Err
returns-in-Err c =
    let a = c.args in
    left_refused a.card.now a.edition a.out.now _ _ c.number.ensures (sym c.rewrite.ensures.answer ∙ c.in-Err.is) c.rewrite.ensures.memory

pub returns-in-Ok : goal.returns-in-Ok
returns-in-Ok c =
    let a = c.args in
    left_done a.card.now a.edition a.out.now _ _ (sym c.rewrite.ensures.answer ∙ c.in-Ok.is) c.rewrite.ensures.memory c.copy_from_slice.ensures.after
