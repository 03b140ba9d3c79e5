-- `custody::replay` meets its contract: its parts, one after the other, are the calls that the book is compared with. Assumes nothing.
use mathlib.Core.Path.{refl, sym, ◌∙◌}
use Rattle.lists.proofs.Results.{handed_on}
use Rattle.custody.proofs.Whole.{not_written, misfit, replays}
use Rattle.custody.proofs.replay.Goals as goal

pub returns-in_err-write : goal.returns-in_err-write
returns-in_err-write c =
    not_written _ _ (sym c.write.ensures.answer ∙ c.in_err-write.was) (handed_on c.from_residual.result c.in_err-write.field-0.0 c.from_residual.ensures)

pub returns-then-not-rewrite_all : goal.returns-then-not-rewrite_all
returns-then-not-rewrite_all c = misfit _ (sym c.write.ensures.answer ∙ c.in_ok-write.was) _ c.rewrite_all.ensures c.if-not-rewrite_all.true

pub returns : goal.returns
returns c =
    replays _ (sym c.write.ensures.answer ∙ c.in_ok-write.was) _ c.rewrite_all.ensures c.if-not-rewrite_all.false _ refl _ _ c.write.ensures.memory
    (c.read_last.ensures.answer, c.read_last.ensures.memory)
