-- `card::rewrite` meets its contract, by what the reading answered. Assumes nothing.
use mathlib.Core.Path.{sym, ◌∙◌}
use Rattle.lists.proofs.Results.{handed_on}
use Rattle.card.proofs.Answers.{refused, written}
use Rattle.card.proofs.rewrite.Goals as goal

pub returns-in_err-facts : goal.returns-in_err-facts
returns-in_err-facts c =
    let a = c.args in
    let done = refused a.bytes.now a.edition a.out.now _ (sym c.read.ensures.answer ∙ c.in_err-facts.was) in
    record { answer = handed_on c.from_residual.result c.in_err-facts.field-0.0 c.from_residual.ensures ∙ done.0; memory = done.1 }

pub returns : goal.returns
returns c =
    let a = c.args in
    let done = written a.bytes.now a.edition a.out.now _ _ _ (sym c.read.ensures.answer ∙ c.in_ok-facts.was) c.write.ensures.answer c.write.ensures.memory in
    record { answer = done.0; memory = done.1 }
