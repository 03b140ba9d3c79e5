-- `stack::find` meets its contract: the card that is located lies within the stack. Assumes nothing.
use mathlib.Core.Path.{sym, ◌∙◌}
use Rattle.stack.proofs.Answers.{located_in}
use mathlib.Core.Path.{sym, ◌∙◌}
use Rattle.stack.proofs.find.Goals as goal

pub card_at-requires : goal.card_at-requires
card_at-requires c = located_in _ _ _ _ (sym c.locate.ensures ∙ c.in-Ok.is)
