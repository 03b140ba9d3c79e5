-- `card_finder::find_card` meets its contract: the card that is located lies within the stack. Assumes nothing.
use native.Mathlib.Omega.{arith}
use mathlib.Core.Path.{sym, ◌∙◌}
use Rattle.stack.proofs.Answers.{located_in}
use Rattle.card_finder.proofs.find_card.Goals as goal

pub overflow_mul-start : goal.overflow_mul-start
overflow_mul-start c = omega (arith, located_in _ _ _ _ (sym c.locate.ensures ∙ c.in_ok-k.was))

pub overflow_add-result : goal.overflow_add-result
overflow_add-result c = omega (arith, located_in _ _ _ _ (sym c.locate.ensures ∙ c.in_ok-k.was))

pub slice_bounds-result-end : goal.slice_bounds-result-end
slice_bounds-result-end c = omega (arith, located_in _ _ _ _ (sym c.locate.ensures ∙ c.in_ok-k.was))
