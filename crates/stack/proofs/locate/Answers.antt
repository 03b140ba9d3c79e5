-- `stack::locate` meets its contract: the search is at the first card of those that are left. Assumes nothing.
use native.Mathlib.Omega.{arith}
use mathlib.Core.Path.{◌≡◌, sym, ap, ◌∙◌}
use mathlib.Core.Bool.{not}
use lib.ListN.{length}
use Rattle.stack.specs.Stack.{cards_in}
use Rattle.stack.specs.Finding.{has_item, first, located}
use Rattle.stack.proofs.First.{first-none, first_hit, first_miss}
use Rattle.stack.proofs.Answers.{seen, located_1, located_7, located-first}
use Rattle.stack.proofs.locate.Goals as goal

pub returns-then-not-complete : goal.returns-then-not-complete
returns-then-not-complete c = sym (located_1 _ _ _ (sym (ap not c.whole-complete.ensures) ∙ (ap not c.if-not-complete.true)))

pub returns-then-not-known : goal.returns-then-not-known
returns-then-not-known c = sym (located_7 _ _ _ (sym (ap not c.whole-complete.ensures) ∙ (ap not c.if-not-complete.false)) (sym (ap not c.known-known.ensures) ∙ (ap not c.if-not-known.true)))

pub loop-i-preserved : goal.loop-i-preserved
loop-i-preserved c = let a = c.args in
    (omega arith, c.loop-i.invariant.1 ∙ first_miss _ _ _ (omega arith) (seen a.stack.now a.edition a.item c.loop-i.i c.card_at.ensures.answer c.shows_item.ensures ∙ c.if-shows_item.false))

pub returns-then-i-cards : goal.returns-then-i-cards
returns-then-i-cards c =
    let found : let a = c.args in
    located a.stack.now a.edition a.item ≡ first (has_item a.stack.now a.edition a.item) 0 (cards_in (length a.stack.now)) = located-first _ _ _ (sym (ap not c.whole-complete.ensures) ∙ (ap not c.if-not-complete.false)) (sym (ap not c.known-known.ensures) ∙ (ap not c.if-not-known.false)) in
    sym (found ∙ c.loop-i.invariant.1 ∙ first-none _ _ _ c.if-i-cards.true)

pub returns-then-shows_item : goal.returns-then-shows_item
returns-then-shows_item c =
    let found : let a = c.args in
    located a.stack.now a.edition a.item ≡ first (has_item a.stack.now a.edition a.item) 0 (cards_in (length a.stack.now)) = located-first _ _ _ (sym (ap not c.whole-complete.ensures) ∙ (ap not c.if-not-complete.false)) (sym (ap not c.known-known.ensures) ∙ (ap not c.if-not-known.false)) in
    let a = c.args in
    sym (found ∙ c.loop-i.invariant.1 ∙ first_hit _ _ _ (omega arith) (seen a.stack.now a.edition a.item c.loop-i.i c.card_at.ensures.answer c.shows_item.ensures ∙ c.if-shows_item.true))
