-- `listing::put_cards` meets its contract: the invariant is what was stored so far, and what is left of the stack. Assumes nothing.
use mathlib.Core.Path.{◌≡◌, ap, ◌∙◌}
use Prim.Native.Nat.{◌+◌, ◌*◌}
use mathlib.Core.List.{[], ◌∷◌, ◌++◌}
use native.Mathlib.Omega.{arith}
use lib.ListN.{length, length-append, length-drop}
use Rattle.std.proofs.Common.{rules}
use Rattle.stack.specs.Stack.{cards_in}
use Rattle.listing.proofs.Answers.{cards_none, cards_next, card_is, left_is, so_many}
use Rattle.listing.proofs.put_cards.Goals as goal

pub loop-card-init : goal.loop-card-init
loop-card-init c = record { size = search rules; left = search rules; so_far = omega arith; wrote = cards_none c.args.stack.now c.args.text.now c.requires }

pub loop-card-preserved : goal.loop-card-preserved
loop-card-preserved c =
    let s = c.args.stack.now in
    let k = length c.loop-card.yielded in
    let i = c.loop-card.invariant in
    let h = c.in-Some.ensures.steps in
    let long : length c.in-Some.card.now ≡ 32 = h.1.1 ∙ i.size in
    let n : length (c.loop-card.yielded ++ (c.in-Some.card ∷ [])) ≡ k + 1 = length-append c.loop-card.yielded (c.in-Some.card ∷ []) in
    rw n (record {
      size = h.0 ∙ i.size;
      left = left_is s k c.in-Some.card.now c.next.new.self.rest.now i.left h.1.0 long;
      so_far = so_many s k c.in-Some.card.now c.next.new.self.rest.now i.left h.1.0 long i.so_far;
      wrote = cards_next s k (card_is s k c.in-Some.card.now c.next.new.self.rest.now i.left h.1.0 long) i.wrote c.put_card.ensures;
    })

pub returns : goal.returns
returns c =
    let s = c.args.stack.now in
    let i = c.loop-card.invariant in
    let all : length c.loop-card.yielded ≡ cards_in (length s) = omega (arith, i.so_far, c.in-None.ensures.steps.1.0, ap length i.left, length-drop (32 * length c.loop-card.yielded) s, i.size) in
    rw all at i.wrote
