-- `listing::put_cards` meets its contract: the invariant is what was stored so far, and what is left of the stack. Assumes nothing.
use mathlib.Core.Path.{◌≡◌}
use Prim.Native.Nat.{◌*◌, ◌≤◌}
use lib.ListN.{length, drop}
use Rattle.listing.specs.List.{card_lines}
use Rattle.text_writer.specs.Put.{Wrote}
use Rattle.listing.proofs.put_cards.Given as goal

abbrev pub invariant-loop-card : goal.invariant-loop-card
invariant-loop-card l = record {
  size : l.card-iterator.size ≡ 32;
  left : l.card-iterator.rest.now ≡ drop (32 * length l.yielded) l.stack;
  so_far : 32 * length l.yielded ≤ length l.stack;
  wrote : Wrote (card_lines l.stack (length l.yielded)) l.initial.text l.text;
}
