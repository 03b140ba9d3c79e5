-- `stack::locate` meets its contract: the search is at the first card of those that are left. Assumes nothing.
use Prim.Native.Nat.{◌-◌, ◌≤◌}
use mathlib.Core.Path.{◌≡◌}
use Rattle.stack.specs.Finding.{has_item, first}
use Rattle.stack.proofs.locate.Given as goal

abbrev pub invariant-loop-i : goal.invariant-loop-i
invariant-loop-i l = (l.i ≤ l.cards) × (first (has_item l.stack l.edition l.item) 0 l.cards ≡ first (has_item l.stack l.edition l.item) l.i (l.cards - l.i))

abbrev pub decreases-loop-i : goal.decreases-loop-i
decreases-loop-i l = l.cards - l.i
