-- `unit_encoding::eight` meets its contract: each turn fills in one number, and counts one unit's cuts. Assumes nothing.
use Prim.Native.Nat.{◌+◌}
use mathlib.Core.Path.{◌≡◌}
use lib.ListN.{length}
use Rattle.lists.proofs.Filled.{Filled}
use Rattle.unit_encoding.proofs.eight.Given as goal

abbrev pub invariant-loop-j : goal.invariant-loop-j
invariant-loop-j g l =
    let u = g.U.Units in
    (length l.initial.numbers ≡ 8) × Filled l.initial.numbers (λ k. u.number l.units (l.i + k)) l.j l.numbers × (u.cuts l.units l.i + l.cuts ≡ u.cuts l.units (l.i + l.j))
