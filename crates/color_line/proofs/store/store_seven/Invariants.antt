-- `color_line::store_seven` meets its contract: each turn stores one number. Assumes nothing.
use mathlib.Core.Path.{◌≡◌}
use Rattle.color_line.specs.inner.Rows.{stored_of}
use Rattle.color_line.proofs.store.store_seven.Given as goal

abbrev pub invariant-loop-j : goal.invariant-loop-j
invariant-loop-j l = l.out ≡ stored_of l.v l.i l.j l.initial.out
