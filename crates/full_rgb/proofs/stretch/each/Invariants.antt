-- `full_rgb::stretch::each` meets its contract: each turn fills in one code. Assumes nothing.
use lib.ListN.{get_or}
use Rattle.lists.proofs.Filled.{Filled}
use Rattle.full_rgb.specs.inner.Way.{stretched_by}
use Rattle.full_rgb.proofs.stretch.each.Given as goal

abbrev pub invariant-loop-i : goal.invariant-loop-i
invariant-loop-i l = Filled l.initial.out (λ k. stretched_by l.stretch (get_or l.codes k 0)) l.i l.out
