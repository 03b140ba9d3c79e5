-- `custody_rewrites::rewrites::rewrite_each` meets its contract: each rewrite does the first of what is left. Assumes nothing.
use Rattle.custody_rewrites.proofs.Going.{Going}
use Rattle.custody_rewrites.proofs.rewrites.rewrite_each.Given as goal

abbrev pub invariant-loop-k : goal.invariant-loop-k
invariant-loop-k l = Going l.editions l.lengths l.initial.outputs l.initial.card l.initial.answers l.outputs l.answers l.card l.at l.k
