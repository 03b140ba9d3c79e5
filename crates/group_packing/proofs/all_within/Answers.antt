-- `group_packing::all_within` meets its contract: all groups passed fit, and one that does not decides. Assumes nothing.
use mathlib.Core.Path.{sym, ◌∙◌}
use native.Mathlib.Omega.{arith}
use Rattle.group_packing.proofs.Small.{within_if_small, too_high}
use Rattle.group_packing.proofs.all_within.Goals as goal

pub returns-then-not-within : goal.returns-then-not-within
returns-then-not-within c = sym (too_high c.args.codes.now c.loop-i.i (omega arith) (sym c.within.ensures ∙ c.if-not-within.true))

pub returns : goal.returns
returns c = let l = c.loop-i in
    sym (within_if_small c.args.codes.now (λ k h looked. l.invariant k (omega arith) looked))
