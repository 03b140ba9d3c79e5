-- `color_line::store_seven` meets its contract: each turn stores one number. Assumes nothing.
use mathlib.Core.Path.{refl}
use Rattle.color_line.specs.inner.Rows.{stored_of}
use Rattle.color_line.proofs.Stores.{stored_more}
use Rattle.color_line.proofs.store.store_seven.Goals as goal

pub loop-j-init : goal.loop-j-init
unfolding stored_of
loop-j-init c = refl

pub loop-j-preserved : goal.loop-j-preserved
loop-j-preserved c = let l = c.loop-j in
    stored_more c.args.v c.args.i c.args.out.now l.j l.out _ l.invariant c.store4.ensures
