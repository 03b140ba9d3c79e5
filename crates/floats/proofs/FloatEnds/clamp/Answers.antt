-- `FloatEnds::clamp` meets its contract: what is brought to the upper end is a number. Assumes nothing.
use mathlib.Core.Path.{sym, subst}
use mathlib.Core.Bool.{not}
use native.Mathlib.Omega.{arith}
use lib.Dec.{T}
use lib.Ieee.{Float, is_nan}
use Rattle.floats.specs.inner.Floor.{clamped_by}
use Rattle.floats.proofs.Floors.{brought-number}
use Rattle.floats.proofs.FloatEnds.clamp.Goals as goal

pub whole-requires : goal.whole-requires
whole-requires c = subst (λ (x : Float). T (not (is_nan x))) (sym c.bring-within.ensures) (brought-number c.args.self c.args.t (omega arith))

pub returns : goal.returns
unfolding clamped_by
returns c = rw (c.whole.ensures, c.bring-within.ensures)
