-- `point_joining::join` meets its contract. Assumes nothing.
use mathlib.Core.Path.{refl}
use Rattle.point_joining.specs.inner.Places.{joined_bits}
use Rattle.point_joining.proofs.join.Goals as goal

pub returns : goal.returns
unfolding joined_bits
returns c = refl
