-- The scale in f64 is worked out by the same steps. Assumes nothing.
use lib.Ieee.{of_bits}
use Rattle.float_scale.proofs.FloatScaleFromScale.from.Goals as goal

pub returns : goal.returns
unfolding of_bits
returns c = rw (c.from.ensures, c.ends.ensures)
