-- `FloatEnds::bring` meets its contract: the same steps. Assumes nothing.
use lib.Ieee.{of_int, of_bits}
use Rattle.floats.specs.inner.Floor.{within, brought}
use Rattle.floats.proofs.FloatEnds.bring.Goals as goal

pub returns : goal.returns
unfolding brought within of_int of_bits
returns c = rw (c.at_most.ensures, c.at_least.ensures)
