-- `FloatScale::code` meets its contract: the same steps. Assumes nothing.
use Rattle.float_scale.specs.inner.Floats.{code_in}
use Rattle.float_scale.proofs.FloatScale.code.Goals as goal

pub returns : goal.returns
unfolding code_in
returns c = c.clamp.ensures
