-- `color_rows::cb` meets its contract. Assumes nothing.
use mathlib.Core.Path.{refl}
use Rattle.color_rows.specs.inner.Rows.{cb_value}
use Rattle.color_rows.proofs.ycbcr.cb.Goals as goal

pub returns : goal.returns
unfolding cb_value
returns c = refl
