-- `color_rows::luma` meets its contract. Assumes nothing.
use mathlib.Core.Path.{refl}
use Rattle.color_rows.specs.inner.Rows.{luma_value}
use Rattle.color_rows.proofs.ycbcr.luma.Goals as goal

pub returns : goal.returns
unfolding luma_value
returns c = refl
