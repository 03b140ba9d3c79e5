-- `color_rows::cr` meets its contract. Assumes nothing.
use mathlib.Core.Path.{refl}
use Rattle.color_rows.specs.inner.Rows.{cr_value}
use Rattle.color_rows.proofs.ycbcr.cr.Goals as goal

pub returns : goal.returns
unfolding cr_value
returns c = refl
