-- `color_rows::blue` meets its contract. Assumes nothing.
use mathlib.Core.Path.{refl}
use Rattle.color_rows.specs.inner.Rows.{blue_value}
use Rattle.color_rows.proofs.rgb.blue.Goals as goal

pub returns : goal.returns
unfolding blue_value
returns c = refl
