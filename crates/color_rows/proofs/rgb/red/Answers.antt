-- `color_rows::red` meets its contract. Assumes nothing.
use mathlib.Core.Path.{refl}
use Rattle.color_rows.specs.inner.Rows.{red_value}
use Rattle.color_rows.proofs.rgb.red.Goals as goal

pub returns : goal.returns
unfolding red_value
returns c = refl
