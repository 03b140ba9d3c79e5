-- `color_rows::green_of_narrow` meets its contract. Assumes nothing.
use mathlib.Core.Path.{refl}
use Rattle.color_rows.specs.inner.Green.{narrow_green_value}
use Rattle.color_rows.proofs.green.green_of_narrow.Goals as goal

pub returns : goal.returns
unfolding narrow_green_value
returns c = refl
