-- `color_rows::green_of_full` meets its contract. Assumes nothing.
use mathlib.Core.Path.{refl}
use native.Mathlib.Omega.{arith}
use Rattle.color_rows.specs.inner.Rows.{green_value}
use Rattle.color_rows.proofs.Sizes.{both_neutral}
use Rattle.color_rows.proofs.rgb.green_of_full.Goals as goal

pub overflow_mul-result-3 : goal.overflow_mul-result-3
overflow_mul-result-3 c = omega (arith, both_neutral c.args.w c.args.from c.requires.0 c.requires.1)

pub returns : goal.returns
unfolding green_value
returns c = refl
