-- `color_rows::to_rgb` meets its contract. Assumes nothing.
use mathlib.Core.Path.{sym, ◌∙◌, subst}
use Rattle.color_numbers.specs.inner.Sizes.{SmallNumbers}
use Rattle.color_numbers.proofs.Known.{numbers_small, numbers_told}
use Rattle.color_rows.proofs.to_rgb.Goals as goal

pub rows-requires : goal.rows-requires
rows-requires c = let a = c.args in
    let e = numbers_told a.primaries a.depth a.range_in a.range_out (sym c.numbers_of.ensures ∙ c.in_ok-numbers.was) in
    subst SmallNumbers (sym e.1) (numbers_small a.primaries a.depth a.range_in a.range_out e.0)
