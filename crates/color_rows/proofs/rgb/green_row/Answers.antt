-- `color_rows::green_row` meets its contract, out of each range. Assumes nothing.
use mathlib.Core.Path.{sym, ap, ◌∙◌, subst}
use Rattle.color_rows.specs.inner.Rows.{green_row, floats_of}
use Rattle.color_rows.specs.inner.Sizes.{Small}
use Rattle.color_rows.proofs.Sizes.{small_row, green_row_fits}
use Rattle.color_rows.proofs.Ranges.{narrow_row, full_row}
use Rattle.color_rows.proofs.rgb.green_row.Goals as goal

pub float_row-requires : goal.float_row-requires
float_row-requires c = let m = c.args.numbers in
    subst Small (sym (narrow_row m c.args.spread c.args.out c.green_of_narrow.result c.requires.small_numbers.1 c.requires.out_value c.in-Narrow.is c.ratio_of-ratio.result c.ratio_of-ratio.ensures c.green_of_narrow.ensures)) (small_row m c.requires.small_numbers.0 (green_row m) (green_row_fits m c.requires.small_numbers.0))

pub float_row-requires-in-Full : goal.float_row-requires-in-Full
float_row-requires-in-Full c = let m = c.args.numbers in
    subst Small (sym (full_row m c.args.spread c.args.out c.green_of_full.result c.requires.small_numbers.1 c.requires.out_value c.in-Full.is c.green_of_full.ensures)) (small_row m c.requires.small_numbers.0 (green_row m) (green_row_fits m c.requires.small_numbers.0))

pub returns-in-Narrow : goal.returns-in-Narrow
returns-in-Narrow c = let m = c.args.numbers in
    c.float_row.ensures ∙ ap floats_of (narrow_row m c.args.spread c.args.out c.green_of_narrow.result c.requires.small_numbers.1 c.requires.out_value c.in-Narrow.is c.ratio_of-ratio.result c.ratio_of-ratio.ensures c.green_of_narrow.ensures)

pub returns-in-Full : goal.returns-in-Full
returns-in-Full c = let m = c.args.numbers in
    c.float_row-in-Full.ensures ∙ ap floats_of (full_row m c.args.spread c.args.out c.green_of_full.result c.requires.small_numbers.1 c.requires.out_value c.in-Full.is c.green_of_full.ensures)
