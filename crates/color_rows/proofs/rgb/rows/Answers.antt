-- `color_rows::rgb::rows` meets its contract. Assumes nothing.
use Rattle.color_rows.specs.inner.Rows.{rgb_rows}
use Rattle.color_rows.proofs.Sizes.{small_row, red_row_fits, blue_row_fits}
use Rattle.color_rows.proofs.rgb.rows.Goals as goal

pub float_row-requires : goal.float_row-requires
float_row-requires c = rw (c.red.ensures, c.of-out.ensures, c.spread_of-spread.ensures) (small_row c.args.numbers c.requires _ (red_row_fits c.args.numbers c.requires))

pub float_row-requires-2 : goal.float_row-requires-2
float_row-requires-2 c = rw (c.blue.ensures, c.of-out.ensures, c.spread_of-spread.ensures) (small_row c.args.numbers c.requires _ (blue_row_fits c.args.numbers c.requires))

pub returns : goal.returns
unfolding rgb_rows
returns c = rw (c.float_row.ensures, c.green_row.ensures, c.float_row-2.ensures, c.red.ensures, c.blue.ensures, c.of-out.ensures, c.spread_of-spread.ensures)
