-- `color_rows::ycbcr::rows` meets its contract. Assumes nothing.
use Rattle.color_rows.specs.inner.Rows.{ycbcr_rows}
use Rattle.color_rows.proofs.Sizes.{small_row, luma_row_fits, cb_row_fits, cr_row_fits}
use Rattle.color_rows.proofs.ycbcr.rows.Goals as goal

pub float_row-requires : goal.float_row-requires
float_row-requires c = rw (c.luma.ensures, c.of-y.ensures, c.of-rgb.ensures) (small_row c.args.numbers c.requires _ (luma_row_fits c.args.numbers c.requires))

pub float_row-requires-2 : goal.float_row-requires-2
float_row-requires-2 c = rw (c.cb.ensures, c.of-c.ensures, c.of-rgb.ensures) (small_row c.args.numbers c.requires _ (cb_row_fits c.args.numbers c.requires))

pub float_row-requires-3 : goal.float_row-requires-3
float_row-requires-3 c = rw (c.cr.ensures, c.of-c.ensures, c.of-rgb.ensures) (small_row c.args.numbers c.requires _ (cr_row_fits c.args.numbers c.requires))

pub returns : goal.returns
unfolding ycbcr_rows
returns c = rw (c.float_row.ensures, c.float_row-2.ensures, c.float_row-3.ensures, c.luma.ensures, c.cb.ensures, c.cr.ensures, c.of-rgb.ensures, c.of-y.ensures, c.of-c.ensures)
