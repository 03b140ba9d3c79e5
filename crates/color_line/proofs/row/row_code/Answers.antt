-- `color_line::row_code` meets its contract. Assumes nothing.
use Rattle.color_line.specs.inner.Rows.{row_code}
use Rattle.color_line.proofs.row.row_code.Goals as goal

pub returns : goal.returns
unfolding row_code
returns c = c.clamp.ensures
