-- `color_line::point` meets its contract. Assumes nothing.
use Rattle.color_line.specs.inner.Rows.{rows_code}
use Rattle.color_line.proofs.Lines.{point_is}
use Rattle.color_line.proofs.row.point.Goals as goal

pub returns : goal.returns
unfolding rows_code
returns c = let a = c.args in
    point_is (rows_code a.rows a.x a.y a.z) c.row_code-a.ensures c.row_code-b.ensures c.row_code-c.ensures
