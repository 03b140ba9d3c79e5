-- `color_line::point_at` meets its contract. Assumes nothing.
use Rattle.color_line.specs.inner.Rows.{point_of}
use Rattle.color_line.proofs.points.point_at.Goals as goal

pub returns : goal.returns
unfolding point_of
returns c = c.point.ensures
