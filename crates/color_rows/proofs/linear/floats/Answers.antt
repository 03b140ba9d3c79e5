-- `color_rows::floats` meets its contract: an f64 holds every number of a small row. Assumes nothing.
use Rattle.color_rows.specs.inner.Rows.{floats_of}
use Rattle.color_rows.proofs.linear.floats.Goals as goal

pub returns : goal.returns
unfolding floats_of
returns c = rw (c.difference.ensures, c.difference-2.ensures, c.difference-3.ensures, c.difference-4.ensures, c.from.ensures)
