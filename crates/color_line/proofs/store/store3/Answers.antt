-- `color_line::store3` meets its contract. Assumes nothing.
use native.Mathlib.Nat.{add-zero, div-one}
use Rattle.lists.specs.inner.Stores.{written}
use Rattle.color_line.specs.inner.Rows.{short_of}
use Rattle.color_line.proofs.store.store3.Goals as goal

pub returns : goal.returns
unfolding written short_of
returns c = let a = c.args in rw (add-zero a.at, div-one a.v)
