-- `color_line::store4` meets its contract. Assumes nothing.
use mathlib.Core.Path.{ap}
use Prim.Native.Nat.{◌+◌, ◌/◌, ◌%◌}
use mathlib.Core.List.{List}
use Prim.Native.Nat.{ℕ}
use lib.ListN.{set}
use Rattle.lists.specs.inner.Stores.{written}
use Rattle.color_line.specs.inner.Rows.{short_of}
use Rattle.color_line.proofs.store.store4.Goals as goal

pub returns : goal.returns
unfolding written short_of
returns c = let a = c.args in ap (λ (xs : List ℕ). set xs (a.at + 3) (a.v / 281474976710656 % 65536)) c.store3.ensures
