-- A law of the table. Assumes nothing.
use mathlib.Core.Path.{◌≡◌, refl}
use Prim.Native.Nat.{ℕ}
use lib.ListN.{length}
use Rattle.lists.specs.Bytes.{bytes_of}
use Rattle.card_table.specs.declared.facts.Facts.{Facts}
use Rattle.card_table.specs.Table.{card_size, card_bytes}

pub length-card : (e : ℕ) (f : Facts) → length (card_bytes e f) ≡ card_size
unfolding card_bytes bytes_of
length-card e f = refl
