-- Document 01, "Card": the table. Assumes nothing.
use Rattle.std.specs.Prelude.{ℕ, List, ◌∷◌, ◌++◌, replicate}
use Rattle.lists.specs.Bytes.{bytes_of}
use Rattle.card_table.specs.declared.facts.Facts.{Facts}
use Rattle.card_table.specs.Facts.{least_edition}

-- the bytes of a card
abbrev pub card_size : ℕ
card_size = 32

-- the card of the facts, written at an edition: at 0 the least edition and the writer's, at 2 the layout, with its sampling at 7 (A6), at 12 width and height, at 16 the item, at 24 the access, at 25 zeros
unfoldable pub card_bytes : ℕ → Facts → List ℕ
card_bytes e f =
    let l = f.layout in
    least_edition f ∷ e
    ∷ l.model ∷ l.primaries ∷ l.range ∷ l.depth ∷ l.bytes ∷ l.sampling
    ∷ l.offset0 ∷ l.offset1 ∷ l.offset2 ∷ 0
    ∷ (bytes_of f.width 2 ++ (bytes_of f.height 2 ++ (bytes_of f.item 8 ++ (f.access ∷ replicate 7 0))))
