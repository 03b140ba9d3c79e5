-- Document 01, "Card" and "The book of one card", with requests A1 and A6: the facts that a card holds, a layout, a size, an item and an access, and the edition that they need. Assumes nothing.
use Rattle.std.specs.Prelude.{ℕ, ◌^◌, Bool, not, cond, ◌&&◌, eqb, leb, ltb}
use Rattle.parameters.specs.declared.range.Range.TheVariants.{LegacyFull}
use Rattle.parameters.specs.Parameters.{range_number}
use Rattle.layout.specs.Layout.{grouped, whole_groups, valid_layout}
use Rattle.card_edition.specs.Access.{access_known}
use Rattle.card_table.specs.declared.facts.Facts.{Facts}

-- the largest width, and the largest height
abbrev pub largest_side : ℕ
largest_side = 4096

-- width and height: from 1 to that
abbrev pub side_known : ℕ → Bool
side_known side = leb 1 side && leb side largest_side

-- no field of the facts is outside the paper; an item is not zero, and a u64
unfoldable pub facts_valid : Facts → Bool
facts_valid f =
    valid_layout f.layout
    && side_known f.width
    && side_known f.height
    && leb 1 f.item
    && ltb f.item (2 ^ 64)
    && access_known f.access

-- row 16: the width is odd, where two points of a line make a group (A6)
abbrev pub odd_width : Facts → Bool
odd_width f = not (whole_groups f.layout f.width)

-- byte 0: the least edition that can read a card of these facts, a line for each edition that something in them needs, the latest first. Groups need 4 (A6); range 3 needs 3, at any depth (A1); 12 bits need 2, and all else 1 (document 01)
unfoldable pub least_edition : Facts → ℕ
least_edition f =
    cond (grouped f.layout) 4
    (cond (eqb f.layout.range (range_number LegacyFull)) 3
    (cond (eqb f.layout.depth 12) 2
    1))

-- the same facts with another access
abbrev pub with_access : Facts → ℕ → Facts
with_access f access = record { layout = f.layout; width = f.width; height = f.height; item = f.item; access = access }
