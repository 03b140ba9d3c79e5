-- What C hands over: a layout by its nine bytes, the facts of a card by those and four numbers (include/imurraqi.h). Assumes nothing.
use Rattle.std.specs.Prelude.{ℕ, List, [], ◌∷◌, get_or}
use Rattle.layout.specs.declared.Layout.{Layout}
use Rattle.card_table.specs.declared.facts.Facts.{Facts}

-- the layout of nine bytes, the last of which is the sampling (A6)
abbrev pub layout_of : List ℕ → Layout
layout_of b =
    record {
      model = get_or b 0 0;
      primaries = get_or b 1 0;
      range = get_or b 2 0;
      depth = get_or b 3 0;
      bytes = get_or b 4 0;
      offset0 = get_or b 5 0;
      offset1 = get_or b 6 0;
      offset2 = get_or b 7 0;
      sampling = get_or b 8 0;
    }

-- the nine bytes of a layout
abbrev pub layout_bytes : Layout → List ℕ
layout_bytes l = l.model ∷ l.primaries ∷ l.range ∷ l.depth ∷ l.bytes ∷ l.offset0 ∷ l.offset1 ∷ l.offset2 ∷ l.sampling ∷ []

-- the facts of a layout's bytes, a width, a height, an item and an access
abbrev pub facts_of : (layout : List ℕ) (width height item access : ℕ) → Facts
facts_of layout width height item access = record { layout = layout_of layout; width = width; height = height; item = item; access = access }
