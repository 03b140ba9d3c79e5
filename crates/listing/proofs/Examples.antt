-- Worked examples: the paper's list, whole, and others; computed from the definitions. Assumes nothing.
use Prim.Native.Nat.{ℕ}
use mathlib.Core.Path.{◌≡◌, refl}
use mathlib.Core.List.{List, [], ◌∷◌, ◌++◌}
use lib.ListN.{replicate, set}
use Rattle.layout.specs.Layout.{valid_layout}
use Rattle.card_table.specs.Facts.{least_edition, facts_valid}
use Rattle.card_edition.specs.Access.{access_of, access_unknown}
use Rattle.card_reader.specs.Reading.{layout_in, facts_in, front_right, end_wrong, read_card}
use Rattle.text_writer.specs.Decimal.{digits, decimal}
use Rattle.listing.specs.Words.{closed_word, open_word, access_word}
use Rattle.listing.specs.List.{item_text, size_text, number_line, card_line, first_line, card_lines, list_text}

-- item 7, open, 720 by 576: Y'CbCr, BT.709, narrow, 10 bits in four bytes, written at 2
abbrev seven : List ℕ
seven =
    1 ∷ 2 ∷ 2 ∷ 1 ∷ 1 ∷ 10 ∷ 4 ∷ 0 ∷ 0 ∷ 10 ∷ 20 ∷ 0 ∷ 208 ∷ 2 ∷ 64 ∷ 2
    ∷ 7 ∷ (replicate 7 0 ++ (2 ∷ replicate 7 0))

-- the same in groups, written at 4
abbrev groups : List ℕ
groups =
    4 ∷ 4 ∷ 2 ∷ 1 ∷ 1 ∷ 8 ∷ 4 ∷ 1 ∷ 0 ∷ 0 ∷ 0 ∷ 0 ∷ 208 ∷ 2 ∷ 64 ∷ 2
    ∷ 7 ∷ (replicate 7 0 ++ (2 ∷ replicate 7 0))

-- `cards 2`, `7 open 720x576`, `- refused 9`
abbrev paper_list : List ℕ
paper_list =
    99 ∷ 97 ∷ 114 ∷ 100 ∷ 115 ∷ 32 ∷ 50 ∷ 10
    ∷ 55 ∷ 32 ∷ 111 ∷ 112 ∷ 101 ∷ 110 ∷ 32 ∷ 55 ∷ 50 ∷ 48 ∷ 120 ∷ 53 ∷ 55 ∷ 54 ∷ 10
    ∷ 45 ∷ 32 ∷ 114 ∷ 101 ∷ 102 ∷ 117 ∷ 115 ∷ 101 ∷ 100 ∷ 32 ∷ 57 ∷ 10 ∷ []

-- `cards 0`
abbrev empty_list : List ℕ
empty_list = 99 ∷ 97 ∷ 114 ∷ 100 ∷ 115 ∷ 32 ∷ 48 ∷ 10 ∷ []

-- `stack refused 1`
abbrev refused_list : List ℕ
refused_list = 115 ∷ 116 ∷ 97 ∷ 99 ∷ 107 ∷ 32 ∷ 114 ∷ 101 ∷ 102 ∷ 117 ∷ 115 ∷ 101 ∷ 100 ∷ 32 ∷ 49 ∷ 10 ∷ []

-- `7 closed 720x576`, or with another word
abbrev line_with : List ℕ → List ℕ
line_with word = 55 ∷ 32 ∷ (word ++ (32 ∷ 55 ∷ 50 ∷ 48 ∷ 120 ∷ 53 ∷ 55 ∷ 54 ∷ 10 ∷ []))

-- `- refused 16`
abbrev odd_line : List ℕ
odd_line = 45 ∷ 32 ∷ 114 ∷ 101 ∷ 102 ∷ 117 ∷ 115 ∷ 101 ∷ 100 ∷ 32 ∷ 49 ∷ 54 ∷ 10 ∷ []

-- the paper's two cards; no bytes; a byte too many; an access that nobody knows, written at 5; range 3, which no edition below 3 reads; groups, which only edition 4 reads, and of an odd width; the largest number, and ten
pub examples : (list_text (seven ++ replicate 32 0) ≡ paper_list)
    × (list_text [] ≡ empty_list)
    × (list_text (0 ∷ seven) ≡ refused_list)
    × (card_line (set (set seven 1 5) 24 9) ≡ line_with closed_word)
    × (card_line (set (set (set seven 0 3) 1 3) 4 3) ≡ line_with open_word)
    × (card_line groups ≡ line_with open_word)
    × (card_line (set groups 12 209) ≡ odd_line)
    × (decimal 18446744073709551615 ≡ 49 ∷ 56 ∷ 52 ∷ 52 ∷ 54 ∷ 55 ∷ 52 ∷ 52 ∷ 48 ∷ 55 ∷ 51 ∷ 55 ∷ 48 ∷ 57 ∷ 53 ∷ 53 ∷ 49 ∷ 54 ∷ 49 ∷ 53 ∷ [])
    × (decimal 10 ≡ 49 ∷ 48 ∷ [])
unfolding list_text first_line card_lines card_line item_text size_text number_line access_word decimal digits read_card least_edition facts_valid valid_layout access_of layout_in facts_in front_right access_unknown end_wrong
examples = (refl, refl, refl, refl, refl, refl, refl, refl, refl)
