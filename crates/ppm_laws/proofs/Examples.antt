-- Worked examples: pictures of one point or one group, exported and imported, computed from the definitions. Assumes nothing.
use Prim.Native.Nat.{ℕ}
use mathlib.Core.Path.{◌≡◌, refl}
use mathlib.Core.List.{List, [], ◌∷◌, ◌++◌}
use lib.ListN.{replicate}
use Rattle.lists.specs.Lists.{tabulate, every}
use Rattle.lists.specs.Bytes.{little, bytes_of}
use Rattle.layout.specs.declared.Layout.{Layout}
use Rattle.layout.specs.Layout.{valid_points, valid_groups, valid_layout}
use Rattle.line.specs.Point.{point_of}
use Rattle.line.specs.Line.{point_code, code_at, codes_of, joined, point_byte, byte_at, packed_of}
use Rattle.line.specs.Group.{group_code, group_byte}
use Rattle.scale.specs.Scale.{scale_of}
use Rattle.quantization.specs.Code.{code_of_value}
use Rattle.color_equations.specs.Equations.{primary_of, green_from}
use Rattle.color_equations.specs.Conversion.{rgb_of}
use Rattle.color_equations.specs.Line.{converted_at, converted_of}
use Rattle.full_rgb.specs.Full.{stretched_of, full_of}
use Rattle.card_table.specs.Facts.{least_edition, facts_valid}
use Rattle.card_edition.specs.Access.{access_of, access_unknown}
use Rattle.card_table.specs.Table.{card_bytes}
use Rattle.card_reader.specs.Reading.{layout_in, facts_in, front_right, end_wrong, read_card}
use Rattle.text_writer.specs.Decimal.{digits, decimal}
use Rattle.ppm_header.specs.Text.{sides_text, header_text}
use Rattle.ppm_header.specs.Header.{leading, begins, header_of, read_header}
use Rattle.ppm_raster.specs.Raster.{raster_byte, raster_by}
use Rattle.ppm_codes.specs.Codes.{code_by, codes_by}
use Rattle.ppm_pixels.specs.Pixels.{pixels_of}
use Rattle.ppm_export.specs.Export.{header_of_facts, picture_of, picture_bytes, read_for_export, export_fits, export_answer, export_output, export_length}
use Rattle.ppm_card.specs.Card.{import_layout, import_facts, import_length}
use Rattle.std.specs.Prelude.{Ok, Err}
use Rattle.refusal.specs.declared.Refusal.TheVariants.{LaterEdition, NotOpen, Outside, WrongLineOrOutput, WrongPicture}
use Rattle.ppm_import.specs.Import.{import_answer, import_card, import_packed}

-- ---- exported

-- narrow Y'CbCr of 10 bits in four bytes, BT.709
abbrev ten : Layout
ten = record { model = 2; primaries = 1; range = 1; depth = 10; bytes = 4; offset0 = 0; offset1 = 10; offset2 = 20; sampling = 0 }

-- R'G'B' of 8 bits in three bytes, narrow, and in the older full range
abbrev eight : ℕ → Layout
eight range = record { model = 1; primaries = 1; range = range; depth = 8; bytes = 3; offset0 = 0; offset1 = 8; offset2 = 16; sampling = 0 }

-- full-range groups of BT.601
abbrev deck : Layout
deck = record { model = 2; primaries = 2; range = 2; depth = 8; bytes = 4; offset0 = 0; offset1 = 0; offset2 = 0; sampling = 1 }

-- item 7, of so many points in a line, with an access, written at an edition
abbrev card : ℕ → Layout → ℕ → ℕ → List ℕ
card e l width access = card_bytes e (record { layout = l; width = width; height = 1; item = 7; access = access })

-- a header of one line of so many points, given as a digit
abbrev head : ℕ → List ℕ → List ℕ
head width top = 80 ∷ 54 ∷ 10 ∷ width ∷ 32 ∷ 49 ∷ 10 ∷ (top ++ (10 ∷ []))

-- white of 10 bits becomes 1023, high byte first; narrow 16, 235 and 126 become 0, 255 and 128, and 1 and 254 are clamped; both points of a group have its colour, Cb 90 and Cr 150
pub exported : (export_output (card 2 ten 1 2) 2 (172 ∷ 3 ∷ 8 ∷ 32 ∷ []) (replicate 18 0) ≡ head 49 (49 ∷ 48 ∷ 50 ∷ 51 ∷ []) ++ (3 ∷ 255 ∷ 3 ∷ 255 ∷ 3 ∷ 255 ∷ []))
    × (export_answer (card 2 ten 1 2) 2 4 18 ≡ Ok 1)
    × (export_length (card 2 ten 1 2) 2 ≡ Ok 18)
    × (export_output (card 2 (eight 1) 2 2) 2 (16 ∷ 235 ∷ 126 ∷ 1 ∷ 254 ∷ 128 ∷ []) (replicate 17 0) ≡ head 50 (50 ∷ 53 ∷ 53 ∷ []) ++ (0 ∷ 255 ∷ 128 ∷ 0 ∷ 255 ∷ 130 ∷ []))
    × (export_output (card 4 deck 2 2) 4 (90 ∷ 16 ∷ 150 ∷ 235 ∷ []) (replicate 17 0) ≡ head 50 (50 ∷ 53 ∷ 53 ∷ []) ++ (47 ∷ 13 ∷ 0 ∷ 255 ∷ 232 ∷ 168 ∷ []))
unfolding tabulate every little bytes_of valid_points valid_groups valid_layout point_of group_code point_code code_at codes_of scale_of code_of_value primary_of green_from rgb_of converted_at converted_of stretched_of full_of least_edition facts_valid access_of card_bytes layout_in facts_in front_right end_wrong access_unknown read_card decimal digits sides_text header_text raster_byte raster_by header_of_facts pixels_of picture_of picture_bytes read_for_export export_fits export_answer export_output export_length
exported = (refl, refl, refl, refl, refl)

-- 17 for the community's card, and for an open one at edition 1, before 13; 9 for range 3 before 17; 8 before both; 13 for an output one byte too long, and for points one byte too short
pub refused : (export_answer (card 2 ten 1 1) 2 5 18 ≡ Err NotOpen)
    × (export_answer (card 2 ten 1 2) 1 5 18 ≡ Err NotOpen)
    × (export_length (card 2 ten 1 2) 1 ≡ Err NotOpen)
    × (export_answer (card 3 (eight 3) 1 0) 3 3 14 ≡ Err Outside)
    × (export_answer (card 3 (eight 3) 1 0) 2 3 14 ≡ Err LaterEdition)
    × (export_answer (card 2 ten 1 2) 2 4 19 ≡ Err WrongLineOrOutput)
    × (export_answer (card 2 ten 1 2) 2 3 18 ≡ Err WrongLineOrOutput)
unfolding tabulate every little bytes_of valid_points valid_groups valid_layout least_edition facts_valid access_of card_bytes layout_in facts_in front_right end_wrong access_unknown read_card decimal digits sides_text header_text header_of_facts picture_bytes read_for_export export_fits export_answer export_length
refused = (refl, refl, refl, refl, refl, refl, refl)

-- ---- imported

-- a point of 8 bits, and one of 12
abbrev small : List ℕ
small = head 49 (50 ∷ 53 ∷ 53 ∷ []) ++ (1 ∷ 2 ∷ 3 ∷ [])

abbrev deep : ℕ → List ℕ
deep high = head 49 (52 ∷ 48 ∷ 57 ∷ 53 ∷ []) ++ (15 ∷ 255 ∷ 0 ∷ 1 ∷ high ∷ 2 ∷ [])

-- the card is closed, and written at 2; 12 bits lie one behind the other in 5 bytes
pub imported : (import_card small 7 4 (replicate 32 9) 3 ≡ 1 ∷ 2 ∷ 1 ∷ 4 ∷ 2 ∷ 8 ∷ 3 ∷ 0 ∷ 0 ∷ 8 ∷ 16 ∷ 0 ∷ 1 ∷ 0 ∷ 1 ∷ 0 ∷ 7 ∷ replicate 15 0)
    × (import_packed small 7 4 32 (replicate 3 9) ≡ 1 ∷ 2 ∷ 3 ∷ [])
    × (import_answer small 7 4 32 3 ≡ Ok 1)
    × (import_length small ≡ Ok 3)
    × (import_packed (deep 0) 7 4 32 (replicate 5 9) ≡ 255 ∷ 31 ∷ 0 ∷ 2 ∷ 0 ∷ [])
    × (import_answer (deep 16) 7 4 32 5 ≡ Err WrongPicture)
    × (import_answer (deep 16) 7 4 32 6 ≡ Err WrongLineOrOutput)
    × (import_answer (deep 16) 7 4 31 5 ≡ Err WrongLineOrOutput)
    × (import_answer (deep 16) 0 4 31 6 ≡ Err Outside)
    × (import_answer (80 ∷ deep 16) 7 4 31 6 ≡ Err WrongPicture)
    × (import_answer (80 ∷ deep 16) 7 5 31 6 ≡ Err Outside)
    × (import_length (head 49 (50 ∷ 53 ∷ 53 ∷ [])) ≡ Ok 3)
unfolding tabulate every bytes_of joined point_byte group_byte byte_at packed_of least_edition card_bytes decimal digits sides_text header_text leading begins header_of read_header code_by codes_by import_layout import_facts import_answer import_card import_packed import_length
imported = (refl, refl, refl, refl, refl, refl, refl, refl, refl, refl, refl, refl)
