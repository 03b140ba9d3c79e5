-- Request A7: the picture file of a card and its points. Assumes nothing.
use Rattle.std.specs.Prelude.{ℕ, ◌+◌, ◌*◌, Bool, not, cond, ◌&&◌, List, ◌++◌, eqb, length, Result, Ok, Err, is_ok}
use Rattle.lists.specs.Lists.{new_or_kept}
use Rattle.parameters.specs.declared.range.Range.TheVariants.{LegacyFull}
use Rattle.parameters.specs.Parameters.{range_number, top_of}
use Rattle.line.specs.Line.{bytes_for}
use Rattle.card_table.specs.declared.facts.Facts.{Facts}
use Rattle.card_edition.specs.Access.{opened}
use Rattle.card_reader.specs.Reading.{read_card}
use Rattle.ppm_header.specs.Text.{header_text}
use Rattle.ppm_raster.specs.Raster.{code_bytes}
use Rattle.refusal.specs.declared.Refusal.TheVariants.{NotOpen, Outside, WrongLineOrOutput}
use Rattle.refusal.specs.declared.Refusal.{Refusal}
use Rattle.ppm_pixels.specs.Pixels.{pixels_of}

-- ---- the picture of facts

-- how many points a picture has
abbrev pub points_of : Facts → ℕ
points_of f = f.width * f.height

-- its header, with the largest code of its depth
unfoldable pub header_of_facts : Facts → List ℕ
header_of_facts f = header_text f.width f.height (top_of f.layout.depth)

-- the whole file: the header, and then the points
unfoldable pub picture_of : Facts → List ℕ → List ℕ
unfolding header_of_facts pixels_of
picture_of f packed = header_of_facts f ++ pixels_of f.layout packed

-- its bytes
unfoldable pub picture_bytes : Facts → ℕ
unfolding header_of_facts
picture_bytes f = length (header_of_facts f) + 3 * code_bytes f.layout.depth * points_of f

-- ---- the answers: the reading's refusals, then 9 for range 3, then 17 where the access shown is not open, then 13

abbrev pub exportable : Result Facts Refusal → Result Facts Refusal
exportable (Err k) = Err k
exportable (Ok f) =
    cond (eqb f.layout.range (range_number LegacyFull)) (Err Outside)
    (cond (not (eqb f.access opened)) (Err NotOpen)
    (Ok f))

-- what is read for an export
unfoldable pub read_for_export : List ℕ → ℕ → Result Facts Refusal
read_for_export card e = exportable (read_card card e)

-- the packed points and the file have exactly the picture's bytes
unfoldable pub export_fits : Facts → ℕ → ℕ → Bool
unfolding picture_bytes
export_fits f packed output = eqb packed (bytes_for f.layout (points_of f)) && eqb output (picture_bytes f)

abbrev pub export_shown : Result Facts Refusal → ℕ → ℕ → Result ℕ Refusal
export_shown (Err k) packed output = Err k
export_shown (Ok f) packed output = cond (not (export_fits f packed output)) (Err WrongLineOrOutput) (Ok (points_of f))

unfoldable pub export_answer : List ℕ → ℕ → ℕ → ℕ → Result ℕ Refusal
export_answer card e packed output = export_shown (read_for_export card e) packed output

-- the output afterwards: the file, or what was there before where it is refused
abbrev pub picture_shown : Result Facts Refusal → List ℕ → List ℕ → List ℕ
picture_shown (Err k) packed before = before
picture_shown (Ok f) packed before = picture_of f packed

unfoldable pub export_output : List ℕ → ℕ → List ℕ → List ℕ → List ℕ
export_output card e packed before = new_or_kept (is_ok (export_answer card e (length packed) (length before))) (picture_shown (read_for_export card e) packed before) before

-- ---- how long the file will be: the same refusals but for 13

abbrev pub length_shown : Result Facts Refusal → Result ℕ Refusal
length_shown (Err k) = Err k
length_shown (Ok f) = Ok (picture_bytes f)

unfoldable pub export_length : List ℕ → ℕ → Result ℕ Refusal
export_length card e = length_shown (read_for_export card e)
