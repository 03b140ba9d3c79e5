-- Request A7: a closed card and packed points from a picture file. Assumes nothing.
use Rattle.std.specs.Prelude.{ℕ, ◌*◌, not, cond, List, length, drop, Result, Ok, Err, is_ok}
use Rattle.lists.specs.Lists.{new_or_kept}
use Rattle.line.specs.Line.{packed_of, codes_within}
use Rattle.card_table.specs.Table.{card_bytes}
use Rattle.ppm_header.specs.Header.{read_header}
use Rattle.ppm_codes.specs.Codes.{raster_codes}
use Rattle.refusal.specs.declared.Refusal.TheVariants.{Outside, WrongLineOrOutput, WrongPicture}
use Rattle.refusal.specs.declared.Refusal.{Refusal}
use Rattle.ppm_header.specs.declared.Header.{Header}
use Rattle.ppm_card.specs.Card.{depth_of_top, import_layout, import_facts, given_known, import_fits}

-- the card is written at 2
abbrev pub import_edition : ℕ
import_edition = 2

-- the codes that follow a header of so many bytes
abbrev pub codes_after : ℕ → ℕ → List ℕ → List ℕ
codes_after top head ppm = raster_codes (depth_of_top top) (drop head ppm)

-- ---- the answers: 9, then 18 for the header, then 13, then 18 for a code

abbrev pub import_read : Result Header Refusal → List ℕ → ℕ → ℕ → Result ℕ Refusal
import_read (Err k) ppm card packed = Err k
import_read (Ok h) ppm card packed =
    cond (not (import_fits h.top (h.width * h.height) h.length (length ppm) card packed)) (Err WrongLineOrOutput)
    (cond (not (codes_within (depth_of_top h.top) (codes_after h.top h.length ppm))) (Err WrongPicture)
    (Ok (h.width * h.height)))

unfoldable pub import_answer : List ℕ → ℕ → ℕ → ℕ → ℕ → Result ℕ Refusal
import_answer ppm item primaries card packed =
    cond (not (given_known item primaries)) (Err Outside)
    (import_read (read_header ppm) ppm card packed)

-- ---- both outputs afterwards: as before where the file is refused

abbrev pub card_read : Result Header Refusal → ℕ → ℕ → List ℕ → List ℕ
card_read (Err k) item primaries before = before
card_read (Ok h) item primaries before = card_bytes import_edition (import_facts primaries h.top h.width h.height item)

unfoldable pub import_card : List ℕ → ℕ → ℕ → List ℕ → ℕ → List ℕ
import_card ppm item primaries before packed = new_or_kept (is_ok (import_answer ppm item primaries (length before) packed)) (card_read (read_header ppm) item primaries before) before

abbrev pub packed_read : Result Header Refusal → List ℕ → ℕ → List ℕ → List ℕ
packed_read (Err k) ppm primaries before = before
packed_read (Ok h) ppm primaries before = packed_of (import_layout primaries h.top) (codes_after h.top h.length ppm)

unfoldable pub import_packed : List ℕ → ℕ → ℕ → ℕ → List ℕ → List ℕ
import_packed ppm item primaries card before = new_or_kept (is_ok (import_answer ppm item primaries card (length before))) (packed_read (read_header ppm) ppm primaries before) before
