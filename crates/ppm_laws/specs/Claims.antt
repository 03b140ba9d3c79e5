-- Claims about picture files (request A7): who may be exported, what an import makes, what returns, what is refused. proofs/Claims.antt proves each. Assumes nothing.
use Rattle.std.specs.Prelude.{ℕ, ◌*◌, ◌^◌, ◌<◌, ◌≡◌, true, false, cond, List, eqb, leb, length, Ok, Err}
use Rattle.lists.specs.Bytes.{are_bytes}
use Rattle.parameters.specs.Parameters.{primaries_known, top_of}
use Rattle.line.specs.Line.{codes_of, codes_within}
use Rattle.card_table.specs.declared.facts.Facts.{Facts}
use Rattle.card_edition.specs.Access.{closed, opened}
use Rattle.card_table.specs.Table.{card_size, card_bytes}
use Rattle.card_reader.specs.Reading.{read_card}
use Rattle.card_laws.specs.Claims.{shows}
use Rattle.full_rgb.specs.Full.{full_codes}
use Rattle.ppm_header.specs.Header.{read_header}
use Rattle.ppm_export.specs.Export.{points_of, header_of_facts, export_fits, export_answer, export_output, export_length}
use Rattle.ppm_card.specs.Card.{depth_of_top, bytes_of_top, import_layout, import_facts, given_known, import_fits, import_length}
use Rattle.refusal.specs.Refusal.{number_of}
use Rattle.refusal.specs.declared.Refusal.{Refusal}
use Rattle.refusal.specs.declared.Refusal.TheVariants.{NotOpen, Outside, WrongLineOrOutput, WrongPicture}
use Rattle.ppm_import.specs.Import.{codes_after, import_answer, import_card, import_packed}

-- ---- only open cards are exported

-- the card shows facts, and they are open
pub record ShownOpen (card : List ℕ) (e n : ℕ) : Type 0 where
  pub facts : Facts
  pub shown : read_card card e ≡ Ok facts
  pub is_open : facts.access ≡ opened
  pub count : n ≡ points_of facts

-- whatever the bytes, the edition and the lengths, an export that is accepted is of a card whose access, as it is shown, is open; it counts the card's points
abbrev pub OnlyOpen : Type 0
OnlyOpen = (card : List ℕ) (e packed output n : ℕ) → export_answer card e packed output ≡ Ok n → ShownOpen card e n

-- at edition 1 everything is closed, so that nothing is exported
abbrev pub NothingAtEdition1 : Type 0
NothingAtEdition1 = (card : List ℕ) (packed output n : ℕ) → export_answer card 1 packed output ≡ Ok n → ⊥

-- ---- an import makes a closed card

-- the card of an accepted import is that of what the header and the caller tell, closed, and written at 2: so it is shown at every edition that reads such a layout
abbrev pub ImportsTheCard : Type 0
ImportsTheCard =
    (ppm card : List ℕ) (item primaries width height top head packed n : ℕ) → item < 2 ^ 64 → read_header ppm ≡ Ok (record { width = width; height = height; top = top; length = head }) → import_answer ppm item primaries (length card) packed ≡ Ok n
    → let made = import_card ppm item primaries card packed in
    (made ≡ card_bytes 2 (import_facts primaries top width height item)) × ((e : ℕ) → read_card made e ≡ shows (import_facts primaries top width height item) e)

-- and whatever the file, no edition shows it as anything but closed
abbrev pub ImportsClosed : Type 0
ImportsClosed =
    (ppm card : List ℕ) (item primaries packed n : ℕ) → item < 2 ^ 64 → import_answer ppm item primaries (length card) packed ≡ Ok n
    → (e : ℕ) (f : Facts) → read_card (import_card ppm item primaries card packed) e ≡ Ok f → f.access ≡ closed

-- so it cannot be exported again, at any edition
abbrev pub NoWayBackOut : Type 0
NoWayBackOut =
    (ppm card : List ℕ) (item primaries packed n : ℕ) → item < 2 ^ 64 → import_answer ppm item primaries (length card) packed ≡ Ok n
    → (e points output m : ℕ) → export_answer (import_card ppm item primaries card packed) e points output ≡ Ok m → ⊥

-- ---- what returns

-- the file of any picture that was exported is taken by an import with any item and primaries, into outputs of the right lengths: it has the picture's sides, it counts the same points, and its codes are the full-range codes of those that were exported
abbrev pub ImportsWhatWasExported : Type 0
ImportsWhatWasExported =
    (card packed file packed' : List ℕ) (e n item primaries : ℕ) (f : Facts) → are_bytes packed ≡ true → read_card card e ≡ Ok f → export_answer card e (length packed) (length file) ≡ Ok n
    → leb 1 item ≡ true → primaries_known primaries ≡ true → let top = top_of f.layout.depth in length packed' ≡ bytes_of_top top * n
    → let ppm = export_output card e packed file in
    (read_header ppm ≡ Ok (record { width = f.width; height = f.height; top = top; length = (length (header_of_facts f)) }))
    × (import_answer ppm item primaries card_size (length packed') ≡ Ok n)
    × (codes_of (import_layout primaries top) (import_packed ppm item primaries card_size packed') ≡ full_codes f.layout (codes_of f.layout packed))

-- so the codes of full-range R'G'B' come back as they were
abbrev pub ReturnsTheCodes : Type 0
ReturnsTheCodes =
    (card packed file packed' : List ℕ) (e n item primaries : ℕ) (f : Facts) → are_bytes packed ≡ true → read_card card e ≡ Ok f → f.layout.model ≡ 1 → f.layout.range ≡ 2 → export_answer card e (length packed) (length file) ≡ Ok n
    → leb 1 item ≡ true → primaries_known primaries ≡ true → let top = top_of f.layout.depth in length packed' ≡ bytes_of_top top * n
    → codes_of (import_layout primaries top) (import_packed (export_output card e packed file) item primaries card_size packed') ≡ codes_of f.layout packed

-- ---- a refusal leaves the outputs as they were, however long they are

abbrev pub ExportKeeps : Type 0
ExportKeeps = (card packed before : List ℕ) (e : ℕ) (k : Refusal) → export_answer card e (length packed) (length before) ≡ Err k → export_output card e packed before ≡ before

abbrev pub ImportKeeps : Type 0
ImportKeeps =
    (ppm card packed : List ℕ) (item primaries : ℕ) (k : Refusal) → import_answer ppm item primaries (length card) (length packed) ≡ Err k
    → (import_card ppm item primaries card (length packed) ≡ card) × (import_packed ppm item primaries (length card) packed ≡ packed)

-- ---- the rows, in numbers: each with the number that the slip has for its refusal

-- what the reading refuses is refused so, whatever else is wrong
abbrev pub ReadingFirst : Type 0
ReadingFirst = (card : List ℕ) (e packed output : ℕ) (k : Refusal) → read_card card e ≡ Err k → export_answer card e packed output ≡ Err k

-- range 3 by 9, open or not; then an access that is not open by 17, whatever the lengths
abbrev pub Range3Is9 : Type 0
Range3Is9 = (card : List ℕ) (e packed output : ℕ) (f : Facts) → read_card card e ≡ Ok f → f.layout.range ≡ 3 → (export_answer card e packed output ≡ Err Outside) × (number_of Outside ≡ 9)

abbrev pub NotOpenIs17 : Type 0
NotOpenIs17 = (card : List ℕ) (e packed output : ℕ) (f : Facts) → read_card card e ≡ Ok f → eqb f.layout.range 3 ≡ false → eqb f.access opened ≡ false → (export_answer card e packed output ≡ Err NotOpen) × (number_of NotOpen ≡ 17)

-- and all else that is open is exported exactly if both lengths are the picture's, and else refused by 13
abbrev pub LengthsOr13 : Type 0
LengthsOr13 =
    (card : List ℕ) (e packed output : ℕ) (f : Facts) → read_card card e ≡ Ok f → eqb f.layout.range 3 ≡ false → f.access ≡ opened
    → (export_answer card e packed output ≡ cond (export_fits f packed output) (Ok (points_of f)) (Err WrongLineOrOutput)) × (number_of WrongLineOrOutput ≡ 13)

-- an import refuses item 0 and primaries outside 1 to 4 by 9 first of all, and then what has no header of our form by 18, whatever the lengths
abbrev pub OutsideIs9 : Type 0
OutsideIs9 = (ppm : List ℕ) (item primaries card packed : ℕ) → given_known item primaries ≡ false → (import_answer ppm item primaries card packed ≡ Err Outside) × (number_of Outside ≡ 9)

abbrev pub NoHeaderIs18 : Type 0
NoHeaderIs18 = (ppm : List ℕ) (item primaries card packed : ℕ) (k : Refusal) → given_known item primaries ≡ true → read_header ppm ≡ Err k → (import_answer ppm item primaries card packed ≡ Err WrongPicture) × (number_of WrongPicture ≡ 18)

-- and all else is imported exactly if the lengths are the header's, else refused by 13, and no code is above the largest, else by 18
abbrev pub LengthsThenCodes : Type 0
LengthsThenCodes =
    (ppm : List ℕ) (item primaries card packed width height top head : ℕ) → given_known item primaries ≡ true → read_header ppm ≡ Ok (record { width = width; height = height; top = top; length = head })
    → (import_answer ppm item primaries card packed
    ≡ cond (import_fits top (width * height) head (length ppm) card packed) (cond (codes_within (depth_of_top top) (codes_after top head ppm)) (Ok (width * height)) (Err WrongPicture)) (Err WrongLineOrOutput))
    × (number_of WrongPicture ≡ 18) × (number_of WrongLineOrOutput ≡ 13)

-- ---- the lengths told are those that are taken

abbrev pub ExportLengthTold : Type 0
ExportLengthTold = (card : List ℕ) (e packed output n : ℕ) → export_answer card e packed output ≡ Ok n → export_length card e ≡ Ok output

abbrev pub NoLengthNoExport : Type 0
NoLengthNoExport = (card : List ℕ) (e packed output : ℕ) (k : Refusal) → export_length card e ≡ Err k → export_answer card e packed output ≡ Err k

abbrev pub ImportLengthTold : Type 0
ImportLengthTold = (ppm : List ℕ) (item primaries card packed n : ℕ) → import_answer ppm item primaries card packed ≡ Ok n → import_length ppm ≡ Ok packed

abbrev pub NoLengthNoImport : Type 0
NoLengthNoImport = (ppm : List ℕ) (item primaries card packed : ℕ) (k : Refusal) → given_known item primaries ≡ true → import_length ppm ≡ Err k → import_answer ppm item primaries card packed ≡ Err k
