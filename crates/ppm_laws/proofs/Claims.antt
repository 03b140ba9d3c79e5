-- The claims of specs/Claims.antt. Assumes nothing.
use mathlib.Core.Path.{◌≡◌, refl, sym, ap, ap₂, ◌∙◌, subst}
use mathlib.Core.Bool.{Bool, true, false, not, cond, ◌&&◌, true≢false}
use mathlib.Core.Logic.{⊎_elim}
use mathlib.Core.List.{List}
use Prim.Native.Nat.{ℕ, ◌+◌, ◌*◌}
use native.Mathlib.Omega.{arith}
use borrow.Author.Tests.{leb-true, eqb-true, eq-eqb}
use lib.Dec.{eqb, leb, ltb}
use lib.ListN.{length}
use Rattle.lists.specs.Lists.{new_or_kept}
use Rattle.lists.proofs.Tests.{and_left, and_right}
use Rattle.lists.specs.Bytes.{are_bytes}
use Rattle.parameters.specs.Parameters.{primaries_known, top_of}
use Rattle.line.specs.Line.{codes_of, packed_of, bytes_for, codes_within}
use Rattle.card_table.specs.declared.facts.Facts.{Facts}
use Rattle.card_edition.specs.Edition.{edition_known, has_access}
use Rattle.card_table.specs.Facts.{least_edition, with_access}
use Rattle.card_edition.specs.Access.{closed, opened}
use Rattle.card_reader.specs.Reading.{read_card}
use Rattle.card_reader.proofs.Shown.{same_facts}
use Rattle.card_table.specs.Table.{card_size, card_bytes}
use Rattle.card_laws.specs.Claims.{shows}
use Rattle.card_laws.proofs.Claims.{shows_what_was_written, closed_or_as_it_stands}
use Rattle.full_rgb.specs.Full.{full_codes}
use Rattle.full_rgb_laws.proofs.Claims.{full_as_it_is}
use Rattle.ppm_header.specs.Header.{read_header}
use Rattle.ppm_header.proofs.Claims.{no_other, refused-by_18}
use Rattle.ppm_raster.specs.Raster.{code_bytes}
use Rattle.ppm_export.specs.Export.{points_of, header_of_facts, picture_of, picture_bytes, read_for_export, export_fits, export_shown, export_answer, export_output, length_shown, export_length, picture_shown}
use Rattle.ppm_export.specs.inner.Picture.{Known}
use Rattle.ppm_export.proofs.Pictures.{shown-known, fit_say}
use Rattle.ppm_export.proofs.Answers.{not_read, range_3, not_open_lem, is_open as is_read, was_read, points}
use Rattle.ppm_card.specs.Card.{depth_of_top, bytes_of_top, import_layout, import_facts, given_known, import_fits, length_read, import_length}
use Rattle.ppm_import.specs.Import.{import_edition, codes_after, import_answer, card_read, import_card, packed_read, import_packed}
use Rattle.ppm_import.proofs.Layouts.{writable}
use Rattle.ppm_import.proofs.Answers.{import_outside, import_read_lem, read_points, fits_says}
use Rattle.ppm_laws.specs.Claims.{OnlyOpen, NothingAtEdition1, ImportsTheCard, ImportsClosed, NoWayBackOut, ImportsWhatWasExported, ReturnsTheCodes, ExportKeeps, ImportKeeps, ReadingFirst, Range3Is9, NotOpenIs17, LengthsOr13, OutsideIs9, NoHeaderIs18, LengthsThenCodes, ExportLengthTold, NoLengthNoExport, ImportLengthTold, NoLengthNoImport}
use Rattle.ppm_laws.proofs.Exported.{Exported, exported, is_open_lem}
use Rattle.ppm_laws.proofs.Imported.{imported}
use Rattle.std.specs.Prelude.{Result, Ok, Err, is_ok}
use Rattle.refusal.specs.declared.Refusal.TheVariants.{LaterEdition, UnknownEdition, WrongLineOrOutput, WrongPicture}
use Rattle.refusal.specs.declared.Refusal.{Refusal}
use Rattle.ppm_header.specs.declared.Header.{Header}
use Rattle.ppm_laws.proofs.Returns.{header, file_long, codes_are, codes_fit, codes_return}

-- ---- only open cards are exported

pub only_open : OnlyOpen
only_open card e packed output n h =
    let x = exported card e packed output n h in
    record { facts = x.facts; shown = was_read card e x.facts x.read; is_open = is_open_lem card e x.facts x.read; count = x.count }

pub nothing_at_edition_1 : NothingAtEdition1
nothing_at_edition_1 card packed output n h =
    let o = only_open card 1 packed output n h in
    ⊎_elim
    (λ p. let z : ◌≡◌ {A = ℕ} 0 2 = sym p ∙ o.is_open in omega (arith, z))
    (λ p. true≢false (sym p.1))
    (closed_or_as_it_stands card 1 o.facts o.shown)

-- ---- a refusal leaves the output as it was

pub export_keeps : ExportKeeps
unfolding export_output
export_keeps card packed before e k h = ap (λ (a : Result ℕ Refusal). new_or_kept (is_ok a) (picture_shown (read_for_export card e) packed before) before) h

-- ---- the rows of an export

by_read : (card : List ℕ) (e packed output : ℕ) {k : Refusal} → Err k ≡ read_for_export card e → export_answer card e packed output ≡ Err k
unfolding export_answer
by_read card e packed output r = ap (λ (x : Result Facts Refusal). export_shown x packed output) (sym r)

pub reading-first : ReadingFirst
reading-first card e packed output k r = by_read card e packed output (not_read card e r)

-- a number that a test found to be another
differs : (a b : ℕ) → eqb a b ≡ false → a ≡ b → ⊥
differs a b e h = true≢false (sym (eq-eqb a b h) ∙ e)

pub range_3_is_9 : Range3Is9
range_3_is_9 card e packed output f r h = (by_read card e packed output (range_3 card e f r h), refl)

pub not_open_is_17 : NotOpenIs17
not_open_is_17 card e packed output f r o a = (by_read card e packed output (not_open_lem card e f r (differs f.layout.range 3 o) (differs f.access opened a)), refl)

-- ---- lengths

pub export_length_told : ExportLengthTold
unfolding export_length export_fits
export_length_told card e packed output n h =
    let x = exported card e packed output n h in
    ap length_shown x.read ∙ ap Ok (sym (eqb-true output (picture_bytes x.facts) (and_right (eqb packed (bytes_for x.facts.layout (points_of x.facts))) (eqb output (picture_bytes x.facts)) x.fits)))

pub no_length_no_export : NoLengthNoExport
unfolding export_length
no_length_no_export card e packed output k h = by_read card e packed output (of (read_for_export card e) h)
  where
    of : (r : Result Facts Refusal) → length_shown r ≡ Err k → Err k ≡ r
    of (Err j) h = let same : j ≡ k = cc in ap Err (sym same)
    of (Ok f) h = let z : ◌≡◌ {A = ℕ} 0 1 = cc in absurd (omega arith)

pub import_length_told : ImportLengthTold
unfolding import_length
import_length_told ppm item primaries card packed n h =
    let x = imported ppm item primaries card packed n h in
    let fit = fits_says x.top (x.width * x.height) x.head (length ppm) card packed x.fits in
    ap length_read x.read ∙ ap Ok (sym fit.2)

-- ---- an import makes a closed card

pub imports_the_card : ImportsTheCard
unfolding import_card
imports_the_card ppm card item primaries width height top head packed n small r h =
    let g = (imported ppm item primaries (length card) packed n h).given in
    let made : import_card ppm item primaries card packed ≡ card_bytes import_edition (import_facts primaries top width height item) =
    ap₂ (λ (a : Result ℕ Refusal) (new : List ℕ). new_or_kept (is_ok a) new card) h (ap (λ (z : Result Header Refusal). card_read z item primaries card) r) in
    let known = (no_other ppm width height top head r).0 in
    let ok = writable primaries top width height item (and_right (leb 1 item) (primaries_known primaries) g) known (leb-true 1 item (and_left (leb 1 item) (primaries_known primaries) g)) small in
    (made, λ e. ap (λ (b : List ℕ). read_card b e) made ∙ shows_what_was_written import_edition e (import_facts primaries top width height item) ok)

-- what a card of closed facts shows is closed
closed-shown : (f g : Facts) (e : ℕ) → f.access ≡ closed → shows f e ≡ Ok g → g.access ≡ closed
unfolding shows
closed-shown f g e c h = go (edition_known e) (ltb e (least_edition f)) (has_access e) h
  where
    go : (t u v : Bool) → cond (not t) (Err UnknownEdition) (cond u (Err LaterEdition) (Ok (with_access f (cond v f.access closed)))) ≡ Ok g → g.access ≡ closed
    go false u v h = let z : ◌≡◌ {A = ℕ} 0 1 = cc in absurd (omega arith)
    go true true v h = let z : ◌≡◌ {A = ℕ} 0 1 = cc in absurd (omega arith)
    go true false true h = ap (λ (x : Facts). x.access) (sym (same_facts (with_access f f.access) g h)) ∙ c
    go true false false h = ap (λ (x : Facts). x.access) (sym (same_facts (with_access f closed) g h))

pub imports_closed : ImportsClosed
unfolding import_facts
imports_closed ppm card item primaries packed n small h e f r =
    let x = imported ppm item primaries (length card) packed n h in
    let made = (imports_the_card ppm card item primaries x.width x.height x.top x.head packed n small x.read h).1 e in
    closed-shown (import_facts primaries x.top x.width x.height item) f e refl (sym made ∙ r)

pub no_way_back_out : NoWayBackOut
no_way_back_out ppm card item primaries packed n small h e points output m out =
    let o = only_open (import_card ppm item primaries card packed) e points output m out in
    let z : ◌≡◌ {A = ℕ} 0 2 = sym (imports_closed ppm card item primaries packed n small h e o.facts o.shown) ∙ o.is_open in
    omega (arith, z)

-- ---- what returns

module _ (card packed file packed' : List ℕ) (e n item primaries : ℕ) (f : Facts) (b : are_bytes packed ≡ true) (r : read_card card e ≡ Ok f)
    (h : export_answer card e (length packed) (length file) ≡ Ok n) (i : leb 1 item ≡ true) (p : primaries_known primaries ≡ true) (o : length packed' ≡ bytes_of_top (top_of f.layout.depth) * n) where
  x : Exported card e (length packed) (length file) n
  x = exported card e (length packed) (length file) n h

  same : x.facts ≡ f
  same = same_facts x.facts f (sym (was_read card e x.facts x.read) ∙ r)

  k : Known f
  k = shown-known card e f r

  fits : export_fits f (length packed) (length file) ≡ true
  fits = subst (λ (g : Facts). export_fits g (length packed) (length file) ≡ true) same x.fits

  count : n ≡ points_of f
  count = x.count ∙ ap points_of same

  packed-long : length packed ≡ bytes_for f.layout (points_of f)
  packed-long = (fit_say f k (length packed) (length file) fits).0

  file_is : export_output card e packed file ≡ picture_of f packed
  file_is = sym (points card e packed file f (subst (λ (g : Facts). read_for_export card e ≡ Ok g) same x.read) fits refl).1

  abbrev top : ℕ
  top = top_of f.layout.depth

  abbrev head : ℕ
  head = length (header_of_facts f)

  given : given_known item primaries ≡ true
  given = λ j. i j && p j

  import_fits_lem : import_fits top (f.width * f.height) head (length (picture_of f packed)) card_size (length packed') ≡ true
  import_fits_lem = λ j.
      eq-eqb (length (picture_of f packed)) (head + 3 * code_bytes (depth_of_top top) * points_of f) (file_long f packed k b packed-long) j
      && true
      && eq-eqb (length packed') (bytes_of_top top * points_of f) (o ∙ ap (λ (m : ℕ). bytes_of_top top * m) count) j

  taken : import_answer (picture_of f packed) item primaries card_size (length packed') ≡ Ok n
  taken =
      import_read_lem (picture_of f packed) item primaries card_size (length packed') (Ok (record { width = f.width; height = f.height; top = top; length = head })) given (header f packed k b packed-long)
      ∙ read_points (picture_of f packed) f.width f.height top head card_size (length packed') import_fits_lem (codes_fit f packed k b packed-long)
      ∙ ap Ok (sym count)

  made : import_packed (picture_of f packed) item primaries card_size packed' ≡ packed_of (import_layout primaries top) (full_codes f.layout (codes_of f.layout packed))
  unfolding import_packed
  made =
      ap₂ (λ (a : Result ℕ Refusal) (new : List ℕ). new_or_kept (is_ok a) new packed') taken (ap (λ (z : Result Header Refusal). packed_read z (picture_of f packed) primaries packed') (header f packed k b packed-long))
      ∙ ap (packed_of (import_layout primaries top)) (codes_are f packed k b packed-long)

  both : (read_header (export_output card e packed file) ≡ Ok (record { width = f.width; height = f.height; top = top; length = head }))
      × (import_answer (export_output card e packed file) item primaries card_size (length packed') ≡ Ok n)
      × (codes_of (import_layout primaries top) (import_packed (export_output card e packed file) item primaries card_size packed') ≡ full_codes f.layout (codes_of f.layout packed))
  both = (
    ap read_header file_is ∙ header f packed k b packed-long,
    ap (λ (ppm : List ℕ). import_answer ppm item primaries card_size (length packed')) file_is ∙ taken,
    ap (λ (ppm : List ℕ). codes_of (import_layout primaries top) (import_packed ppm item primaries card_size packed')) file_is
        ∙ ap (codes_of (import_layout primaries top)) made
        ∙ codes_return f packed k b packed-long primaries p,
  )

pub imports_what_was_exported : ImportsWhatWasExported
imports_what_was_exported card packed file packed' e n item primaries f b r h i p o = both card packed file packed' e n item primaries f b r h i p o

pub returns_the_codes : ReturnsTheCodes
returns_the_codes card packed file packed' e n item primaries f b r m range h i p o =
    (both card packed file packed' e n item primaries f b r h i p o).2 ∙ full_as_it_is f.layout (codes_of f.layout packed) m range

-- ---- the rows of an import

pub import_keeps : ImportKeeps
unfolding import_card import_packed
import_keeps ppm card packed item primaries k h = (
  ap (λ (a : Result ℕ Refusal). new_or_kept (is_ok a) (card_read (read_header ppm) item primaries card) card) h,
  ap (λ (a : Result ℕ Refusal). new_or_kept (is_ok a) (packed_read (read_header ppm) ppm primaries packed) packed) h,
)

pub outside_is_9 : OutsideIs9
outside_is_9 ppm item primaries card packed h = (import_outside ppm item primaries card packed h, refl)

pub no_header_is_18 : NoHeaderIs18
no_header_is_18 ppm item primaries card packed k g r = (import_read_lem ppm item primaries card packed (Err k) g r ∙ ap Err (refused-by_18 ppm k r), refl)

-- a test that leads to a refusal, the other way round
swapped : {A : Type 0} (t : Bool) (x y : A) → cond (not t) x y ≡ cond t y x
swapped true x y = refl
swapped false x y = refl

pub lengths_then_codes : LengthsThenCodes
lengths_then_codes ppm item primaries card packed width height top head g r =
    let within = codes_within (depth_of_top top) (codes_after top head ppm) in (
      import_read_lem ppm item primaries card packed (Ok (record { width = width; height = height; top = top; length = head })) g r
          ∙ swapped (import_fits top (width * height) head (length ppm) card packed) (Err WrongLineOrOutput) (cond (not within) (Err WrongPicture) (Ok (width * height)))
          ∙ ap (λ (a : Result ℕ Refusal). cond (import_fits top (width * height) head (length ppm) card packed) a (Err WrongLineOrOutput)) (swapped within (Err WrongPicture) (Ok (width * height))),
      refl,
      refl,
    )

pub lengths_or_13 : LengthsOr13
unfolding export_answer
lengths_or_13 card e packed output f r o a = (
  ap (λ (x : Result Facts Refusal). export_shown x packed output) (sym (is_read card e f r (differs f.layout.range 3 o) a))
      ∙ swapped (export_fits f packed output) (Err WrongLineOrOutput) (Ok (points_of f)),
  refl,
)

pub no_length_no_import : NoLengthNoImport
unfolding import_length
no_length_no_import ppm item primaries card packed k g h = of (read_header ppm) refl h
  where
    of : (r : Result Header Refusal) → read_header ppm ≡ r → length_read r ≡ Err k → import_answer ppm item primaries card packed ≡ Err k
    of (Err j) r h = let same : j ≡ k = cc in import_read_lem ppm item primaries card packed (Err j) g r ∙ ap Err same
    of (Ok x) r h = let z : ◌≡◌ {A = ℕ} 0 1 = cc in absurd (omega arith)
