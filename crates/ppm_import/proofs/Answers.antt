-- The answers of an import, row by row, and what the outputs then hold. Assumes nothing.
use mathlib.Core.Path.{◌≡◌, refl, sym, ap, ap₂, ◌∙◌, subst}
use mathlib.Core.Bool.{Bool, true, false, not}
use mathlib.Core.List.{List}
use Prim.Native.Nat.{ℕ, ◌+◌, ◌*◌}
use borrow.Author.Tests.{eqb-true}
use lib.Dec.{eqb}
use lib.ListN.{length}
use Rattle.lists.specs.Lists.{new_or_kept}
use Rattle.lists.proofs.Tests.{pass, stop, and3}
use Rattle.parameters.specs.declared.depth.Depth.{Depth}
use Rattle.parameters.specs.Parameters.{bits_of, top_of}
use Rattle.line.specs.Line.{packed_of, codes_within}
use Rattle.card_table.specs.declared.facts.Facts.{Facts}
use Rattle.card_table.specs.Table.{card_size, card_bytes}
use Rattle.ppm_header.specs.Header.{read_header}
use Rattle.ppm_raster.specs.Raster.{code_bytes}
use Rattle.ppm_card.specs.Card.{depth_of_top, bytes_of_top, import_layout, import_facts, given_known, import_fits}
use Rattle.ppm_import.specs.Import.{import_edition, codes_after, import_read, import_answer, card_read, import_card, packed_read, import_packed}
use Rattle.std.specs.Prelude.{Result, Ok, Err, is_ok}
use Rattle.refusal.specs.declared.Refusal.{Refusal}
use Rattle.ppm_header.specs.declared.Header.{Header}
use Rattle.refusal.specs.declared.Refusal.TheVariants.{Outside, WrongLineOrOutput, WrongPicture}
use Rattle.ppm_import.specs.inner.Picture.{answer_of}

-- ---- the rows of a file whose header is read

module _ (ppm : List ℕ) (width height top head card packed : ℕ) where
  abbrev row : Result ℕ Refusal
  row = import_read (Ok (record { width = width; height = height; top = top; length = head })) ppm card packed

  abbrev fits : Bool
  fits = import_fits top (width * height) head (length ppm) card packed

  abbrev within : Bool
  within = codes_within (depth_of_top top) (codes_after top head ppm)

  pub read_unfit : fits ≡ false → row ≡ Err WrongLineOrOutput
  read_unfit f = stop _ (ap not f)

  pub read_high : fits ≡ true → within ≡ false → row ≡ Err WrongPicture
  read_high f w = pass _ (ap not f) (stop _ (ap not w))

  pub read_points : fits ≡ true → within ≡ true → row ≡ Ok (width * height)
  read_points f w = pass _ (ap not f) (pass _ (ap not w) refl)

-- the lengths of a file and outputs that fit
pub fits_says : (top points head ppm card packed : ℕ) → import_fits top points head ppm card packed ≡ true
    → (ppm ≡ head + 3 * code_bytes (depth_of_top top) * points) × (card ≡ card_size) × (packed ≡ bytes_of_top top * points)
fits_says top points head ppm card packed e =
    let a = head + 3 * code_bytes (depth_of_top top) * points in
    let b = bytes_of_top top * points in
    let h = and3 (eqb ppm a) (eqb card card_size) (eqb packed b) e in
    (eqb-true ppm a h.0, eqb-true card card_size h.1, eqb-true packed b h.2)

-- both outputs of a file whose header is read
pub refuses : {a : Result ℕ Refusal} {k : Refusal} (x x' y y' : List ℕ) → a ≡ Err k → (Err k ≡ a) × ((x ≡ new_or_kept (is_ok a) x' x) × (y ≡ new_or_kept (is_ok a) y' y))
refuses x x' y y' e = (sym e, (ap (λ (b : Result ℕ Refusal). new_or_kept (is_ok b) x' x) (sym e), ap (λ (b : Result ℕ Refusal). new_or_kept (is_ok b) y' y) (sym e)))

pub counts : {a : Result ℕ Refusal} {n : ℕ} (x y : List ℕ) {x' y' xs ys : List ℕ} → a ≡ Ok n → xs ≡ x' → ys ≡ y'
    → (Ok n ≡ a) × ((xs ≡ new_or_kept (is_ok a) x' x) × (ys ≡ new_or_kept (is_ok a) y' y))
counts x y {x'} {y'} e f g = (sym e, (f ∙ ap (λ (b : Result ℕ Refusal). new_or_kept (is_ok b) x' x) (sym e), g ∙ ap (λ (b : Result ℕ Refusal). new_or_kept (is_ok b) y' y) (sym e)))

-- ---- the answer, and both outputs

module _ (ppm : List ℕ) (item primaries : ℕ) where
  module _ (card packed : ℕ) where
    pub import_outside : given_known item primaries ≡ false → import_answer ppm item primaries card packed ≡ Err Outside
    unfolding import_answer
    import_outside g = stop _ (ap not g)

    pub import_read_lem : (h : Result Header Refusal) → given_known item primaries ≡ true → read_header ppm ≡ h → import_answer ppm item primaries card packed ≡ import_read h ppm card packed
    unfolding import_answer
    import_read_lem h g e = pass _ (ap not g) (ap (λ (x : Result Header Refusal). import_read x ppm card packed) e)

  module _ (card packed : List ℕ) where
    abbrev answer : Result ℕ Refusal
    answer = import_answer ppm item primaries (length card) (length packed)

    -- an answer, and what the outputs hold with it
    abbrev Done : Result ℕ Refusal → List ℕ → List ℕ → Type 0
    Done a xs ys = (a ≡ answer) × ((xs ≡ import_card ppm item primaries card (length packed)) × (ys ≡ import_packed ppm item primaries (length card) packed))

    -- a refusal leaves both as they were
    pub import_refuses : (k : Refusal) → answer ≡ Err k → Done (Err k) card packed
    unfolding import_card import_packed
    import_refuses k e = (
      sym e,
      (
        ap (λ (a : Result ℕ Refusal). new_or_kept (is_ok a) (card_read (read_header ppm) item primaries card) card) (sym e),
        ap (λ (a : Result ℕ Refusal). new_or_kept (is_ok a) (packed_read (read_header ppm) ppm primaries packed) packed) (sym e),
      ),
    )

    -- by the header that is read
    module _ (width height top head : ℕ) (g : given_known item primaries ≡ true) (h : read_header ppm ≡ Ok (record { width = width; height = height; top = top; length = head })) where
      abbrev read : Result ℕ Refusal
      read = import_read (Ok (record { width = width; height = height; top = top; length = head })) ppm (length card) (length packed)

      stores : (a : Result ℕ Refusal) (xs ys : List ℕ)
          → a ≡ read
          → xs ≡ new_or_kept (is_ok read) (card_bytes import_edition (import_facts primaries top width height item)) card
          → ys ≡ new_or_kept (is_ok read) (packed_of (import_layout primaries top) (codes_after top head ppm)) packed
          → Done a xs ys
      unfolding import_card import_packed
      stores a xs ys r x y =
          let t = import_read_lem (length card) (length packed) (Ok (record { width = width; height = height; top = top; length = head })) g h in (
            r ∙ sym t,
            (
              x ∙ sym (ap₂ (λ (b : Result ℕ Refusal) (new : List ℕ). new_or_kept (is_ok b) new card) t (ap (λ (z : Result Header Refusal). card_read z item primaries card) h)),
              y ∙ sym (ap₂ (λ (b : Result ℕ Refusal) (new : List ℕ). new_or_kept (is_ok b) new packed) t (ap (λ (z : Result Header Refusal). packed_read z ppm primaries packed) h)),
            ),
          )

    -- by the facts that are made of it
    module _ (width height head : ℕ) (d : Depth) (g : given_known item primaries ≡ true) (h : read_header ppm ≡ Ok (record { width = width; height = height; top = (top_of (bits_of d)); length = head })) where
      abbrev Stores : Facts → Type 0
      Stores f = (a : Result ℕ Refusal) (xs ys : List ℕ)
          → a ≡ answer_of f d head ppm card packed
          → xs ≡ new_or_kept (is_ok (answer_of f d head ppm card packed)) (card_bytes import_edition f) card
          → ys ≡ new_or_kept (is_ok (answer_of f d head ppm card packed)) (packed_of f.layout (codes_after (top_of (bits_of d)) head ppm)) packed
          → Done a xs ys

      stores_made : Stores (import_facts primaries (top_of (bits_of d)) width height item)
      unfolding import_facts
      stores_made = stores width height (top_of (bits_of d)) head g h

      pub import_stores : (f : Facts) → f ≡ import_facts primaries (top_of (bits_of d)) width height item → Stores f
      import_stores f e = subst Stores (sym e) stores_made
