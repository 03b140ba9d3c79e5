-- The way of a picture out and in: what an import makes of a file that was exported. Assumes nothing.
use mathlib.Core.Path.{◌≡◌, refl, sym, ap, ap₂, ◌∙◌, subst}
use mathlib.Core.Bool.{true, ◌&&◌}
use mathlib.Core.List.{List}
use Prim.Native.Nat.{ℕ, ◌+◌, ◌*◌, ◌%◌}
use native.Mathlib.Nat.{mul-mod_right}
use borrow.Author.Tests.{eq-eqb}
use lib.ListN.{length, length-append}
use lib.Seq.{drop-append_seam}
use Rattle.lists.specs.Bytes.{are_bytes}
use Rattle.lists.proofs.Lists.{length-tabulate}
use Rattle.layout.specs.declared.Layout.{Layout}
use Rattle.parameters.specs.declared.depth.Depth.{Depth}
use Rattle.parameters.specs.declared.depth.Depth.TheVariants.{Eight, Ten, Twelve}
use Rattle.parameters.specs.Parameters.{primaries_known, depth_known, depth_of, bits_of, top_of}
use Rattle.layout.specs.Layout.{points_each, valid_layout}
use Rattle.parameters.proofs.Depths.{known-bits}
use Rattle.layout.proofs.Facts.{valid_says, not_grouped}
use Rattle.line.specs.Line.{codes_of, packed_of, bytes_for, codes_within, PackedLine, CodeLine}
use Rattle.line.proofs.Own.{own_whole, own_shared}
use Rattle.scanline_laws.proofs.Claims.{length-codes, codes-within, unpacks_what_was_packed}
use Rattle.color_equations.specs.Line.{converted_at, converted_of}
use Rattle.full_rgb.specs.Full.{full_of, full_codes}
use Rattle.full_rgb_laws.proofs.Claims.{stays_within}
use Rattle.card_table.specs.declared.facts.Facts.{Facts}
use Rattle.ppm_header.specs.Header.{top_known, header_known, read_header}
use Rattle.ppm_header.proofs.Claims.{read_back}
use Rattle.ppm_raster.specs.Raster.{code_bytes}
use Rattle.ppm_codes.specs.Codes.{raster_codes}
use Rattle.ppm_codes.proofs.Claims.{codes_back}
use Rattle.ppm_pixels.specs.Pixels.{pixels_of}
use Rattle.ppm_pixels.proofs.Pixels.{pixels_parts}
use Rattle.ppm_pixels.proofs.Outputs.{points-bytes}
use Rattle.ppm_export.specs.Export.{points_of, header_of_facts, picture_of}
use Rattle.ppm_export.specs.inner.Picture.{Known, units_of}
use Rattle.ppm_export.proofs.Pictures.{says, whole_units}
use Rattle.ppm_card.specs.Card.{depth_of_top, import_layout}
use Rattle.ppm_card.proofs.Depths.{depth_back}
use Rattle.ppm_import.specs.Import.{codes_after}
use Rattle.std.specs.Prelude.{Ok}
use Rattle.ppm_import.proofs.Layouts.{layout_points, layout_valid}

-- the largest code of a depth is one of a header's
top_known_lem : (d : Depth) → top_known (top_of (bits_of d)) ≡ true
top_known_lem Eight = refl
top_known_lem Ten = refl
top_known_lem Twelve = refl

-- ---- the file

module _ (f : Facts) (packed : List ℕ) (k : Known f) (b : are_bytes packed ≡ true) (e : length packed ≡ bytes_for f.layout (points_of f)) where
  abbrev l : Layout
  l = f.layout

  abbrev top : ℕ
  top = top_of l.depth

  abbrev head : ℕ
  head = length (header_of_facts f)

  abbrev codes : List ℕ
  codes = full_codes l (codes_of l packed)

  valid : valid_layout l ≡ true
  valid = (says f k.facts).valid

  depth : depth_known l.depth ≡ true
  depth = (valid_says l valid).depth

  bits : bits_of (depth_of l.depth) ≡ l.depth
  bits = known-bits l.depth depth

  pub depth_is : depth_of_top top ≡ l.depth
  depth_is = subst (λ (n : ℕ). depth_of_top (top_of n) ≡ n) bits (depth_back (depth_of l.depth))

  line : PackedLine l (points_of f) packed
  line = record {
    valid = valid;
    whole = eq-eqb (points_of f % points_each l) 0 (ap (λ (n : ℕ). n % points_each l) (whole_units f k) ∙ mul-mod_right (points_each l) (units_of f));
    bytes = b;
    points = e;
  }

  within : codes_within l.depth codes ≡ true
  within = stays_within l (codes_of l packed) valid (codes-within l (points_of f) packed line)

  codes-long : length codes ≡ 3 * points_of f
  unfolding converted_of
  codes-long = length-tabulate (length (codes_of l packed)) (λ i. (converted_at (full_of l) (codes_of l packed) i).code) ∙ length-codes l (points_of f) packed line

  -- its header is read
  pub header : read_header (picture_of f packed) ≡ Ok (record { width = f.width; height = f.height; top = top; length = head })
  unfolding picture_of header_of_facts
  header =
      let s = says f k.facts in
      let known : header_known f.width f.height top ≡ true = λ i. s.wide i && s.high i && subst (λ (n : ℕ). top_known (top_of n) ≡ true) bits (top_known_lem (depth_of l.depth)) i in
      read_back f.width f.height top (pixels_of l packed) known

  -- it is exactly as long as its points need
  pub file_long : length (picture_of f packed) ≡ head + 3 * code_bytes (depth_of_top top) * points_of f
  unfolding picture_of
  file_long =
      length-append (header_of_facts f) (pixels_of l packed)
      ∙ ap (λ (n : ℕ). head + n) ((pixels_parts l valid).long packed (units_of f) e ∙ points-bytes l (units_of f) ∙ ap₂ (λ (n p : ℕ). 3 * code_bytes n * p) (sym depth_is) (sym (whole_units f k)))

  -- and its codes are those that were exported
  pub codes_are : codes_after top head (picture_of f packed) ≡ codes
  unfolding picture_of pixels_of
  codes_are = ap₂ raster_codes depth_is (drop-append_seam (header_of_facts f) (pixels_of l packed)) ∙ codes_back l.depth codes depth within

  pub codes_fit : codes_within (depth_of_top top) (codes_after top head (picture_of f packed)) ≡ true
  codes_fit = ap₂ codes_within depth_is codes_are ∙ within

  -- packed by an import, they come back
  pub codes_return : (p : ℕ) → primaries_known p ≡ true → codes_of (import_layout p top) (packed_of (import_layout p top) codes) ≡ codes
  unfolding import_layout
  codes_return p h =
      let l' = import_layout p top in
      let own = not_grouped l' (layout_points p top h) in
      let c : CodeLine l' (points_of f) codes = record {
        valid = layout_valid p top h;
        whole = own_whole l' own (points_of f);
        codes = ap₂ codes_within depth_is (own_shared l' own 0 codes) ∙ within;
        points = codes-long;
      } in
      unpacks_what_was_packed l' (points_of f) codes c ∙ own_shared l' own 0 codes
