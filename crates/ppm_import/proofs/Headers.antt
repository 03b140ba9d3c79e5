-- What the private functions ask holds of what is made of an accepted header. Assumes nothing.
use mathlib.Core.Path.{◌≡◌, refl, sym, ap, ◌∙◌, subst}
use mathlib.Core.Bool.{true, not}
use mathlib.Core.List.{List}
use Prim.Native.Nat.{ℕ, ◌+◌, ◌-◌, ◌*◌, ◌^◌, ◌<◌}
use native.Mathlib.Omega.{arith}
use borrow.Author.Tests.{leb-true, eq-eqb, not-true}
use lib.Dec.{leb}
use lib.ListN.{length, take, drop, length-drop}
use lib.Seq.{take_all}
use Rattle.lists.proofs.Tests.{and_left, and_right, and3}
use Rattle.parameters.specs.declared.depth.Depth.{Depth}
use Rattle.parameters.specs.Parameters.{bits_of, top_of, primaries_known}
use Rattle.line.specs.Line.{codes_within}
use Rattle.card_table.specs.declared.facts.Facts.{Facts}
use Rattle.card_table.specs.Facts.{facts_valid, odd_width}
use Rattle.card_table.specs.Table.{card_size, card_bytes}
use Rattle.card_writer.specs.Writing.{unwritable, valid_at, write_output}
use Rattle.card_writer.proofs.Answers.{done, changed}
use Rattle.ppm_header.specs.Header.{header_known}
use Rattle.ppm_raster.specs.Raster.{code_bytes}
use Rattle.ppm_codes.specs.Codes.{raster_codes}
use Rattle.ppm_card.specs.Card.{depth_of_top, bytes_of_top, import_layout, import_facts, given_known}
use Rattle.ppm_card.proofs.Depths.{depth_back}
use Rattle.ppm_card.proofs.Headers.{few-points}
use Rattle.ppm_import.specs.Import.{import_edition}
use Rattle.ppm_import.specs.inner.Picture.{Headed, Ready}
use Rattle.ppm_import.proofs.Layouts.{layout_points, writable}

-- the facts may be written
module _ (primaries width height item : ℕ) (d : Depth) (g : given_known item primaries ≡ true) (small : item < 2 ^ 64) (k : header_known width height (top_of (bits_of d)) ≡ true) where
  made : Headed (import_facts primaries (top_of (bits_of d)) width height item) d
  unfolding import_facts import_layout
  made =
      let top = top_of (bits_of d) in
      let p = and_right (leb 1 item) (primaries_known primaries) g in
      let i = leb-true 1 item (and_left (leb 1 item) (primaries_known primaries) g) in
      record {
        writable = writable primaries top width height item p k i small;
        points = layout_points primaries top p;
        depth = depth_back d;
        bytes = refl;
        few = few-points width height top k;
      }

  pub headed : (f : Facts) → f ≡ import_facts primaries (top_of (bits_of d)) width height item → Headed f d
  headed f e = subst (λ (x : Facts). Headed x d) (sym e) made

-- and this is what writing them leaves
pub card-written : (f : Facts) (before : List ℕ) → valid_at import_edition f ≡ true → length before ≡ card_size → write_output import_edition f before ≡ card_bytes import_edition f
unfolding valid_at
card-written f before v e =
    let h = and3 (facts_valid f) (not (odd_width f)) (not (unwritable 2 f)) v in
    sym (changed 2 f before (card_bytes 2 f) (done 2 f before refl h.0 (not-true (odd_width f) h.1) (not-true (unwritable 2 f) h.2) (eq-eqb (length before) 32 e)) refl)

-- ---- what follows the header

-- a slice is lent to its end
pub rest : (s : List ℕ) (head : ℕ) → take (length s - head) (drop head s) ≡ drop head s
rest s head = take_all (length s - head) (drop head s) (omega (arith, length-drop head s))

-- it is ready to be packed
pub ready : (f : Facts) (d : Depth) (head : ℕ) (ppm packed : List ℕ) → Headed f d
    → length ppm ≡ head + 3 * code_bytes (depth_of_top (top_of (bits_of d))) * (f.width * f.height) → length packed ≡ bytes_of_top (top_of (bits_of d)) * (f.width * f.height)
    → codes_within (bits_of d) (raster_codes (bits_of d) (take (length ppm - head) (drop head ppm))) ≡ true
    → Ready f.layout d (take (length ppm - head) (drop head ppm)) packed (f.width * f.height)
ready f d head ppm packed h ppm-long packed-long within =
    let n = f.width * f.height in
    let long : length (drop head ppm) ≡ 3 * code_bytes (depth_of_top (top_of (bits_of d))) * n = omega (arith, length-drop head ppm, ppm-long) in
    record {
      valid = h.points;
      depth = h.depth;
      few = h.few;
      raster_long = ap length (rest ppm head) ∙ long ∙ ap (λ (m : ℕ). 3 * code_bytes m * n) (depth_back d);
      packed-long = packed-long ∙ ap (λ (m : ℕ). m * n) (sym h.bytes);
      within = within;
    }
