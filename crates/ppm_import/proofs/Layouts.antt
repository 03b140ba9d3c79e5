-- The layout and the facts that are made of a header: the card of these facts can be written. Assumes nothing.
use mathlib.Core.Path.{◌≡◌, refl, ap}
use mathlib.Core.Bool.{Bool, true, false, not, cond, ◌&&◌, ◌||◌}
use Prim.Native.Nat.{ℕ, ◌*◌, ◌%◌, ◌^◌, ◌≤◌, ◌<◌}
use native.Mathlib.Omega.{arith}
use borrow.Author.Tests.{le-leb, lt-ltb}
use lib.Dec.{eqb, ltb}
use Rattle.lists.proofs.Tests.{and3}
use Rattle.parameters.specs.Parameters.{primaries_known}
use Rattle.layout.specs.Layout.{valid_points, valid_layout}
use Rattle.layout.proofs.Facts.{points-valid}
use Rattle.card_table.specs.Facts.{least_edition, facts_valid}
use Rattle.card_writer.specs.Writing.{unwritable, valid_at}
use Rattle.ppm_header.specs.Header.{side_taken, top_known, header_known}
use Rattle.ppm_card.specs.Card.{import_layout, import_facts}
use Rattle.ppm_import.specs.Import.{import_edition}

-- ---- the layout is the paper's

valid-by : (primaries : ℕ) (a b : Bool) → primaries_known primaries ≡ true
    → valid_points (record {
      model = 1;
      primaries = primaries;
      range = 2;
      depth = cond a 8 (cond b 10 12);
      bytes = cond a 3 (cond b 4 5);
      offset0 = 0;
      offset1 = cond a 8 (cond b 10 12);
      offset2 = 2 * cond a 8 (cond b 10 12);
      sampling = 0;
    }) ≡ true
unfolding valid_points
valid-by primaries true b e = ap (λ (t : Bool). t && true && true && true && true && true && true && true && true && true && true) e
valid-by primaries false true e = ap (λ (t : Bool). t && true && true && true && true && true && true && true && true && true && true) e
valid-by primaries false false e = ap (λ (t : Bool). t && true && true && true && true && true && true && true && true && true && true) e

pub layout_points : (primaries top : ℕ) → primaries_known primaries ≡ true → valid_points (import_layout primaries top) ≡ true
unfolding import_layout
layout_points primaries top e = valid-by primaries (eqb top 255) (eqb top 1023) e

pub layout_valid : (primaries top : ℕ) → primaries_known primaries ≡ true → valid_layout (import_layout primaries top) ≡ true
layout_valid primaries top e = points-valid (import_layout primaries top) (layout_points primaries top e)

-- ---- and so are the facts

module _ (primaries top width height item : ℕ) (p : primaries_known primaries ≡ true) (k : header_known width height top ≡ true) (i : 1 ≤ item) (j : item < 2 ^ 64) where
  pub facts-valid : facts_valid (import_facts primaries top width height item) ≡ true
  unfolding facts_valid import_facts
  facts-valid =
      let s = and3 (side_taken width) (side_taken height) (top_known top) k in
      λ m. layout_valid primaries top p m && s.0 m && s.1 m && le-leb 1 item i m && lt-ltb item (2 ^ 64) j m && true

  -- 12 bits need edition 2, and nothing else a later one
  early-by : (a b : Bool) → ◌≡◌ {A = Bool} (ltb 2 (cond (eqb (cond a 8 (cond b 10 12)) 12) 2 1)) false
  early-by true b = refl
  early-by false true = refl
  early-by false false = refl

  pub writable : valid_at import_edition (import_facts primaries top width height item) ≡ true
  unfolding valid_at unwritable least_edition import_facts import_layout
  writable =
      let whole : width % 1 ≡ 0 = omega arith in
      λ m. true && facts-valid m && not (not (eqb (whole m) 0)) && not (early-by (eqb top 255) (eqb top 1023) m || false)
