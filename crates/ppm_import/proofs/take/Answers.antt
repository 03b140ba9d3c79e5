-- `ppm_import::take` meets its contract, row by row. Assumes nothing.
use Prim.Native.Nat.{ℕ, ◌+◌, ◌*◌}
use mathlib.Core.Path.{◌≡◌, sym, ap₂, ◌∙◌}
use mathlib.Core.Bool.{true}
use mathlib.Core.List.{List}
use lib.ListN.{length}
use Rattle.parameters.specs.Parameters.{bits_of, top_of}
use Rattle.line.specs.Line.{packed_of, codes_within}
use Rattle.card_table.specs.Table.{card_size}
use Rattle.ppm_raster.specs.Raster.{code_bytes}
use Rattle.ppm_codes.specs.Codes.{raster_codes}
use Rattle.ppm_card.specs.Card.{depth_of_top, bytes_of_top, import_fits}
use Rattle.ppm_card.proofs.Depths.{depth_back}
use Rattle.ppm_import.specs.Import.{codes_after}
use Rattle.ppm_import.proofs.Headers.{card-written, rest}
use Rattle.ppm_import.proofs.Answers.{read_points, fits_says, counts}
use Rattle.ppm_import.proofs.take.Goals as goal

pub returns : goal.returns
returns c =
    let fit : let a = c.args in import_fits (top_of (bits_of a.depth)) (a.facts.width * a.facts.height) a.head (length a.ppm.now) (length a.card.now) (length a.packed.now) ≡ true = sym c.lengths_fit.ensures ∙ c.if-not-lengths_fit.false in
    let lengths : let a = c.args in
    let n = a.facts.width * a.facts.height in
    (length a.ppm.now ≡ a.head + 3 * code_bytes (depth_of_top (top_of (bits_of a.depth))) * n) × (length a.card.now ≡ card_size) × (length a.packed.now ≡ bytes_of_top (top_of (bits_of a.depth)) * n) = let a = c.args in fits_says (top_of (bits_of a.depth)) (a.facts.width * a.facts.height) a.head (length a.ppm.now) (length a.card.now) (length a.packed.now) fit in
    let seen : let a = c.args in c.within.result ≡ codes_within (depth_of_top (top_of (bits_of a.depth))) (codes_after (top_of (bits_of a.depth)) a.head a.ppm.now) = let a = c.args in c.within.ensures.answer ∙ ap₂ (λ (n : ℕ) (x : List ℕ). codes_within n (raster_codes n x)) (sym (depth_back a.depth)) (rest a.ppm.now a.head) in
    let a = c.args in
    let done =
    counts _ _ (read_points a.ppm.now a.facts.width a.facts.height (top_of (bits_of a.depth)) a.head (length a.card.now) (length a.packed.now) fit (sym seen ∙ c.if-not-within.false))
    (c.write.ensures.memory ∙ card-written a.facts a.card.now c.requires.writable lengths.1)
    (c.points.ensures ∙ ap₂ (λ (n : ℕ) (x : List ℕ). packed_of a.facts.layout (raster_codes n x)) (sym (depth_back a.depth)) (rest a.ppm.now a.head)) in
    record { answer = done.0; card = done.1.0; packed = done.1.1 }
