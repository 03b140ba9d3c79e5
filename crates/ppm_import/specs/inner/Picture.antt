-- What the private functions ask and answer. A reader need not believe it: `import` asks nothing. Assumes nothing.
use Rattle.std.specs.Prelude.{ℕ, ◌*◌, ◌≤◌, ◌≡◌, true, List, length, Result, Ok}
use Rattle.layout.specs.declared.Layout.{Layout}
use Rattle.parameters.specs.declared.depth.Depth.{Depth}
use Rattle.parameters.specs.Parameters.{bits_of, top_of}
use Rattle.layout.specs.Layout.{valid_points}
use Rattle.line.specs.Line.{codes_within}
use Rattle.card_table.specs.declared.facts.Facts.{Facts}
use Rattle.card_writer.specs.Writing.{valid_at}
use Rattle.ppm_header.specs.Header.{most_picture_points}
use Rattle.ppm_raster.specs.Raster.{code_bytes}
use Rattle.ppm_codes.specs.Codes.{raster_codes}
use Rattle.ppm_card.specs.Card.{bytes_of_top}
use Rattle.refusal.specs.declared.Refusal.{Refusal}
use Rattle.ppm_import.specs.Import.{import_edition, import_read}

-- facts that are made of a header, and their depth
pub record Headed (f : Facts) (d : Depth) : Type 0 where
  pub writable : valid_at import_edition f ≡ true
  pub points : valid_points f.layout ≡ true
  pub depth : f.layout.depth ≡ bits_of d
  pub bytes : f.layout.bytes ≡ bytes_of_top (top_of (bits_of d))
  pub few : f.width * f.height ≤ most_picture_points

-- the answer by that header
abbrev pub answer_of : Facts → Depth → ℕ → List ℕ → List ℕ → List ℕ → Result ℕ Refusal
answer_of f d head ppm card packed = import_read (Ok (record { width = f.width; height = f.height; top = (top_of (bits_of d)); length = head })) ppm (length card) (length packed)

-- a raster of n points, none of its codes too high, and an output for them
pub record Ready (l : Layout) (d : Depth) (raster packed : List ℕ) (n : ℕ) : Type 0 where
  pub valid : valid_points l ≡ true
  pub depth : l.depth ≡ bits_of d
  pub few : n ≤ most_picture_points
  pub raster_long : length raster ≡ 3 * code_bytes (bits_of d) * n
  pub packed-long : length packed ≡ l.bytes * n
  pub within : codes_within (bits_of d) (raster_codes (bits_of d) raster) ≡ true
