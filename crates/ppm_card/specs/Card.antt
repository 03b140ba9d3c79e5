-- Request A7: what is made of a picture file's header before any byte is stored. Assumes nothing.
use Rattle.std.specs.Prelude.{ℕ, ◌+◌, ◌*◌, Bool, cond, ◌&&◌, List, eqb, leb, Result, Ok, Err}
use Rattle.layout.specs.declared.Layout.{Layout}
use Rattle.parameters.specs.declared.range.Range.TheVariants.{Full}
use Rattle.parameters.specs.Parameters.{primaries_known, range_number}
use Rattle.layout.specs.Layout.{own_sampling}
use Rattle.card_table.specs.declared.facts.Facts.{Facts}
use Rattle.card_edition.specs.Access.{closed}
use Rattle.card_table.specs.Table.{card_size}
use Rattle.ppm_header.specs.Header.{read_header}
use Rattle.refusal.specs.declared.Refusal.{Refusal}
use Rattle.ppm_header.specs.declared.Header.{Header}
use Rattle.ppm_raster.specs.Raster.{code_bytes}

-- ---- the layout of the points, and the facts of the card

-- the depth of a largest code: 255, 1023 or 4095 (any other is taken for 12 bits)
abbrev pub depth_of_top : ℕ → ℕ
depth_of_top top = cond (eqb top 255) 8 (cond (eqb top 1023) 10 12)

-- and its bytes a point
abbrev pub bytes_of_top : ℕ → ℕ
bytes_of_top top = cond (eqb top 255) 3 (cond (eqb top 1023) 4 5)

-- full-range R'G'B', the three fields side by side from bit 0
unfoldable pub import_layout : ℕ → ℕ → Layout
import_layout primaries top =
    let n = depth_of_top top in
    record {
      model = 1;
      primaries = primaries;
      range = range_number Full;
      depth = n;
      bytes = bytes_of_top top;
      offset0 = 0;
      offset1 = n;
      offset2 = 2 * n;
      sampling = own_sampling;
    }

-- the card is closed
unfoldable pub import_facts : ℕ → ℕ → ℕ → ℕ → ℕ → Facts
unfolding import_layout
import_facts primaries top width height item = record { layout = import_layout primaries top; width = width; height = height; item = item; access = closed }

-- ---- what is asked of what is given, and of the lengths

-- the item and the primaries that are given
abbrev pub given_known : ℕ → ℕ → Bool
given_known item primaries = leb 1 item && primaries_known primaries

-- what follows the header is exactly the points' bytes, and both outputs are exactly as long as needed
abbrev pub import_fits : ℕ → ℕ → ℕ → ℕ → ℕ → ℕ → Bool
import_fits top points head ppm card packed = eqb ppm (head + 3 * code_bytes (depth_of_top top) * points) && eqb card card_size && eqb packed (bytes_of_top top * points)

-- ---- how many bytes of packed points there will be: the header alone is looked at

abbrev pub length_read : Result Header Refusal → Result ℕ Refusal
length_read (Err k) = Err k
length_read (Ok h) = Ok (bytes_of_top h.top * (h.width * h.height))

unfoldable pub import_length : List ℕ → Result ℕ Refusal
import_length ppm = length_read (read_header ppm)
