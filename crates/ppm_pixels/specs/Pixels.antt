-- Request A7: packed points as the bytes of a picture file. Assumes nothing.
use Rattle.std.specs.Prelude.{ℕ, ◌*◌, ◌%◌, Bool, ◌&&◌, List, eqb, length}
use Rattle.lists.specs.Lists.{new_or_kept}
use Rattle.layout.specs.declared.Layout.{Layout}
use Rattle.layout.specs.Layout.{valid_layout}
use Rattle.line.specs.Line.{points_in, codes_of}
use Rattle.full_rgb.specs.Full.{full_codes}
use Rattle.ppm_raster.specs.Raster.{code_bytes, raster_of}

-- packed points as full-range R'G'B', in the file's bytes
unfoldable pub pixels_of : Layout → List ℕ → List ℕ
pixels_of l packed = raster_of l.depth (full_codes l (codes_of l packed))

-- the paper has the layout, so many packed bytes are of whole points or groups, and the output has exactly three codes a point
abbrev pub pixels_fit : Layout → ℕ → ℕ → Bool
pixels_fit l packed output = valid_layout l && eqb (packed % l.bytes) 0 && eqb output (3 * code_bytes l.depth * points_in l packed)

-- the output afterwards: as before where that is not so
abbrev pub pixels_output : Layout → List ℕ → List ℕ → List ℕ
pixels_output l packed before = new_or_kept (pixels_fit l (length packed) (length before)) (pixels_of l packed) before
