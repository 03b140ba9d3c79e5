-- What the private functions ask. A reader need not believe it: `put` asks nothing. Assumes nothing.
use Rattle.std.specs.Prelude.{ℕ, ◌*◌, ◌≡◌, true}
use Rattle.layout.specs.declared.Layout.{Layout}
use Rattle.parameters.specs.declared.depth.Depth.{Depth}
use Rattle.parameters.specs.Parameters.{depth_of}
use Rattle.layout.specs.Layout.{points_each, valid_layout}
use Rattle.full_rgb.specs.declared.Way.{Way}
use Rattle.full_rgb.specs.inner.Way.{way_of}
use Rattle.ppm_raster.specs.Raster.{code_bytes}

-- the codes of a point of its own, or of a group, and its bytes in the file
abbrev pub unit_codes : Layout → ℕ
unit_codes l = 3 * points_each l

abbrev pub unit_bytes : Layout → ℕ
unit_bytes l = code_bytes l.depth * unit_codes l

-- a layout with all that is worked out once for its points
pub record Ready (l : Layout) (d : Depth) (way : Way) : Type 0 where
  pub valid : valid_layout l ≡ true
  pub depth : d ≡ depth_of l.depth
  pub so : way ≡ way_of l d
