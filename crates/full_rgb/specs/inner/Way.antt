-- The code's own arithmetic. A reader need not believe it: crates/full_rgb_laws shows that the way of a layout makes `full_codes`. Assumes nothing.
use Rattle.std.specs.Prelude.{ℕ, ◌+◌, ◌-◌, ◌*◌, ◌/◌, min, cond, List, eqb, length}
use Rattle.lists.specs.Lists.{new_or_kept}
use Rattle.layout.specs.declared.Layout.{Layout}
use Rattle.parameters.specs.declared.depth.Depth.{Depth}
use Rattle.parameters.specs.declared.depth.Depth.TheVariants.{Eight, Ten, Twelve}
use Rattle.parameters.specs.Parameters.{bits_of, top_of}
use Rattle.color_equations.specs.Conversion.{pick}
use Rattle.color_equations.specs.Line.{Converter, convertible, converted_of}
use Rattle.color_line.specs.inner.Rows.{rows_code, alike}
use Rattle.color_rows.specs.inner.Known.{rgb_conversion}
use Rattle.full_rgb.specs.declared.stretch.Stretch.{Stretch}
use Rattle.full_rgb.specs.declared.Way.{Way}
use Rattle.full_rgb.specs.declared.Way.TheVariants.{Each, Rows}
use Rattle.full_rgb.specs.Full.{as_it_is}

-- ---- R'G'B', code by code

abbrev pub narrow_stretch : Depth → Stretch
narrow_stretch Eight = record { times = 192; plus = 1016; less = 19; top = 255 }
narrow_stretch Ten = record { times = 196; plus = 888; less = 75; top = 1023 }
narrow_stretch Twelve = record { times = 197; plus = 376; less = 299; top = 4095 }

abbrev pub no_stretch : Depth → Stretch
no_stretch d = record { times = 0; plus = 0; less = 0; top = top_of (bits_of d) }

abbrev pub stretched_by : Stretch → ℕ → ℕ
stretched_by s c = min (c + (s.times * c + s.plus) / 1168 - s.less) s.top

unfoldable pub each_code : Stretch → Converter
each_code s x y z j = as_it_is (stretched_by s (pick j x y z))

-- ---- the way of a layout

abbrev pub rgb_way : ℕ → Depth → Way
rgb_way range d = cond (eqb range 1) (Each (narrow_stretch d)) (Each (no_stretch d))

abbrev pub ycbcr_way : Layout → Depth → Way
ycbcr_way l d = cond (convertible l.primaries l.depth l.range 2) (Rows (rgb_conversion l.primaries l.depth l.range 2).rows) (rgb_way l.range d)

abbrev pub way_of : Layout → Depth → Way
way_of l d = cond (eqb l.model 2) (ycbcr_way l d) (rgb_way l.range d)

-- ---- a line made full range

-- a second line afterwards, as before where the two are not alike
abbrev pub made_by : Converter → List ℕ → List ℕ → List ℕ
made_by f cs before = new_or_kept (alike (length cs) (length before)) (converted_of f cs) before

abbrev pub each_by : Stretch → List ℕ → List ℕ → List ℕ
each_by s cs before = made_by (each_code s) cs before

abbrev pub way_code : Way → Converter
way_code (Each s) = each_code s
way_code (Rows rows) = rows_code rows

abbrev pub full_by : Way → List ℕ → List ℕ → List ℕ
full_by way cs before = made_by (way_code way) cs before
