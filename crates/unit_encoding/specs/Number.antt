-- What a value of a line is, where it is looked at. Assumes nothing.
use Rattle.std.specs.Prelude.{Float, ◌≡◌, false, T}
use Rattle.std.specs.Float.{binary32}
use Rattle.std.specs.Float.Ieee.{fits, is_nan}

-- one that an f32 has, and no NaN
abbrev pub IsNumber : Float → Type 0
IsNumber v = T (fits binary32 v) × (is_nan v ≡ false)
