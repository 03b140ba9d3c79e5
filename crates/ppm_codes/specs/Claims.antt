-- Claims about rasters: codes come back. proofs/Claims.antt proves each. Assumes nothing.
use Rattle.std.specs.Prelude.{ℕ, true, ◌≡◌, List}
use Rattle.parameters.specs.Parameters.{depth_known}
use Rattle.line.specs.Line.{codes_within}
use Rattle.ppm_raster.specs.Raster.{raster_of}
use Rattle.ppm_codes.specs.Codes.{raster_codes}

-- codes of a depth that were stored are taken back
abbrev pub CodesBack : Type 0
CodesBack = (n : ℕ) (cs : List ℕ) → depth_known n ≡ true → codes_within n cs ≡ true → raster_codes n (raster_of n cs) ≡ cs
