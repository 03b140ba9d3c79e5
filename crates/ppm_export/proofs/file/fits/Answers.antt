-- `ppm_export::file::fits` meets its contract. Assumes nothing.
use mathlib.Core.Path.{ap₂}
use mathlib.Core.Bool.{◌&&◌}
use Prim.Native.Nat.{ℕ, ◌*◌}
use lib.Dec.{eqb}
use Rattle.ppm_export.specs.Export.{export_fits}
use Rattle.ppm_export.proofs.file.fits.Goals as goal

pub returns : goal.returns
unfolding export_fits
returns c = let a = c.args in
    ap₂ (λ (u b : ℕ). eqb a.packed (a.facts.layout.bytes * u) && eqb a.output b) c.units.ensures c.bytes.ensures.0
