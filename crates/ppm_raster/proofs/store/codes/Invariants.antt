-- `ppm_raster::store::codes` meets its contract: each turn fills in one code. Assumes nothing.
use Prim.Native.Nat.{◌*◌}
use Rattle.lists.proofs.Filled.{Filled}
use Rattle.ppm_raster.specs.Raster.{raster_byte}
use Rattle.ppm_raster.proofs.store.codes.Given as goal

abbrev pub invariant-loop-i : goal.invariant-loop-i
invariant-loop-i g l = Filled l.initial.out (raster_byte g.row.BYTES l.codes) (g.row.BYTES * l.i) l.out
