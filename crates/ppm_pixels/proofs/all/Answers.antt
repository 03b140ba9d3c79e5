-- `ppm_pixels::all` meets its contract, row by row. Assumes nothing.
use Prim.Native.Nat.{◌<◌}
use native.Mathlib.Omega.{arith}
use Rattle.layout.proofs.Facts.{valid_says}
use Rattle.ppm_pixels.proofs.all.Goals as goal

pub nonzero_div-n : goal.nonzero_div-n
nonzero_div-n c =
    let size-some : 0 < c.args.layout.bytes = let b = (valid_says c.args.layout c.requires.0).bytes_least in
    omega (arith, b) in
    size-some

pub nonzero_rem-packed : goal.nonzero_rem-packed
nonzero_rem-packed c =
    let size-some : 0 < c.args.layout.bytes = let b = (valid_says c.args.layout c.requires.0).bytes_least in
    omega (arith, b) in
    size-some
