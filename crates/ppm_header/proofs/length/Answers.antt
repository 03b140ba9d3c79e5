-- `ppm_header::length` meets its contract. Assumes nothing.
use native.Mathlib.Omega.{arith}
use Rattle.ppm_header.proofs.Texts.{length_header}
use Rattle.ppm_header.proofs.length.Goals as goal

pub returns : goal.returns
returns c =
    let a = c.args in
    record { answer = omega (arith, length_header a.width a.height a.top) }
