-- `floats::in_units` meets its contract: an f64 holds the number. Assumes nothing.
use mathlib.Core.Path.{ap}
use native.Mathlib.Omega.{arith}
use lib.IntN.{ℤ}
use lib.Ieee.{binary64, mul, of_int, of_bits}
use mir.Syntax.{w64}
use mir.ValLaws.{to_z_pos}
use Rattle.floats.specs.inner.Floor.{in_units}
use Rattle.floats.proofs.in_units.Goals as goal

pub returns : goal.returns
unfolding in_units of_int of_bits
returns c = ap (λ (z : ℤ). mul binary64 (of_int binary64 z) (of_bits binary64 4427038433705197568)) (to_z_pos w64 c.args.k (omega (arith, c.requires)))
