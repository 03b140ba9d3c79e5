-- `ppm_header::digits` meets its contract. Assumes nothing.
use native.Mathlib.Omega.{arith}
use Rattle.ppm_header.proofs.Texts.{few-digits}
use Rattle.ppm_header.proofs.digits.Goals as goal

pub returns : goal.returns
returns c = (c.count.ensures.answer, omega (arith, c.count.ensures.answer, few-digits c.args.n (omega arith)))
