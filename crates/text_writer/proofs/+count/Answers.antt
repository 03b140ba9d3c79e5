-- `text_writer::count` meets its contract: a digit more than the digits in front. Assumes nothing.
use Prim.Native.Nat.{◌/◌}
use native.Mathlib.Omega.{arith}
use Rattle.text_writer.proofs.Decimal.{length-one, length_more, length-decimal}
use Rattle.text_writer.proofs.+count.Goals as goal

pub returns-then-n-lt10 : goal.returns-then-n-lt10
returns-then-n-lt10 t c = record { answer = omega (arith, length-one c.args.n c.if-n-lt10.true) }

pub overflow_add-result : goal.overflow_add-result
overflow_add-result t c = omega (arith, c.count.ensures.answer, length-decimal 19 (c.args.n / 10) (omega arith))

pub returns : goal.returns
returns t c = record { answer = omega (arith, c.count.ensures.answer, length_more c.args.n (omega arith) (omega arith)) }
