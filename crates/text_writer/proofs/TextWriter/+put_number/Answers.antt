-- `text_writer::TextWriter::put_number` meets its contract: the last digit goes behind the digits in front. Assumes nothing.
use native.Mathlib.Omega.{arith}
use Rattle.text_writer.proofs.Decimal.{number-one, number_more}
use Rattle.text_writer.proofs.TextWriter.+put_number.Goals.{then-n-ge10, else-n-ge10}
use Rattle.text_writer.proofs.TextWriter.+put_number.Goals as goal

pub returns : goal.returns
returns t c = elim c.if-n-ge10.branch [
  | then-n-ge10 w ↦ number_more c.args.n w.if-n-ge10.true (omega arith) w.put_number.ensures (rw w.self-is at c.put_digit.ensures)
  | else-n-ge10 w ↦ number-one c.args.n w.if-n-ge10.false (rw w.self-is at c.put_digit.ensures)
]
