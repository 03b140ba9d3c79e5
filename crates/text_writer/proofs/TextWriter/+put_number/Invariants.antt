-- `text_writer::TextWriter::put_number` ends: each call has one digit less. Assumes nothing.
use Rattle.text_writer.proofs.TextWriter.+put_number.Given as goal

abbrev pub decreases-put_number : goal.decreases-put_number
decreases-put_number l = l.n
