-- `text_writer::count` ends: each call has one digit less. Assumes nothing.
use Rattle.text_writer.proofs.+count.Given as goal

abbrev pub decreases-count : goal.decreases-count
decreases-count l = l.n
