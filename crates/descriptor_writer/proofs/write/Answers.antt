-- `descriptor_writer::write` meets its contract: a valid layout's depth is known, and the stored parts are the descriptor. Assumes nothing.
use mathlib.Core.Path.{sym, ap, ◌∙◌}
use lib.ListN.{length}
use lib.Seq.{sets}
use borrow.Author.Tests.{eq-eqb}
use Rattle.layout.proofs.Facts.{points_say}
use Rattle.descriptor_writer.proofs.Answers.{done, changed}
use Rattle.descriptor_writer.proofs.Stored.{descriptor_stored}
use Rattle.descriptor_writer.proofs.write.Goals as goal

pub samples_of-samples-requires : goal.samples_of-samples-requires
samples_of-samples-requires c = (points_say c.args.layout (sym c.valid_points.ensures ∙ c.if-not-valid_points.false)).depth

pub returns-clause-memory : goal.returns-clause-memory
returns-clause-memory c =
    let a = c.args in
    let e = done a.layout a.out.now (sym c.valid_points.ensures ∙ c.if-not-valid_points.false) (eq-eqb (length a.out.now) 76 c.if-out-ne-DESCRIPTOR_SIZE.false) in
    changed a.layout a.out.now c.put-4.new.out e
    (descriptor_stored a.layout c.samples_of-samples.result a.out.now c.put.new.out c.put-2.new.out c.put-3.new.out c.put-4.new.out
    c.if-out-ne-DESCRIPTOR_SIZE.false c.samples_of-samples.ensures
    (c.put.ensures ∙ ap (sets a.out.now 0) c.front_bytes.ensures)
    (c.put-2.ensures ∙ ap (sets c.put.new.out 28) c.sample_bytes.ensures)
    (c.put-3.ensures ∙ ap (sets c.put-2.new.out 44) c.sample_bytes-2.ensures)
    (c.put-4.ensures ∙ ap (sets c.put-3.new.out 60) c.sample_bytes-3.ensures))
