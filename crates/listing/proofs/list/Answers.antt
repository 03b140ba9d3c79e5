-- `listing::list` meets its contract: 13, one line, or all. Assumes nothing.
use mathlib.Core.Path.{sym, ◌∙◌}
use native.Mathlib.Omega.{arith}
use Rattle.std.proofs.Common.{rules}
use Rattle.text_writer.specs.Put.{Wrote}
use Rattle.text_writer.proofs.Puts.{wrote_all, wrote_within}
use Rattle.listing.specs.List.{list_text}
use Rattle.listing.proofs.Answers.{refused, written, wrote_list, wrote_line}
use Rattle.listing.proofs.list.Goals.{then-whole, else-whole}
use Rattle.listing.proofs.list.Goals as goal

pub returns-then-out-lt-LONGEST : goal.returns-then-out-lt-LONGEST
returns-then-out-lt-LONGEST c =
    let a = c.args in
    let done = refused a.stack.now a.out.now (omega arith) in
    record { answer = done.0; memory = done.1 }

pub put_cards-requires : goal.put_cards-requires
put_cards-requires c = wrote_within c.put_first.ensures

pub returns : goal.returns
returns c =
    let a = c.args in
    let whole : Wrote (list_text a.stack.now) c.new-text.result c.if-whole.text = elim c.if-whole.branch [
      | then-whole w ↦ rw w.text-is (wrote_list a.stack.now (sym c.whole.ensures ∙ w.if-whole.true) c.put_first.ensures w.put_cards.ensures)
      | else-whole w ↦ rw w.text-is (wrote_line a.stack.now (sym c.whole.ensures ∙ w.if-whole.false) c.put_first.ensures)
    ] in
    let l = whole.lent in
    let done = written a.stack.now (omega (arith, c.if-out-lt-LONGEST.false)) (wrote_all whole c.new-text.ensures.same c.new-text.ensures.front (search rules)) in
    record { answer = done.0; memory = done.1 }
