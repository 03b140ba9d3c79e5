-- `card_reader::shows_item` meets its contract, test by test. Assumes nothing.
use mathlib.Core.Path.{sym, ap, ◌∙◌}
use Rattle.std.specs.Prelude.{is_ok}
use Rattle.card_reader.proofs.Shown.{other_item, this_item}
use Rattle.card_reader.proofs.shows_item.Goals as goal

pub returns-then-bytes-ne-SIZE : goal.returns-then-bytes-ne-SIZE
returns-then-bytes-ne-SIZE c = let a = c.args in sym (other_item a.bytes.now a.edition a.item (λ n q. c.if-bytes-ne-SIZE.true n))

pub returns-then-number8-item : goal.returns-then-number8-item
returns-then-number8-item c = let a = c.args in
    sym (other_item a.bytes.now a.edition a.item (λ n q. c.if-number8-item.true (c.number8.ensures ∙ q)))

pub returns : goal.returns
returns c = let a = c.args in
    c.is_ok.ensures.value ∙ ap is_ok c.read.ensures.answer ∙ this_item a.bytes.now a.edition a.item (sym c.number8.ensures ∙ c.if-number8-item.false)
