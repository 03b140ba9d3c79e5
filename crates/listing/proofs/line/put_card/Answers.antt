-- `listing::line::put_card` meets its contract, by what the reading answered. Assumes nothing.
use mathlib.Core.Path.{sym, ap, ◌∙◌}
use Rattle.listing.specs.Words.{card_refused}
use Rattle.listing.specs.List.{number_line}
use Rattle.text_writer.proofs.Puts.{wrote_as}
use Rattle.listing.proofs.Longest.{refused_line, shown_line}
use Rattle.listing.proofs.line.put_card.Goals as goal

pub returns-in-Err : goal.returns-in-Err
returns-in-Err c = wrote_as (ap (number_line card_refused) c.number.ensures ∙ refused_line c.args.card.now _ (sym c.read.ensures.answer ∙ c.in-Err.is)) c.put_line.ensures

pub returns-in-Ok : goal.returns-in-Ok
returns-in-Ok c = wrote_as (shown_line c.args.card.now _ (sym c.read.ensures.answer ∙ c.in-Ok.is)) c.put_facts.ensures
