-- `listing::line::put_first` meets its contract. Assumes nothing.
use mathlib.Core.Path.{sym, ap, ◌∙◌}
use Rattle.listing.specs.Words.{stack_refused}
use Rattle.listing.specs.List.{number_line}
use Rattle.text_writer.proofs.Puts.{wrote_as}
use Rattle.listing.proofs.Longest.{whole_line, not_whole_line}
use Rattle.listing.proofs.line.put_first.Goals as goal

pub returns-then-whole : goal.returns-then-whole
returns-then-whole c = wrote_as (whole_line c.args.bytes (sym c.whole.ensures ∙ c.if-whole.true)) c.put_line.ensures

pub returns-else-whole : goal.returns-else-whole
returns-else-whole c = wrote_as (ap (number_line stack_refused) c.number.ensures ∙ not_whole_line c.args.bytes (sym c.whole.ensures ∙ c.if-whole.false)) c.put_line-else-whole.ensures
