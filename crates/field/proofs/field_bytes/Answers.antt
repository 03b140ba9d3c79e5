-- `field::field_bytes` meets its contract, row by row. Assumes nothing.
use mathlib.Core.Path.{sym, ap, ◌∙◌}
use mathlib.Core.Bool.{not}
use Rattle.lists.proofs.Tests.{stop, pass}
use Rattle.field.specs.Answer.{bytes_answer}
use Rattle.std.specs.Prelude.{Ok}
use Rattle.field.proofs.field_bytes.Goals as goal

pub returns-then-known : goal.returns-then-known
unfolding bytes_answer
returns-then-known c = sym (pass _ (ap not (sym c.known.ensures ∙ c.if-known.true)) (ap Ok (sym c.of.ensures)))

pub returns-else-known : goal.returns-else-known
unfolding bytes_answer
returns-else-known c = sym (stop _ (ap not (sym c.known.ensures ∙ c.if-known.false)))
