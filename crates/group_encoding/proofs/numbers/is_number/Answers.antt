-- `group_encoding::numbers::is_number` meets its contract. Assumes nothing.
use Rattle.line_values.proofs.Encodes.{eq_self}
use Rattle.group_encoding.proofs.numbers.is_number.Goals as goal

pub returns : goal.returns
returns c = eq_self c.args.value
