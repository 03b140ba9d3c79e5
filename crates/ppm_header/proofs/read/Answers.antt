-- `ppm_header::read` meets its contract. Assumes nothing.
use mathlib.Core.Path.{◌∙◌}
use Rattle.ppm_header.proofs.Reading.{read_is}
use Rattle.ppm_header.proofs.read.Goals as goal

pub returns : goal.returns
returns c =
    record {
      answer = c.header_of.ensures
          ∙ read_is c.args.s.now c.number_from-width.ensures c.digits.ensures.0 c.number_from-height.ensures c.digits-2.ensures.0 c.number_from-top.ensures;
    }
