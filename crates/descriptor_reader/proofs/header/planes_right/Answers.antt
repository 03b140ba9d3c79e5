-- `descriptor_reader::header::planes_right` meets its contract: the parts that it looks at are the definition's. Assumes nothing.
use mathlib.Core.Path.{◌∙◌}
use native.Mathlib.Omega.{arith}
use Rattle.descriptor_reader.specs.Header.{planes_right}
use Rattle.descriptor_reader.proofs.Zeros.{zeros_in_part}
use Rattle.descriptor_reader.proofs.header.planes_right.Goals as goal

pub returns : goal.returns
unfolding planes_right
returns c =
    let b = c.args.bytes.now in
    rw (c.all_zero.ensures ∙ zeros_in_part b 16 4 (omega arith), c.bytes_known.ensures, c.all_zero-2.ensures ∙ zeros_in_part b 21 7 (omega arith))
