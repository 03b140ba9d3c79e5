-- `ppm_codes::take::code` meets its contract. Assumes nothing.
use Rattle.ppm_codes.proofs.Codes.{take_one, take_two}
use Rattle.ppm_codes.proofs.take.code.Goals as goal

pub returns-then-this-eq1 : goal.returns-then-this-eq1
returns-then-this-eq1 g c = take_one c.args.raster.now g.row.BYTES c.args.i c.if-this-eq1.true

pub returns-else-this-eq1 : goal.returns-else-this-eq1
returns-else-this-eq1 g c = take_two c.args.raster.now g.row.BYTES c.args.i c.requires.size.0 c.requires.size.1 c.if-this-eq1.false c.from_be_bytes.ensures
