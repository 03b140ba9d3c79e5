-- `ppm_header::put_sides` meets its contract, piece by piece. Assumes nothing.
use Rattle.ppm_header.proofs.Texts.{sides_put}
use Rattle.ppm_header.proofs.put_sides.Goals as goal

pub returns : goal.returns
returns c = let a = c.args in
    sides_put a.width a.height c.put_number.ensures c.put_byte.ensures c.put_number-2.ensures c.put_byte-2.ensures
