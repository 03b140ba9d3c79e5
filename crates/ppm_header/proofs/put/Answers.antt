-- `ppm_header::put` meets its contract, line by line. Assumes nothing.
use Rattle.std.proofs.Common.{rules}
use Rattle.text_writer.proofs.Puts.{wrote_all}
use Rattle.ppm_header.proofs.Texts.{header_put}
use Rattle.ppm_header.proofs.put.Goals as goal

pub returns : goal.returns
returns c = let a = c.args in
    let w = header_put a.width a.height a.top c.put.ensures c.put_sides.ensures c.put_number.ensures c.put_byte.ensures in
    let l = w.lent in
    wrote_all w c.new-text.ensures.same c.new-text.ensures.front (search rules)
