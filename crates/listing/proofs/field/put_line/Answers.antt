-- `listing::field::put_line` meets its contract, piece by piece. Assumes nothing.
use Rattle.listing.proofs.Lines.{line_put}
use Rattle.listing.proofs.field.put_line.Goals as goal

pub returns : goal.returns
returns c = let a = c.args in
    line_put a.words.now a.n c.put.ensures c.put_number.ensures c.put_byte.ensures
