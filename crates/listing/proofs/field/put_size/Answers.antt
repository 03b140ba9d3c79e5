-- `listing::field::put_size` meets its contract, piece by piece. Assumes nothing.
use Rattle.listing.proofs.Lines.{size_put}
use Rattle.listing.proofs.field.put_size.Goals as goal

pub returns : goal.returns
returns c = let a = c.args in
    size_put a.width a.height c.put_number.ensures c.put_byte.ensures c.put_number-2.ensures c.put_byte-2.ensures
