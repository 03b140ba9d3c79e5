-- `listing::field::put_item` meets its contract, piece by piece. Assumes nothing.
use Rattle.listing.proofs.Lines.{item_put}
use Rattle.listing.proofs.field.put_item.Goals as goal

pub returns : goal.returns
returns c = let a = c.args in
    item_put a.item a.access c.put_number.ensures c.put_byte.ensures c.put_access.ensures c.put_byte-2.ensures
