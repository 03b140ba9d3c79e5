-- `listing::line::put_facts` meets its contract, piece by piece. Assumes nothing.
use Rattle.text_writer.proofs.Puts.{wrote_join}
use Rattle.listing.proofs.line.put_facts.Goals as goal

pub returns : goal.returns
returns c = wrote_join c.put_item.ensures c.put_size.ensures
