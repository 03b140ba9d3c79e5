-- `listing::field::put_access` meets its contract, word by word. Assumes nothing.
use Rattle.listing.proofs.Lines.{word_open, word_community, word_closed}
use Rattle.text_writer.proofs.Puts.{wrote_as}
use Rattle.listing.proofs.field.put_access.Goals as goal

pub returns-then-access-eq-OPEN : goal.returns-then-access-eq-OPEN
returns-then-access-eq-OPEN c = wrote_as (word_open c.args.access c.if-access-eq-OPEN.true) c.put.ensures

pub returns-then-access-eq-COMMUNITY : goal.returns-then-access-eq-COMMUNITY
returns-then-access-eq-COMMUNITY c = wrote_as (word_community c.args.access c.if-access-eq-OPEN.false c.if-access-eq-COMMUNITY.true) c.put-then-access-eq-COMMUNITY.ensures

pub returns-else-access-eq-COMMUNITY : goal.returns-else-access-eq-COMMUNITY
returns-else-access-eq-COMMUNITY c = wrote_as (word_closed c.args.access c.if-access-eq-OPEN.false c.if-access-eq-COMMUNITY.false) c.put-else-access-eq-COMMUNITY.ensures
