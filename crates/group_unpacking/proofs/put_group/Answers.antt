-- `group_unpacking::put_group` meets its contract. Assumes nothing.
use Rattle.group_unpacking.proofs.Codes.{six_codes}
use Rattle.group_unpacking.proofs.put_group.Goals as goal

pub returns : goal.returns
returns c = let a = c.args in
    six_codes a.packed.now a.codes.now a.i _ _ _ _ c.from-y0.ensures c.from-cb.ensures c.from-cr.ensures c.from-y1.ensures
