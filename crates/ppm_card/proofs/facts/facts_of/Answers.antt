-- `ppm_card::facts::facts_of` meets its contract. Assumes nothing.
use Rattle.ppm_card.specs.Card.{import_facts}
use Rattle.ppm_card.proofs.facts.facts_of.Goals as goal

pub returns : goal.returns
unfolding import_facts
returns c = let a = c.args in λ m. record { layout = c.layout_of.ensures m; width = a.width; height = a.height; item = a.item; access = 0 }
