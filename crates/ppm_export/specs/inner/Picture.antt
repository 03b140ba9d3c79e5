-- What the private functions ask and work out. A reader need not believe it: proofs/ shows that the file is `picture_of`. Assumes nothing.
use Rattle.std.specs.Prelude.{ℕ, ◌/◌, ◌≡◌, true}
use Rattle.layout.specs.Layout.{points_each, whole_groups}
use Rattle.card_table.specs.declared.facts.Facts.{Facts}
use Rattle.card_table.specs.Facts.{facts_valid}
use Rattle.ppm_export.specs.Export.{points_of}

-- facts that a card may show
pub record Known (f : Facts) : Type 0 where
  pub facts : facts_valid f ≡ true
  pub whole : whole_groups f.layout f.width ≡ true

-- how many points of their own, or groups, a picture has
abbrev pub units_of : Facts → ℕ
units_of f = points_of f / points_each f.layout
