-- Laws of the least edition, byte 0 of a card. Assumes nothing.
use mathlib.Core.Path.{◌≡◌, refl}
use mathlib.Core.Bool.{Bool, true, false, cond}
use Prim.Native.Nat.{ℕ}
use lib.Dec.{eqb}
use Rattle.layout.specs.Layout.{grouped}
use Rattle.card_table.specs.declared.facts.Facts.{Facts}
use Rattle.card_table.specs.Facts.{least_edition, with_access}

-- the access has no part in the least edition
pub least_with : (f : Facts) (access : ℕ) → least_edition (with_access f access) ≡ least_edition f
unfolding least_edition
least_with f access = refl

-- which is never 0
pub least_some : (f : Facts) → eqb (least_edition f) 0 ≡ false
unfolding least_edition
least_some f = go (grouped f.layout) (eqb f.layout.range 3) (eqb f.layout.depth 12)
  where
    go : (g t u : Bool) → eqb (cond g 4 (cond t 3 (cond u 2 1))) 0 ≡ false
    go true t u = refl
    go false true u = refl
    go false false true = refl
    go false false false = refl
