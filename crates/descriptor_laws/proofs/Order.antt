-- Three fields in rising bit offset, case by case. Assumes nothing.
use mathlib.Core.Path.{◌≡◌, refl}
use mathlib.Core.Bool.{Bool, true, false, cond}
use Prim.Native.Nat.{◌≤◌}
use native.Mathlib.Omega.{arith}
use borrow.Author.Tests.{ltb-true, ltb-false}
use lib.Dec.{ltb}
use Rattle.descriptor_writer.specs.declared.field.Field.{Field}
use Rattle.descriptor_writer.specs.declared.field.Fields.{Fields}
use Rattle.descriptor_writer.specs.Field.{rising}

-- three fields as they stand
abbrev pub three : Field → Field → Field → Fields
three a b c = record { first = a; second = b; third = c }

-- what holds of each order, where the offsets stand so, holds of the rising one
pub rising-by : (P : Fields → Type 0) (a b c : Field)
    → (a.offset ≤ b.offset → b.offset ≤ c.offset → P (three a b c))
    → (a.offset ≤ c.offset → c.offset ≤ b.offset → P (three a c b))
    → (c.offset ≤ a.offset → a.offset ≤ b.offset → P (three c a b))
    → (b.offset ≤ a.offset → a.offset ≤ c.offset → P (three b a c))
    → (b.offset ≤ c.offset → c.offset ≤ a.offset → P (three b c a))
    → (c.offset ≤ b.offset → b.offset ≤ a.offset → P (three c b a))
    → P (rising a b c)
unfolding rising
rising-by P a b c abc acb cab bac bca cba =
    go (ltb a.offset b.offset) (ltb b.offset c.offset) (ltb a.offset c.offset) refl refl refl
  where
    go : (t u v : Bool) → ltb a.offset b.offset ≡ t → ltb b.offset c.offset ≡ u → ltb a.offset c.offset ≡ v
        → P (cond t (cond u (three a b c) (cond v (three a c b) (three c a b))) (cond v (three b a c) (cond u (three b c a) (three c b a))))
    go true true v e f g = let x = ltb-true a.offset b.offset e in let y = ltb-true b.offset c.offset f in abc (omega arith) (omega arith)
    go true false true e f g = let x = ltb-false b.offset c.offset f in let y = ltb-true a.offset c.offset g in acb (omega arith) (omega arith)
    go true false false e f g = let x = ltb-true a.offset b.offset e in let y = ltb-false a.offset c.offset g in cab (omega arith) (omega arith)
    go false u true e f g = let x = ltb-false a.offset b.offset e in let y = ltb-true a.offset c.offset g in bac (omega arith) (omega arith)
    go false true false e f g = let x = ltb-true b.offset c.offset f in let y = ltb-false a.offset c.offset g in bca (omega arith) (omega arith)
    go false false false e f g = let x = ltb-false a.offset b.offset e in let y = ltb-false b.offset c.offset f in cba (omega arith) (omega arith)

-- what holds of each field holds of each in its place
pub rising-all : (P : Field → Type 0) (a b c : Field) → P a → P b → P c → (P (rising a b c).first) × (P (rising a b c).second) × (P (rising a b c).third)
rising-all P a b c p q r =
    rising-by (λ (f : Fields). (P f.first) × (P f.second) × (P f.third)) a b c
    (λ x y. (p, q, r)) (λ x y. (p, r, q)) (λ x y. (r, p, q)) (λ x y. (q, p, r)) (λ x y. (q, r, p)) (λ x y. (r, q, p))
