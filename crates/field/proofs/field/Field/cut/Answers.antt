-- `field::Field::cut` meets its contract. Assumes nothing.
use Prim.Native.Nat.{◌%◌}
use native.Mathlib.Omega.{arith}
use Rattle.field.proofs.Masks.{masked}
use Rattle.field.proofs.field.Field.cut.Goals as goal

pub returns : goal.returns
returns c = let a = c.args in
    masked 32 (a.self.bits % 16) (omega arith) a.number (a.self.from % 32)
