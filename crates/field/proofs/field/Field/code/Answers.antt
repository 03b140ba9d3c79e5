-- `field::Field::code` meets its contract, by the number of bytes. Assumes nothing.
use mathlib.Core.Path.{ap₂, ◌∙◌}
use Prim.Native.Nat.{ℕ, ◌+◌, ◌*◌, ◌%◌}
use native.Mathlib.Omega.{arith}
use Rattle.line.specs.Point.{bits}
use Rattle.field.proofs.Read.{read_none, read_one, read_two, read_three}
use Rattle.field.proofs.field.Field.code.Goals as goal

pub returns-in-empty : goal.returns-in-empty
returns-in-empty c = read_none c.args.self c.args.bytes.now (omega arith)

pub returns-in-len1 : goal.returns-in-len1
returns-in-len1 c = c.from.ensures ∙ read_one c.args.self c.args.bytes.now (omega arith) (omega (arith, c.type_inv.bytes 0))

pub returns-in-len2 : goal.returns-in-len2
returns-in-len2 c = let a = c.args in
    c.cut.ensures ∙ ap₂ (λ (x y : ℕ). bits (a.self.bits % 16) (a.self.from % 32) (x + y * 256)) c.from-in-len2.ensures c.from-in-len2-2.ensures ∙ read_two a.self a.bytes.now (omega arith)

pub returns-in-len3-up : goal.returns-in-len3-up
returns-in-len3-up c = let a = c.args in
    rw (c.cut-in-len3-up.ensures, c.from-in-len3-up.ensures, c.from-in-len3-up-2.ensures, c.from-in-len3-up-3.ensures) (read_three a.self a.bytes.now (omega arith))
