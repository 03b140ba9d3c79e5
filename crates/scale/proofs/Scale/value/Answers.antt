-- `scales::Scale::value` meets its contract: one division of two whole numbers that an f32 holds. Assumes nothing.
use native.Mathlib.Omega.{arith}
use Rattle.scale.specs.Value.{value_of}
use Rattle.scale.proofs.Quotients.{difference-over}
use Rattle.scale.proofs.Scale.value.Goals as goal

pub returns : goal.returns
unfolding value_of
returns c = let a = c.args in difference-over a.code a.self.base (omega arith) (omega arith) a.self.span (omega arith)
