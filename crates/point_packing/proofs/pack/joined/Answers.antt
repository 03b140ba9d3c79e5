-- `point_packing::joined` meets its contract. Assumes nothing.
use mathlib.Core.Path.{◌∙◌}
use Prim.Native.Nat.{ℕ, ◌+◌, ◌*◌, ◌^◌, ◌<◌}
use native.Mathlib.Nat.{add-zero}
use native.Mathlib.Omega.{arith}
use lib.Dec.{lit<}
use lib.ListN.{get_or, length}
use Rattle.line.specs.Line.{joined}
use Rattle.line.proofs.Points.{code_lt}
use Rattle.point_joining.proofs.Places.{join_is}
use Rattle.point_packing.proofs.pack.joined.Goals as goal

pub returns : goal.returns
unfolding joined
returns c = let at : (k : ℕ) → k < 3 → get_or c.args.codes.now (3 * c.args.i + k) 0 < 2 ^ c.args.layout.depth = λ k h. let l : 3 * c.args.i + k < length c.args.codes.now = omega arith in code_lt c.args.layout c.args.codes.now (3 * c.args.i + k) c.requires.1 l in
    c.join.ensures ∙ join_is c.args.layout c.requires.0 _ _ _ (rw add-zero at (at 0 (lit< tt))) (at 1 (lit< tt)) (at 2 (lit< tt))
