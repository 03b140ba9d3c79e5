-- `color_line::points` meets its contract: each turn fills in eight points and adds their cuts, and then one's. Assumes nothing.
use Prim.Native.Nat.{◌*◌}
use mathlib.Core.Path.{◌≡◌}
use lib.ListN.{length}
use Rattle.lists.specs.Lists.{count}
use Rattle.lists.proofs.Filled.{Filled}
use Rattle.color_line.specs.inner.Rows.{rows_code, code_at, cut_at}
use Rattle.color_line.proofs.points.points.Given as goal

abbrev pub invariant-loop-turn : goal.invariant-loop-turn
invariant-loop-turn l = Filled l.initial.out (code_at (rows_code l.rows) l.codes) (3 * (8 * l.turn)) l.out × (l.cuts ≡ count (3 * (8 * l.turn)) (cut_at (rows_code l.rows) l.codes))

abbrev pub invariant-loop-i : goal.invariant-loop-i
invariant-loop-i l = Filled l.initial.out (code_at (rows_code l.rows) l.codes) (3 * l.i) l.out × (l.cuts ≡ count (3 * l.i) (cut_at (rows_code l.rows) l.codes)) × (length l.initial.out ≡ 3 * l.n)
