-- `color_line::eight_at` meets its contract: each turn fills in one number and adds its cuts. Assumes nothing.
use Prim.Native.Nat.{◌+◌, ◌*◌}
use mathlib.Core.Path.{◌≡◌}
use lib.ListN.{length}
use Rattle.lists.specs.Lists.{count}
use Rattle.lists.proofs.Filled.{Filled}
use Rattle.color_line.specs.inner.Rows.{rows_code, cut_at, point_of}
use Rattle.color_line.proofs.points.eight_at.Given as goal

abbrev pub invariant-loop-j : goal.invariant-loop-j
invariant-loop-j l = (length l.initial.numbers ≡ 8) × Filled l.initial.numbers (λ k. (point_of (rows_code l.rows) l.codes (l.i + k)).number) l.j l.numbers × (count (3 * l.i) (cut_at (rows_code l.rows) l.codes) + l.cuts ≡ count (3 * (l.i + l.j)) (cut_at (rows_code l.rows) l.codes))
