-- `color_line::eight_at` meets its contract: each turn fills in one number and adds its cuts. Assumes nothing.
use Prim.Native.Nat.{ℕ, ◌+◌, ◌*◌}
use native.Mathlib.Nat.{add-zero}
use native.Mathlib.Omega.{arith}
use mathlib.Core.Path.{◌≡◌, refl, sym, ap, ◌∙◌}
use lib.ListN.{set}
use Rattle.lists.specs.Lists.{count}
use Rattle.lists.specs.inner.Stores.{written}
use Rattle.lists.proofs.Counts.{count_le}
use Rattle.lists.proofs.Filled.{filled_more, filled_all}
use Rattle.line.specs.declared.turns.Joined.{Joined}
use Rattle.color_line.specs.inner.Rows.{rows_code, cut_at, point_of}
use Rattle.color_line.proofs.Lines.{cuts_more}
use Rattle.color_line.proofs.points.eight_at.Goals as goal

pub overflow_add-cuts : goal.overflow_add-cuts
overflow_add-cuts c = let l = c.loop-j in
    let f = rows_code c.args.rows in
    let n = c.args.i + l.j + 1 in
    omega (arith, c.requires, l.invariant.2, cuts_more f c.args.codes.now (c.args.i + l.j) {next = n} c.point_at-p.ensures refl, count_le (3 * n) (cut_at f c.args.codes.now))

pub loop-j-preserved : goal.loop-j-preserved
unfolding written
loop-j-preserved c = let l = c.loop-j in
    let f = rows_code c.args.rows in
    let p = c.point_at-p in (
      refl,
      filled_more {at = l.j} {xs = l.numbers} (λ k. p.result.number) 1 (omega arith) (omega arith)
          (λ k h. ap (λ (x : Joined). x.number) p.ensures ∙ ap (λ (m : ℕ). (point_of f c.args.codes.now m).number) (omega arith)) l.invariant.1
          (sym (ap (λ (z : ℕ). set l.numbers z p.result.number) (add-zero l.j))),
      omega (arith, l.invariant.2, cuts_more f c.args.codes.now (c.args.i + l.j) {next = c.args.i + (l.j + 1)} p.ensures (omega arith)),
    )

pub returns : goal.returns
returns c =
    let l = c.loop-j in
    let e : l.j ≡ 8 = omega arith in
    record { numbers_value = filled_all 0 l.invariant.0 (rw e at l.invariant.1); cuts_value = l.invariant.2 ∙ ap (λ (k : ℕ). count (3 * (c.args.i + k)) (cut_at (rows_code c.args.rows) c.args.codes.now)) e }
