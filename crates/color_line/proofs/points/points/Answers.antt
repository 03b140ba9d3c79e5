-- `color_line::points` meets its contract: each turn fills in eight points and adds their cuts, and then one's. Assumes nothing.
use Prim.Native.Nat.{ℕ, ◌+◌, ◌*◌, ◌/◌}
use native.Mathlib.Omega.{arith}
use mathlib.Core.Path.{◌≡◌, refl, sym, ap, ◌∙◌, subst}
use Rattle.lists.specs.Lists.{count}
use Rattle.lists.proofs.Counts.{count_le}
use Rattle.lists.proofs.Filled.{Filled, filled_none, filled_from}
use Rattle.line.specs.declared.turns.Joined.{Joined}
use Rattle.color_line.specs.inner.Rows.{rows_code, code_at, cut_at}
use Rattle.color_line.proofs.Lines.{converted_all, cuts_more, cuts_all}
use Rattle.color_line.proofs.Stores.{rows_small, point_more, turn_filled}
use Rattle.color_line.proofs.points.points.Goals as goal

pub loop-turn-init : goal.loop-turn-init
unfolding count
loop-turn-init c = (filled_none, refl)

pub overflow_add-cuts : goal.overflow_add-cuts
overflow_add-cuts c = let l = c.loop-turn in
    let i = 8 * l.turn in
    omega (arith, c.requires.0, l.invariant.1, c.eight_at-eight.ensures.cuts_value, count_le (3 * (i + 8)) (cut_at (rows_code c.args.rows) c.args.codes.now))

pub loop-turn-preserved : goal.loop-turn-preserved
loop-turn-preserved c = let l = c.loop-turn in
    let i = 8 * l.turn in
    let f = rows_code c.args.rows in
    let next : i + 8 ≡ 8 * (l.turn + 1) = omega arith in
    let t = c.eight_at-eight in (
      subst (λ (m : ℕ). Filled c.args.out.now (code_at f c.args.codes.now) (3 * m) c.store_eight.new.out) next
          (turn_filled c.args.rows c.args.codes.now i c.args.out.now l.out _ _ (omega (arith, c.requires.1, c.loop-turn-test.true)) t.ensures.numbers_value l.invariant.0 c.store_eight.ensures),
      omega (arith, l.invariant.1, t.ensures.cuts_value) ∙ ap (λ (m : ℕ). count (3 * m) (cut_at f c.args.codes.now)) next,
    )

pub loop-i-init : goal.loop-i-init
loop-i-init c = let l = c.loop-turn in
    let f = rows_code c.args.rows in
    let at : 8 * l.turn ≡ c.args.n / 8 * 8 = omega arith in (
      filled_from (sym l.invariant.0.long) (subst (λ (m : ℕ). Filled c.args.out.now (code_at f c.args.codes.now) (3 * m) l.out) at l.invariant.0),
      l.invariant.1 ∙ ap (λ (m : ℕ). count (3 * m) (cut_at f c.args.codes.now)) at,
      omega (arith, c.requires.1, l.invariant.0.long),
    )

pub overflow_add-cuts-in-loop-i : goal.overflow_add-cuts-in-loop-i
overflow_add-cuts-in-loop-i c = let l = c.loop-i in
    let f = rows_code c.args.rows in
    omega (arith, c.requires.0, c.loop-i-test.true, l.invariant.1, cuts_more f c.args.codes.now l.i {next = l.i + 1} c.point_at-one.ensures refl, count_le (3 * (l.i + 1)) (cut_at f c.args.codes.now))

pub loop-i-preserved : goal.loop-i-preserved
loop-i-preserved c = let l = c.loop-i in
    let f = rows_code c.args.rows in
    let p = c.point_at-one in (
      point_more f (rows_small c.args.rows) c.args.codes.now _ _ _ l.i p.result.number 3 (omega arith) (ap (λ (x : Joined). x.number) p.ensures) (omega arith) (omega (arith, c.loop-i-test.true, l.invariant.2)) l.invariant.0
          c.store3.ensures,
      omega (arith, l.invariant.1, cuts_more f c.args.codes.now l.i {next = l.i + 1} p.ensures refl),
      l.invariant.2,
    )

pub returns : goal.returns
returns c =
    let l = c.loop-i in
    let f = rows_code c.args.rows in
    record {
      out_after = converted_all f c.args.codes.now _ _ l.i c.args.n c.requires.0 l.invariant.2 (omega arith) (omega arith) l.invariant.0;
      value = l.invariant.1 ∙ cuts_all f c.args.codes.now l.i c.args.n c.requires.0 (omega arith) (omega arith);
    }
