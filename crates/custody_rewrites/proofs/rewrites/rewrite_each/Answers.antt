-- `custody_rewrites::rewrites::rewrite_each` meets its contract: each rewrite does the first of what is left. Assumes nothing.
use mathlib.Core.Path.{sym}
use Prim.Native.Nat.{◌+◌, ◌-◌}
use native.Mathlib.Nat.{add-sub_cancel_left}
use native.Mathlib.Omega.{arith}
use lib.ListN.{get_or}
use Rattle.custody_rewrites.proofs.Going.{going_next_at}
use Rattle.custody_rewrites.proofs.rewrites.rewrite_each.Goals as goal

pub loop-k-preserved : goal.loop-k-preserved
loop-k-preserved c = let o = c.loop-k in
    let a = c.args in
    let n = get_or a.lengths.now o.k 0 in
    going_next_at a.editions.now a.lengths.now a.outputs.now a.card.now a.answers.now o.outputs o.answers o.card o.at o.k
    o.invariant (omega arith) (omega arith) (omega arith) (o.at + n - o.at) (sym (add-sub_cancel_left o.at n))
    c.rewrite.result c.rewrite.new.out c.rewrite.new.card c.rewrite.ensures c.rewrite.auto.out c.rewrite.auto.card
