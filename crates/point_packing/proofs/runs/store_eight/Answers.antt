-- `point_packing::store_eight` meets its contract. Assumes nothing.
use mathlib.Core.Path.{◌≡◌, sym, ◌∙◌}
use mathlib.Core.Bool.{true}
use native.Mathlib.Omega.{arith}
use lib.Dec.{lit≤}
use lib.ListN.{length}
use Rattle.lists.proofs.Tests.{pass, stop}
use Rattle.point_packing.specs.inner.Store.{points_fit, stored_eight}
use Rattle.point_packing.proofs.Fit.{fit_says, eight_fit}
use Rattle.point_packing.proofs.runs.store_eight.Goals as goal

pub store_all-requires : goal.store_all-requires
store_all-requires c =
    let has : let a = c.args in points_fit a.size a.i 10 (length a.out.now) ≡ true = sym c.points_fit.ensures ∙ c.if-points_fit.true in
    let a = c.args in
    let r = fit_says a.size a.i 10 (length a.out.now) has in
    (r.most, r.first, lit≤ tt, λ k h. eight_fit a.size a.i 10 (length a.out.now) r k (omega arith))

pub returns-then-points_fit : goal.returns-then-points_fit
unfolding stored_eight
returns-then-points_fit c =
    let has : let a = c.args in points_fit a.size a.i 10 (length a.out.now) ≡ true = sym c.points_fit.ensures ∙ c.if-points_fit.true in
    c.store_all.ensures ∙ sym (stop _ has)

pub returns-else-points_fit : goal.returns-else-points_fit
unfolding stored_eight
returns-else-points_fit c = sym (pass _ (sym c.points_fit.ensures ∙ c.if-points_fit.false) (sym c.store_last.ensures))
