-- `point_packing::store_one` meets its contract. Assumes nothing.
use mathlib.Core.Path.{◌≡◌, refl, sym, ◌∙◌}
use mathlib.Core.Bool.{true}
use lib.ListN.{length}
use Rattle.lists.proofs.Tests.{pass, stop}
use Rattle.point_packing.specs.inner.Store.{points_fit, stored_one}
use Rattle.point_packing.proofs.runs.store_one.Goals as goal

pub returns-then-points_fit : goal.returns-then-points_fit
unfolding stored_one
returns-then-points_fit c =
    let has : let a = c.args in points_fit a.size a.i 1 (length a.out.now) ≡ true = sym c.points_fit.ensures ∙ c.if-points_fit.true in
    record { memory = c.store_low.ensures ∙ sym (stop _ has) }

pub returns-else-points_fit : goal.returns-else-points_fit
unfolding stored_one
returns-else-points_fit c =
    record { memory = sym (pass _ (sym c.points_fit.ensures ∙ c.if-points_fit.false) refl) }
