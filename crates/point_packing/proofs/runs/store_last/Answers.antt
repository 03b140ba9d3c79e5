-- `point_packing::store_last` meets its contract. Assumes nothing.
use mathlib.Core.Path.{◌≡◌, refl, sym, ap, ◌∙◌}
use mathlib.Core.Bool.{true}
use mathlib.Core.List.{List}
use Prim.Native.Nat.{ℕ, ◌+◌, ◌*◌}
use lib.ListN.{length, get_or}
use Rattle.lists.specs.Bytes.{byte_of}
use Rattle.lists.specs.inner.Stores.{written}
use Rattle.lists.proofs.Tests.{pass, stop}
use Rattle.point_packing.specs.inner.Store.{points_fit, stored_last}
use Rattle.point_packing.proofs.runs.store_last.Goals as goal

pub returns-then-points_fit : goal.returns-then-points_fit
unfolding stored_last
returns-then-points_fit c =
    let has : let a = c.args in points_fit a.size a.i 8 (length a.out.now) ≡ true = sym c.points_fit.ensures ∙ c.if-points_fit.true in
    let a = c.args in
    c.store_low-then-points_fit.ensures
    ∙ ap (λ (ys : List ℕ). written ys (a.size * (a.i + 7)) (byte_of (get_or a.v 7 0)) a.size)
    (c.store_low.ensures ∙ ap (λ (ys : List ℕ). written ys (a.size * (a.i + 6)) (byte_of (get_or a.v 6 0)) a.size) c.store_all.ensures)
    ∙ sym (stop _ has)

pub returns-else-points_fit : goal.returns-else-points_fit
unfolding stored_last
returns-else-points_fit c = sym (pass _ (sym c.points_fit.ensures ∙ c.if-points_fit.false) refl)
