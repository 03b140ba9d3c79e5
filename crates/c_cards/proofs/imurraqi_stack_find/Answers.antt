-- `imurraqi_stack_find` meets its contract, case by case of the answer. Assumes nothing.
use Prim.Native.Nat.{◌^◌, ◌<◌}
use mathlib.Core.Path.{sym, ap, ◌∙◌}
use native.Mathlib.Omega.{arith}
use Rattle.stack.proofs.Answers.{located-few}
use Rattle.c_types.proofs.Numbers.{count_fits, kept}
use Rattle.c_cards.specs.Numbers.{found_number}
use Rattle.c_cards.proofs.imurraqi_stack_find.Goals as goal

pub overflow_cast-result : goal.overflow_cast-result
overflow_cast-result c =
    let few : c.in-Ok.index < 2 ^ 16 = omega (arith, located-few _ _ _ c.in-Ok.index (sym c.locate.ensures ∙ c.in-Ok.is)) in
    count_fits c.in-Ok.index few

pub returns-in-Ok : goal.returns-in-Ok
returns-in-Ok c =
    let few : c.in-Ok.index < 2 ^ 16 = omega (arith, located-few _ _ _ c.in-Ok.index (sym c.locate.ensures ∙ c.in-Ok.is)) in
    kept c.in-Ok.index few ∙ ap found_number (sym c.in-Ok.is ∙ c.locate.ensures)
