-- The answer of a conversion has few points and a small refusal. Assumes nothing.
use mathlib.Core.Path.{◌≡◌, refl}
use mathlib.Core.Bool.{true, not}
use mathlib.Core.List.{List}
use Prim.Native.Nat.{ℕ}
use borrow.Author.Tests.{not-false}
use lib.ListN.{length}
use Rattle.line.specs.Line.{codes_within}
use Rattle.line.specs.Answer.{fitting}
use Rattle.color_equations.specs.Line.{Converter, convertible, conversion_answer}
use Rattle.c_types.specs.Numbers.{without_cuts, counted}
use Rattle.c_types.proofs.Lines.{clamped_row, count}

pub conversion_small : (g : Converter) (p d f t : ℕ) (cs : List ℕ) (output : ℕ) → counted (without_cuts (conversion_answer g p d f t cs output)) ≡ true
unfolding conversion_answer
conversion_small g p d f t cs output =
    let fit = fitting (length cs) 3 output 3 in
    clamped_row (not (convertible p d f t)) _ _ (λ _.
    clamped_row (not fit) _ _ (λ e.
    clamped_row (not (codes_within d cs)) _ _ (λ _. count (length cs) 3 output 3 (not-false fit e))))
