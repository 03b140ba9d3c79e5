-- The answer to a line of a conversion that the paper has, by the highest code. Only a private function cites it: the entries' contracts have `conversion_answer`. Assumes nothing.
use Rattle.std.specs.Prelude.{ℕ, ◌/◌, not, cond, List, leb, length, Result, Ok, Err}
use Rattle.lists.specs.Lists.{every}
use Rattle.line.specs.Answer.{fitting}
use Rattle.refusal.specs.declared.Refusal.TheVariants.{CodeTooHigh, WrongLineOrOutput}
use Rattle.refusal.specs.declared.Refusal.{Refusal}
use Rattle.color_equations.specs.Line.{Converter, converted_cuts}

-- 13, then 14
abbrev pub answer_up_to : Converter → ℕ → List ℕ → ℕ → Result (ℕ × ℕ) Refusal
answer_up_to f top cs output =
    cond (not (fitting (length cs) 3 output 3)) (Err WrongLineOrOutput)
    (cond (not (every (λ c. leb c top) cs)) (Err CodeTooHigh)
    (Ok (length cs / 3, converted_cuts f cs)))
