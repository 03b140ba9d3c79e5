-- Document 01, "Numbers on the refusal slip": the number beside a card that is looked for. Assumes nothing.
use Rattle.refusal.specs.Refusal.{number_of}
use Rattle.refusal.specs.declared.Refusal.{Refusal}
use Rattle.std.specs.Prelude.{ℕ, Result, Ok, Err}

-- 0 where it is found, else the refusal's number
abbrev pub refusal_of : Result ℕ Refusal → ℕ
refusal_of (Ok k) = 0
refusal_of (Err refusal) = number_of refusal
