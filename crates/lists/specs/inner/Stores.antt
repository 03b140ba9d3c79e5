-- A run of stores. Only contracts of private functions cite it, and a reader need not believe it. Assumes nothing.
use Rattle.std.specs.Prelude.{List, ℕ, zero, suc, ◌+◌, set}

module _ {A : Type 0} where
  -- xs, with f 0, f 1, .., f (n - 1) stored from index at on
  unfoldable pub written : List A → ℕ → (ℕ → A) → ℕ → List A
  written xs at f zero = xs
  written xs at f (suc n) = set (written xs at f n) (at + n) (f n)
