-- A line by its points: what is converted at code 3 i + j is channel j of point i. Assumes nothing.
use mathlib.Core.Path.{◌≡◌, ap₂}
use mathlib.Core.List.{List}
use Prim.Native.Nat.{ℕ, ◌+◌, ◌*◌, ◌/◌, ◌%◌, ◌<◌}
use native.Mathlib.Omega.{arith}
use lib.ListN.{get_or}
use Rattle.fractions.specs.declared.Clamped.{Clamped}
use Rattle.color_equations.specs.Line.{Converter, converted_at}

-- the three codes of point i, converted
abbrev pub point_at : Converter → List ℕ → ℕ → ℕ → Clamped
point_at f cs i = f (get_or cs (3 * i) 0) (get_or cs (3 * i + 1) 0) (get_or cs (3 * i + 2) 0)

pub converted_at_lem : (f : Converter) (cs : List ℕ) (i j : ℕ) → j < 3 → point_at f cs i j ≡ converted_at f cs (3 * i + j)
unfolding converted_at
converted_at_lem f cs i j h =
    let q : i ≡ (3 * i + j) / 3 = omega arith in
    let r : j ≡ (3 * i + j) % 3 = omega arith in
    ap₂ (point_at f cs) q r
