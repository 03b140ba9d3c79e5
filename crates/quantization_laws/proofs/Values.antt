-- The value of a code as a sign and a fraction of natural numbers. Assumes nothing.
use mathlib.Core.Path.{◌≡◌, ◌∙◌}
use mathlib.Core.Bool.{Bool, true, false}
use Prim.Native.Nat.{ℕ, suc, ◌+◌, ◌-◌, ◌<◌}
use native.Mathlib.Omega.{arith}
use borrow.Author.Tests.{lt-ltb, le-ltb}
use lib.Dec.{ltb}
use lib.IntN.{ℤ, pos, ◌-ℤ◌}
use lib.Ieee.{binary32, round}
use Rattle.fractions.proofs.Integers.{minus_cases, as_pos, as_neg}
use Rattle.scale.specs.declared.Scale.{Scale}
use Rattle.scale.specs.Value.{rounded, value_of}
use Rattle.quantization.specs.Code.{signed}
use Rattle.scale.proofs.Quotients.{over-some}

-- a number with a sign as a difference
abbrev pub plus_part : Bool → ℕ → ℕ
plus_part false x = x
plus_part true x = 0

abbrev pub minus_part : Bool → ℕ → ℕ
minus_part false x = 0
minus_part true x = x

pub as_parts : (s : Bool) (x : ℕ) → signed s x ≡ pos (plus_part s x) -ℤ pos (minus_part s x)
as_parts false x = as_pos x x 0 (omega arith)
as_parts true x = as_neg x 0 x (omega arith)

-- |a - b|
abbrev pub gap : ℕ → ℕ → ℕ
gap a b = (a - b) + (b - a)

-- a - b is its sign and its size
pub by_sign : (a b : ℕ) → pos a -ℤ pos b ≡ signed (ltb a b) (gap a b)
by_sign a b =
    minus_cases (λ (z : ℤ). z ≡ signed (ltb a b) (gap a b)) a b
    (λ l.
    let e : gap a b ≡ a - b = omega arith in
    rw (le-ltb a b l, e))
    (λ l.
    let e : gap a b ≡ suc (b - suc a) = omega arith in
    rw (lt-ltb a b l, e))

rounds : (a b p : ℕ) → rounded (pos a -ℤ pos b) p ≡ round binary32 (ltb a b) (gap a b) p
rounds a b p =
    minus_cases (λ (z : ℤ). rounded z p ≡ round binary32 (ltb a b) (gap a b) p) a b
    (λ l.
    let e : gap a b ≡ a - b = omega arith in
    rw (le-ltb a b l, e))
    (λ l.
    let e : gap a b ≡ suc (b - suc a) = omega arith in
    rw (lt-ltb a b l, e))

pub value_rounds : (sc : Scale) (c : ℕ) → 0 < sc.span → value_of sc c ≡ round binary32 (ltb c sc.base) (gap c sc.base) sc.span
unfolding value_of
value_rounds sc c S = over-some (pos c -ℤ pos sc.base) sc.span S ∙ rounds c sc.base sc.span
