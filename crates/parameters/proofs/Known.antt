-- What a number's range and depth say of the number. Assumes nothing.
use mathlib.Core.Path.{◌≡◌, refl, sym, ap, ◌∙◌}
use mathlib.Core.Bool.{Bool, true, false, cond, ◌||◌, true≢false}
use Prim.Native.Nat.{ℕ}
use borrow.Author.Tests.{eqb-true}
use lib.Dec.{eqb}
use Rattle.parameters.specs.declared.range.Range.{Range}
use Rattle.parameters.specs.declared.range.Range.TheVariants.{Narrow, Full, LegacyFull}
use Rattle.parameters.specs.declared.depth.Depth.{Depth}
use Rattle.parameters.specs.declared.depth.Depth.TheVariants.{Eight, Ten, Twelve}
use Rattle.parameters.specs.Parameters.{range_number, range_known, range_of, known_range, depth_known, depth_of, bits_of, known_depth}
use Rattle.std.specs.Prelude.{Some, None}
use Rattle.std.proofs.lemmas.Option.{cond_some, none-some}
use Rattle.parameters.proofs.Depths.{known-bits}

-- an answer that is there by a test, and one that is not
not_there : {T : Type 0} (t : Bool) (x : T) → cond t (Some x) None ≡ None → t ≡ false
not_there true x e = absurd (none-some x (sym e))
not_there false x e = refl

pub range_told : (n : ℕ) {r : Range} → known_range n ≡ Some r → (range_known n ≡ true) × (r ≡ range_of n)
range_told n {r} e = let h = cond_some (range_known n) (range_of n) r e in (h.0, sym h.1)

pub range_unknown : (n : ℕ) → known_range n ≡ None → range_known n ≡ false
range_unknown n e = not_there (range_known n) (range_of n) e

-- what the definitions take any other number for
pub range_else : (n : ℕ) → range_known n ≡ false → range_of n ≡ LegacyFull
range_else n e = go (eqb n 1) (eqb n 2) e
  where
    go : (a b : Bool) → a || b || eqb n 3 ≡ false → cond a Narrow (cond b Full LegacyFull) ≡ LegacyFull
    go true b e = absurd (true≢false e)
    go false true e = absurd (true≢false e)
    go false false e = refl

-- a known number is the number of its range
pub range_number_lem : (n : ℕ) → range_known n ≡ true → range_number (range_of n) ≡ n
range_number_lem n e = go (eqb n 1) (eqb n 2) (eqb n 3) refl refl refl e
  where
    go : (a b c : Bool) → eqb n 1 ≡ a → eqb n 2 ≡ b → eqb n 3 ≡ c → a || b || c ≡ true → range_number (cond a Narrow (cond b Full LegacyFull)) ≡ n
    go true b c p q r e = sym (eqb-true n 1 p)
    go false true c p q r e = sym (eqb-true n 2 q)
    go false false true p q r e = sym (eqb-true n 3 r)
    go false false false p q r e = absurd (true≢false (sym e))

pub depth_told : (n : ℕ) {d : Depth} → known_depth n ≡ Some d → (depth_known n ≡ true) × (d ≡ depth_of n)
depth_told n {d} e = let h = cond_some (depth_known n) (depth_of n) d e in (h.0, sym h.1)

pub depth-bits : (n : ℕ) {d : Depth} → known_depth n ≡ Some d → bits_of d ≡ n
depth-bits n e = let t = depth_told n e in ap bits_of t.1 ∙ known-bits n t.0

pub depth_unknown : (n : ℕ) → known_depth n ≡ None → depth_known n ≡ false
depth_unknown n e = not_there (depth_known n) (depth_of n) e

pub depth_else : (n : ℕ) → depth_known n ≡ false → depth_of n ≡ Twelve
depth_else n e = go (eqb n 8) (eqb n 10) e
  where
    go : (a b : Bool) → a || b || eqb n 12 ≡ false → cond a Eight (cond b Ten Twelve) ≡ Twelve
    go true b e = absurd (true≢false e)
    go false true e = absurd (true≢false e)
    go false false e = refl
