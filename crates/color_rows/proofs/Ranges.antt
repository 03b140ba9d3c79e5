-- The row of G' out of each range, by the values that it is worked out from. Assumes nothing.
use mathlib.Core.Path.{◌≡◌, refl}
use mathlib.Core.Logic.{◌⊎◌, inl, inr}
use Prim.Native.Nat.{ℕ}
use Rattle.parameters.specs.declared.range.Range.{Range}
use Rattle.parameters.specs.declared.range.Range.TheVariants.{Narrow, Full, LegacyFull}
use Rattle.parameters.specs.declared.kind.Kind.TheVariants.{Brightness}
use Rattle.parameters.specs.Parameters.{bits_of}
use Rattle.parameters.proofs.Depths.{Steps}
use Rattle.scale.specs.declared.Scale.{Scale}
use Rattle.scale.specs.Scale.{scale_of}
use Rattle.color_numbers.specs.declared.green.Ratio.{Ratio}
use Rattle.color_numbers.specs.declared.Numbers.{Numbers}
use Rattle.color_numbers.specs.declared.spread.Spread.{Spread}
use Rattle.color_numbers.specs.inner.Green.{ratio_of}
use Rattle.color_numbers.specs.inner.Spread.{spread_of}
use Rattle.color_numbers.specs.inner.Sizes.{FullSpread}
use Rattle.color_numbers.proofs.Spreads.{full_spread_lem, legacy_spread}
use Rattle.color_rows.specs.declared.linear.Value.{Value}
use Rattle.color_rows.specs.inner.Green.{narrow_green_value}
use Rattle.color_rows.specs.inner.Rows.{coded_of, code_row, green_value, plain_green_row, green_row_from, green_row}

-- what the arm of both full ranges is told of the range
abbrev pub FullArm : Range → Type 0
FullArm r = (r ≡ Full) ⊎ (r ≡ LegacyFull)

not_narrow : {A : Type 0} → FullArm Narrow → A
not_narrow h = elim h [ inl e ↦ cc | inr e ↦ cc ]

pub arm_spread : (r : Range) → FullArm r → (n : ℕ) → Steps n → FullSpread (spread_of r n)
arm_spread Narrow h n s = not_narrow h
arm_spread Full h n s = full_spread_lem n s
arm_spread LegacyFull h n s = legacy_spread n s

arm_row : (r : Range) → FullArm r → (m : Numbers) → plain_green_row r m ≡ green_row_from r m
unfolding green_row_from
arm_row Narrow h m = not_narrow h
arm_row Full h m = refl
arm_row LegacyFull h m = refl

module _ (m : Numbers) (s : Spread) (out : Scale) (v : Value) (es : s ≡ spread_of m.from (bits_of m.depth)) (eo : out ≡ scale_of m.to (bits_of m.depth) Brightness) where
  pub narrow_row : m.from ≡ Narrow → (r : Ratio) → r ≡ ratio_of m.to m.depth → v ≡ narrow_green_value m.green s r → coded_of v r.span out ≡ green_row m
  unfolding green_row_from
  narrow_row e r er ev = rw (ev, er, eo, es, e) refl

  pub full_row : FullArm m.from → v ≡ green_value m.weights s → code_row v out ≡ green_row m
  full_row h ev = rw (ev, eo, es) (arm_row m.from h m)
