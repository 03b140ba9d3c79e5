-- How large the numbers of a spread can be, once over the depth n. Assumes nothing.
use Prim.Native.Nat.{ℕ, ◌-◌, ◌^◌, ◌≤◌, ◌<◌}
use native.Mathlib.Omega.{arith}
use lib.Dec.{lit≤}
use Rattle.parameters.specs.declared.range.Range.{Range}
use Rattle.parameters.specs.declared.range.Range.TheVariants.{Narrow, Full, LegacyFull}
use Rattle.parameters.specs.Parameters.{top_of}
use Rattle.parameters.proofs.Depths.{Steps}
use Rattle.color_numbers.specs.declared.spread.Spread.{Spread}
use Rattle.color_numbers.specs.inner.Spread.{full_spread, spread_of}
use Rattle.color_numbers.specs.inner.Sizes.{SmallSpread, FullSpread}

-- of a full range, by its span
spread_by : (span n : ℕ) → Steps n → 0 < span → span ≤ 4096 → FullSpread (full_spread span (2 ^ (n - 1)))
spread_by span n s some most = record { luma = lit≤ tt; chroma = lit≤ tt; some = some; whole = most; black = omega arith; neutral = omega (arith, s) }

pub full_spread_lem : (n : ℕ) → Steps n → FullSpread (spread_of Full n)
full_spread_lem n s = spread_by (top_of n) n s (omega (arith, s)) (omega (arith, s))

pub legacy_spread : (n : ℕ) → Steps n → FullSpread (spread_of LegacyFull n)
legacy_spread n s = spread_by (2 ^ n) n s (omega (arith, s)) (omega (arith, s))

full_small : (s : Spread) → FullSpread s → SmallSpread s
full_small s h = record { luma = omega (arith, h.luma); chroma = omega (arith, h.chroma); some = h.some; whole = omega (arith, h.whole); black = omega (arith, h.black); neutral = h.neutral }

pub spread_small : (r : Range) (n : ℕ) → Steps n → SmallSpread (spread_of r n)
spread_small Narrow n s = record { luma = lit≤ tt; chroma = lit≤ tt; some = omega (arith, s); whole = omega (arith, s); black = omega (arith, s); neutral = omega (arith, s) }
spread_small Full n s = full_small (spread_of Full n) (full_spread_lem n s)
spread_small LegacyFull n s = full_small (spread_of LegacyFull n) (legacy_spread n s)
