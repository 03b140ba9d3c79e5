-- The scales of Y'CbCr codes over one divisor. A reader need not believe it: crates/color_rows_laws shows that the rows made by it are `rgb_of`. Assumes nothing.
use Rattle.std.specs.Prelude.{ℕ, ◌-◌, ◌*◌, ◌^◌}
use Rattle.parameters.specs.declared.range.Range.{Range}
use Rattle.parameters.specs.declared.range.Range.TheVariants.{Narrow, Full, LegacyFull}
use Rattle.parameters.specs.Parameters.{step_of, top_of}
use Rattle.color_numbers.specs.declared.spread.Spread.{Spread}

-- Y' is luma (y - black) / whole, and Cb chroma (cb - neutral) / whole; whole is the least common multiple of both spans, which in a full range are one
abbrev pub full_spread : (span neutral : ℕ) → Spread
full_spread span neutral = record { luma = 1; chroma = 1; whole = span; black = 0; neutral = neutral }

abbrev pub spread_of : Range → ℕ → Spread
spread_of Narrow n = record { luma = 224; chroma = 219; whole = 49056 * step_of n; black = 16 * step_of n; neutral = 128 * step_of n }
spread_of Full n = full_spread (top_of n) (2 ^ (n - 1))
spread_of LegacyFull n = full_spread (2 ^ n) (2 ^ (n - 1))
