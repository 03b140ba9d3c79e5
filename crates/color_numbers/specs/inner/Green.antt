-- The tables of G' out of narrow range, its common factors taken out. A reader need not believe them: crates/color_rows_laws shows that by them G' is `green_from`. Assumes nothing.
use Rattle.std.specs.Prelude.{ℕ, ◌-◌, List, [], ◌∷◌, get_or}
use Rattle.parameters.specs.declared.range.Range.{Range}
use Rattle.parameters.specs.declared.range.Range.TheVariants.{Narrow, Full, LegacyFull}
use Rattle.parameters.specs.declared.depth.Depth.{Depth}
use Rattle.parameters.specs.declared.depth.Depth.TheVariants.{Eight, Ten, Twelve}
use Rattle.color_numbers.specs.declared.green.GreenTerms.{GreenTerms}
use Rattle.color_numbers.specs.declared.green.Ratio.{Ratio}

-- the terms of primaries 1 to 4, in lowest terms: G' is (luma (y - black) - red (cr - neutral) - blue (cb - neutral)) / (2 half * 21 s)
abbrev pub green_rows : List GreenTerms
green_rows =
    record { luma = 667520000; red = 305507263; blue = 122251567; half = 3480640000 }
    ∷ record { luma = 65744000; red = 45902181; blue = 22119876; half = 342808000 }
    ∷ record { luma = 65744000; red = 45902181; blue = 22119876; half = 342808000 }
    ∷ record { luma = 2531200000; red = 1413927583; blue = 407219623; half = 13198400000 }
    ∷ []

abbrev pub green_terms : ℕ → GreenTerms
green_terms primaries = get_or green_rows (primaries - 1) (record { luma = 0; red = 0; blue = 0; half = 0 })

-- the span of the codes that come out over 21 s, in lowest terms
abbrev pub ratio_of : Range → Depth → Ratio
ratio_of Narrow d = record { span = 73; whole = 7 }
ratio_of Full Eight = record { span = 85; whole = 7 }
ratio_of Full Ten = record { span = 341; whole = 28 }
ratio_of Full Twelve = record { span = 195; whole = 16 }
ratio_of LegacyFull d = record { span = 256; whole = 21 }
