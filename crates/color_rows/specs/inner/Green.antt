-- G' out of narrow range, its common factors taken out. A reader need not believe it: crates/color_rows_laws shows that it is `green_from`. Assumes nothing.
use Rattle.std.specs.Prelude.{◌+◌, ◌*◌}
use Rattle.color_numbers.specs.declared.green.GreenTerms.{GreenTerms}
use Rattle.color_numbers.specs.declared.green.Ratio.{Ratio}
use Rattle.color_rows.specs.declared.linear.Value.{Value}
use Rattle.color_numbers.specs.declared.spread.Spread.{Spread}

-- G' for the span of a ratio
unfoldable pub narrow_green_value : GreenTerms → Spread → Ratio → Value
narrow_green_value g s r =
    record {
      sum = record { plus0 = g.luma; plus1 = 0; plus2 = 0; plus = (g.blue + g.red) * s.neutral; minus0 = 0; minus1 = g.blue; minus2 = g.red; minus = g.luma * s.black };
      half = g.half * r.whole;
    }
