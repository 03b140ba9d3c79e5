-- How large the numbers of the rows may be. Assumes nothing.
use Rattle.std.specs.Prelude.{ℕ, ◌+◌, ◌*◌, ◌^◌, ◌≤◌, ◌<◌}
use Rattle.scale.specs.declared.Scale.{Scale}
use Rattle.color_rows.specs.declared.linear.Row.{Row}

-- a row whose numbers an f64 holds
pub record Small (r : Row) : Type 0 where
  pub all : r.sum.plus0 + r.sum.plus1 + r.sum.plus2 + r.sum.plus + (r.sum.minus0 + r.sum.minus1 + r.sum.minus2 + r.sum.minus) + 4096 * r.over ≤ 2 ^ 53

-- and whose whole part an f64 division gives at codes up to top: every sum is within 2 ^ 53, and the divisor within 2 ^ 40
pub record Fits (r : Row) (top : ℕ) : Type 0 where
  pub some : 0 < r.over
  pub over : r.over ≤ 2 ^ 40
  pub sums : (r.sum.plus0 + r.sum.minus0) * top + (r.sum.plus1 + r.sum.minus1) * top + (r.sum.plus2 + r.sum.minus2) * top + (r.sum.plus + r.sum.minus) + 4096 * r.over ≤ 2 ^ 53
  pub ends : r.ends.low ≤ r.ends.high
  pub high : r.ends.high ≤ 4095

-- a scale of the paper, whose base is at most `most`
pub record SmallScale (sc : Scale) (most : ℕ) : Type 0 where
  pub some : 0 < sc.span
  pub span : sc.span ≤ 4096
  pub base : sc.base ≤ most
  pub ends : sc.low ≤ sc.high
  pub high : sc.high ≤ 4095
