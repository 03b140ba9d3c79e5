-- How large the numbers of a conversion may be. Assumes nothing.
use Rattle.std.specs.Prelude.{◌^◌, ◌≤◌, ◌<◌}
use Rattle.color_equations.specs.declared.weights.Weights.{Weights}
use Rattle.color_numbers.specs.declared.green.GreenTerms.{GreenTerms}
use Rattle.color_numbers.specs.declared.green.Ratio.{Ratio}
use Rattle.color_numbers.specs.declared.spread.Spread.{Spread}
use Rattle.color_numbers.specs.declared.Numbers.{Numbers}

-- weights and terms of G' of the paper
pub record SmallWeights (w : Weights) : Type 0 where
  pub red : w.red ≤ 2990
  pub blue : w.blue ≤ 1140

pub record SmallGreen (g : GreenTerms) : Type 0 where
  pub luma : g.luma ≤ 2531200000
  pub red : g.red ≤ 1413927583
  pub blue : g.blue ≤ 407219623
  pub some : 0 < g.half
  pub half : g.half ≤ 13198400000

pub record SmallNumbers (m : Numbers) : Type 0 where
  pub weights : SmallWeights m.weights
  pub green : SmallGreen m.green

pub record SmallRatio (r : Ratio) : Type 0 where
  pub some : 0 < r.whole
  pub whole : r.whole ≤ 28

-- spreads of the paper
pub record SmallSpread (s : Spread) : Type 0 where
  pub luma : s.luma ≤ 224
  pub chroma : s.chroma ≤ 224
  pub some : 0 < s.whole
  pub whole : s.whole < 2 ^ 20
  pub black : s.black ≤ 256
  pub neutral : s.neutral ≤ 2048

-- those of the full ranges
pub record FullSpread (s : Spread) : Type 0 where
  pub luma : s.luma ≤ 1
  pub chroma : s.chroma ≤ 1
  pub some : 0 < s.whole
  pub whole : s.whole ≤ 4096
  pub black : s.black ≤ 0
  pub neutral : s.neutral ≤ 2048
