-- The tables of weights, of the terms of G' and of the ratios: what every row of them is at most. Assumes nothing.
use mathlib.Core.Path.{◌≡◌, refl}
use mathlib.Core.Bool.{Bool, true, ◌&&◌}
use Prim.Native.Nat.{ℕ, suc}
use borrow.Author.Tests.{leb-true}
use lib.Dec.{leb, lit≤, lit<}
use Rattle.lists.specs.Lists.{tabulate, every}
use Rattle.lists.proofs.Tests.{and_left, and_right, and3}
use Rattle.parameters.specs.declared.range.Range.{Range}
use Rattle.parameters.specs.declared.range.Range.TheVariants.{Narrow, Full, LegacyFull}
use Rattle.parameters.specs.declared.depth.Depth.{Depth}
use Rattle.parameters.specs.declared.depth.Depth.TheVariants.{Eight, Ten, Twelve}
use Rattle.parameters.specs.Parameters.{primaries_known}
use Rattle.color_equations.specs.Weights.{weights_of}
use Rattle.color_equations.proofs.Table.{each-known}
use Rattle.color_numbers.specs.inner.Green.{green_terms, ratio_of}
use Rattle.color_numbers.specs.inner.Sizes.{SmallWeights, SmallGreen, SmallRatio}

abbrev small_weights : ℕ → Bool
small_weights p = leb (weights_of p).red 2990 && leb (weights_of p).blue 1140

all-weights : every small_weights (tabulate 4 suc) ≡ true
unfolding every tabulate
all-weights = refl

pub weights_small : (p : ℕ) → primaries_known p ≡ true → SmallWeights (weights_of p)
weights_small p e =
    let w = weights_of p in
    let h = each-known small_weights all-weights p e in
    record { red = leb-true w.red 2990 (and_left (leb w.red 2990) (leb w.blue 1140) h); blue = leb-true w.blue 1140 (and_right (leb w.red 2990) (leb w.blue 1140) h) }

abbrev small_green : ℕ → Bool
small_green p = let g = green_terms p in leb g.luma 2531200000 && leb g.red 1413927583 && leb g.blue 407219623 && (leb 1 g.half && leb g.half 13198400000)

all-green : every small_green (tabulate 4 suc) ≡ true
unfolding every tabulate
all-green = refl

pub green_small : (p : ℕ) → primaries_known p ≡ true → SmallGreen (green_terms p)
green_small p e =
    let g = green_terms p in
    let h = each-known small_green all-green p e in
    let a = leb g.luma 2531200000 in
    let b = leb g.red 1413927583 in
    let c = leb g.blue 407219623 in
    let some = leb 1 g.half in
    let half = leb g.half 13198400000 in
    let k = and3 a b c (and_left (a && b && c) (some && half) h) in
    let l = and_right (a && b && c) (some && half) h in
    record { luma = leb-true g.luma 2531200000 k.0; red = leb-true g.red 1413927583 k.1; blue = leb-true g.blue 407219623 k.2; some = leb-true 1 g.half (and_left some half l); half = leb-true g.half 13198400000 (and_right some half l) }

pub ratio_small : (r : Range) (d : Depth) → SmallRatio (ratio_of r d)
ratio_small Narrow d = record { some = lit< tt; whole = lit≤ tt }
ratio_small Full Eight = record { some = lit< tt; whole = lit≤ tt }
ratio_small Full Ten = record { some = lit< tt; whole = lit≤ tt }
ratio_small Full Twelve = record { some = lit< tt; whole = lit≤ tt }
ratio_small LegacyFull d = record { some = lit< tt; whole = lit≤ tt }
