-- `ppm_header::scan::number_from` meets its contract: what is left of the text decides. Assumes nothing.
use mathlib.Core.Path.{◌≡◌}
use Prim.Native.Nat.{◌+◌, ◌-◌, ◌^◌, ◌≤◌, ◌<◌}
use lib.ListN.{drop}
use Rattle.ppm_header.specs.Header.{leading, number_from}
use Rattle.ppm_header.proofs.scan.number_from.Given as goal

abbrev pub invariant-loop-i : goal.invariant-loop-i
invariant-loop-i l = (l.i ≤ 4) × (l.n < 10 ^ l.i) × (leading (4 - l.i) l.n (drop (l.at + l.i) l.s) ≡ number_from l.s l.at)
