-- `ppm_pixels::blocks` meets its contract: each turn makes one block. Assumes nothing.
use mathlib.Core.Path.{◌≡◌}
use Prim.Native.Nat.{◌-◌, ◌≤◌}
use lib.ListN.{length}
use Rattle.parts.proofs.Parts.{Made}
use Rattle.ppm_pixels.specs.Pixels.{pixels_of}
use Rattle.ppm_pixels.proofs.blocks.Given as goal

abbrev pub invariant-loop-i : goal.invariant-loop-i
invariant-loop-i l = (l.i ≤ l.n) × Made (pixels_of l.layout) l.size l.wide l.packed l.initial.out l.i l.out × (length l.codes ≡ 480) × (length l.full ≡ 480)

abbrev pub decreases-loop-i : goal.decreases-loop-i
decreases-loop-i l = l.n - l.i
