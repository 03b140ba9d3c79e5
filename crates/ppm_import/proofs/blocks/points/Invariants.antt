-- `ppm_import::blocks::points` meets its contract: each turn packs one block. Assumes nothing.
use Prim.Native.Nat.{◌-◌, ◌≤◌}
use mathlib.Core.Path.{◌≡◌}
use lib.ListN.{length}
use Rattle.parameters.specs.Parameters.{bits_of}
use Rattle.line.specs.Line.{packed_of}
use Rattle.parts.proofs.Parts.{Made}
use Rattle.ppm_codes.specs.Codes.{raster_codes}
use Rattle.ppm_import.proofs.blocks.points.Given as goal

abbrev pub invariant-loop-i : goal.invariant-loop-i
invariant-loop-i l = (l.i ≤ l.n) × Made (λ s. packed_of l.layout (raster_codes (bits_of l.depth) s)) l.each l.layout.bytes l.raster l.initial.packed l.i l.packed × (length l.codes ≡ 768)

abbrev pub decreases-loop-i : goal.decreases-loop-i
decreases-loop-i l = l.n - l.i
