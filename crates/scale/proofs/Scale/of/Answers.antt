-- `scale::Scale::of` meets its contract: each arm's numbers are the definition's, by the depth's step. Assumes nothing.
use mathlib.Core.Path.{◌≡◌}
use Rattle.parameters.specs.declared.range.Range.{Range}
use Rattle.parameters.specs.declared.range.Range.TheVariants.{Narrow, Full, LegacyFull}
use Rattle.parameters.specs.declared.kind.Kind.{Kind}
use Rattle.parameters.specs.declared.kind.Kind.TheVariants.{Brightness, Difference}
use Rattle.parameters.specs.Parameters.{bits_of}
use Rattle.parameters.proofs.Depths.{depth_steps}
use Rattle.scale.specs.Scale.{scale_of}
use Rattle.scale.proofs.Scales.{parts_by, scale_by, by_step}
use Rattle.scale.proofs.Scale.of.Goals as goal
use Rattle.scale.proofs.Scale.of.Goals.{in-Narrow-Brightness, in-Narrow-Difference, in-Full-Brightness, in-Full-Difference, in-LegacyFull-Brightness, in-LegacyFull-Difference}

pub returns : goal.returns
returns c =
    let a = c.args in
    let d = a.depth in
    let made : (r : Range) (k : Kind) → a.range ≡ r → a.kind ≡ k → c.match-range.base ≡ parts_by r c.step-s.result c.top-m.result k
    → scale_by c.match-range.base c.top-m.result c.low_end.result c.high_end.result ≡ scale_of a.range (bits_of d) a.kind = λ r k p q e.
    rw (e, c.step-s.ensures, c.top-m.ensures, c.low_end.ensures, c.high_end.ensures, p, q) (by_step r k (bits_of d) (depth_steps d)) in
    elim c.match-range.branch [
      | in-Narrow-Brightness w ↦ made Narrow Brightness w.in-Narrow-Brightness.is-0 w.in-Narrow-Brightness.is-1 w.base-is
      | in-Narrow-Difference w ↦ made Narrow Difference w.in-Narrow-Difference.is-0 w.in-Narrow-Difference.is-1 w.base-is
      | in-Full-Brightness w ↦ made Full Brightness w.in-Full-Brightness.is-0 w.in-Full-Brightness.is-1 w.base-is
      | in-Full-Difference w ↦ made Full Difference w.in-Full-Difference.is-0 w.in-Full-Difference.is-1 w.base-is
      | in-LegacyFull-Brightness w ↦ made LegacyFull Brightness w.in-LegacyFull-Brightness.is-0 w.in-LegacyFull-Brightness.is-1 w.base-is
      | in-LegacyFull-Difference w ↦ made LegacyFull Difference w.in-LegacyFull-Difference.is-0 w.in-LegacyFull-Difference.is-1 w.base-is
    ]
