-- `descriptor_writer::sample::sample_of` meets its contract: the limits are the definition's numbers, since the depth is known. Assumes nothing.
use mathlib.Core.Path.{◌≡◌, refl, ap, ◌∙◌}
use Rattle.parameters.specs.Parameters.{range_of, bits_of, kind_of}
use Rattle.parameters.proofs.Depths.{known-bits}
use Rattle.descriptor_samples.specs.Limits.{limits_of}
use Rattle.descriptor_writer.specs.Sample.{sample_of}
use Rattle.descriptor_writer.proofs.sample.sample_of.Goals as goal

pub returns : goal.returns
unfolding sample_of
returns c =
    let a = c.args in
    let n = ap bits_of c.depth_of.ensures ∙ known-bits a.layout.depth c.requires in
    let e : c.of-limits.result ≡ limits_of (range_of a.layout.range) a.layout.depth (kind_of a.layout.model a.field.channel) =
    c.of-limits.ensures ∙ (λ i. limits_of (c.range_of.ensures i) (n i) (c.of-kind.ensures i)) in
    rw e refl
