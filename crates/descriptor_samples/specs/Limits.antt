-- The numbers of a range: document 01, "Descriptor", with s = 2^(n-8), and request A1. Assumes nothing.
use Rattle.std.specs.Prelude.{ℕ, ◌*◌, ◌^◌}
use Rattle.parameters.specs.declared.range.Range.{Range}
use Rattle.parameters.specs.declared.range.Range.TheVariants.{Narrow, Full, LegacyFull}
use Rattle.parameters.specs.declared.kind.Kind.{Kind}
use Rattle.parameters.specs.declared.kind.Kind.TheVariants.{Brightness, Difference}
use Rattle.parameters.specs.Parameters.{step_of, top_of}
use Rattle.descriptor_samples.specs.declared.limits.Limits.{Limits}

-- narrow is lower 16s, full is 0, and so is A1's range
abbrev pub lower_of : Range → ℕ → ℕ
lower_of Narrow n = 16 * step_of n
lower_of Full n = 0
lower_of LegacyFull n = 0

-- narrow is upper 235s, but 240s for Cb and Cr; full is 2^n - 1, and A1's range 2^n
abbrev pub upper_of : Range → ℕ → Kind → ℕ
upper_of Narrow n Brightness = 235 * step_of n
upper_of Narrow n Difference = 240 * step_of n
upper_of Full n kind = top_of n
upper_of LegacyFull n kind = 2 ^ n

-- both
abbrev pub limits_of : Range → ℕ → Kind → Limits
limits_of range n kind = record { lower = lower_of range n; upper = upper_of range n kind }
