-- The answer where the samples are right and state a range. Assumes nothing.
use mathlib.Core.Path.{◌≡◌, sym, ap}
use mathlib.Core.Bool.{true, not}
use Prim.Native.Nat.{ℕ, ◌+◌}
use Rattle.lists.proofs.Tests.{pass}
use Rattle.parameters.specs.declared.range.Range.{Range}
use Rattle.descriptor_samples.specs.declared.samples.Samples.{Samples}
use Rattle.descriptor_samples.specs.Samples.{samples_right, range_in}
use Rattle.std.specs.Prelude.{Some, Ok}
use Rattle.descriptor_layout.specs.Told.{layout_from, ranged, read_samples}

-- the layout of right samples that state a range
pub accepted : (model primaries bytes : ℕ) (s : Samples) → samples_right bytes s ≡ true → (range : Range) → range_in model (s.first.length + 1) s ≡ Some range
    → Ok (layout_from model primaries range bytes s) ≡ read_samples model primaries bytes s
unfolding read_samples
accepted model primaries bytes s r range e = sym (pass _ (ap not r) (ap (ranged model primaries bytes s) e))
