-- Every scale of the paper is one that f64 has room for. Assumes nothing.
use mathlib.Core.Path.{refl, sym}
use mathlib.Core.Bool.{true≢false}
use Prim.Native.Nat.{ℕ}
use native.Mathlib.Omega.{arith}
use Rattle.parameters.specs.declared.range.Range.{Range}
use Rattle.parameters.specs.declared.range.Range.TheVariants.{Narrow, Full, LegacyFull}
use Rattle.parameters.specs.declared.kind.Kind.{Kind}
use Rattle.parameters.specs.declared.kind.Kind.TheVariants.{Brightness, Difference}
use Rattle.parameters.proofs.Depths.{Steps}
use Rattle.scale.specs.Scale.{scale_of}
use Rattle.scale.proofs.Scales.{legacy_le}
use Rattle.float_scale.specs.inner.Floats.{Fine}

pub fine : (r : Range) (k : Kind) (n : ℕ) → Steps n → Fine (scale_of r n k)
unfolding scale_of
fine Narrow Brightness n h = record { some = omega arith; span = omega arith; base = omega arith; order = omega arith; high = omega arith; zero = λ e. absurd (true≢false (sym e)) }
fine Narrow Difference n h = record { some = omega arith; span = omega arith; base = omega arith; order = omega arith; high = omega arith; zero = λ e. absurd (true≢false (sym e)) }
fine Full Brightness n h = record { some = omega arith; span = omega arith; base = omega arith; order = omega arith; high = omega arith; zero = λ e. refl }
fine Full Difference n h = record { some = omega arith; span = omega arith; base = omega arith; order = omega arith; high = omega arith; zero = λ e. refl }
fine LegacyFull Brightness n h = record { some = omega arith; span = omega arith; base = omega arith; order = omega arith; high = omega (arith, legacy_le n); zero = λ e. absurd (true≢false (sym e)) }
fine LegacyFull Difference n h = record { some = omega arith; span = omega arith; base = omega arith; order = omega arith; high = omega (arith, legacy_le n); zero = λ e. absurd (true≢false (sym e)) }
