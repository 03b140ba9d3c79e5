-- The value that is read of a line. Only private functions cite it, and a reader need not believe it: proofs/Values.antt shows that it is `point_value`, and proofs/Own.antt that this is the line's value. Assumes nothing.
use Rattle.std.specs.Prelude.{ℕ, zero, suc, List, Float}
use Rattle.layout.specs.declared.Layout.{Layout}
use Rattle.scale.specs.declared.Scale.{Scale}
use Rattle.scale.specs.Value.{value_of}
use Rattle.scales.specs.Channel.{scale_at}
use Rattle.parameters.specs.declared.channels.Channels.{Channels}
use Rattle.field.specs.inner.Read.{read_at}

-- channel j of a point that begins at byte `at` of the line s
abbrev pub read_value : Layout → List ℕ → ℕ → ℕ → Float
read_value l s at j = value_of (scale_at l j) (read_at l s at j)

-- the scale of a channel (any other is taken for 2)
abbrev pub scale_in : Channels Scale → ℕ → Scale
scale_in scales zero = scales.channel0
scale_in scales (suc zero) = scales.channel1
scale_in scales (suc (suc channel)) = scales.channel2
