-- The scales of a line in f64. Only private functions cite it, and a reader need not believe it. Assumes nothing.
use Rattle.std.specs.Prelude.{◌≡◌}
use Rattle.layout.specs.declared.Layout.{Layout}
use Rattle.scales.specs.Channel.{scale_at}
use Rattle.float_scale.specs.inner.Floats.{float_scale}
use Rattle.parameters.specs.declared.channels.Channels.{Channels}
use Rattle.scale.specs.declared.Scale.{Scale}
use Rattle.float_scale.specs.declared.FloatScale.{FloatScale}

abbrev pub float_scales : Channels Scale → Channels FloatScale
float_scales s = record { channel0 = float_scale s.channel0; channel1 = float_scale s.channel1; channel2 = float_scale s.channel2 }

-- the three scales are the layout's
pub record InFloats (l : Layout) (s : Channels FloatScale) : Type 0 where
  pub fitted0 : s.channel0 ≡ float_scale (scale_at l 0)
  pub fitted1 : s.channel1 ≡ float_scale (scale_at l 1)
  pub fitted2 : s.channel2 ≡ float_scale (scale_at l 2)
