-- What a line's private functions ask of the scales that they are given. Only private functions cite it, and a reader need not believe it. Assumes nothing.
use Rattle.std.specs.Prelude.{◌≡◌}
use Rattle.layout.specs.declared.Layout.{Layout}
use Rattle.parameters.specs.declared.channels.Channels.{Channels}
use Rattle.scale.specs.declared.Scale.{Scale}
use Rattle.scales.specs.Channel.{scale_at}

-- the three scales are the layout's
pub record Fitted (l : Layout) (s : Channels Scale) : Type 0 where
  pub fitted0 : s.channel0 ≡ scale_at l 0
  pub fitted1 : s.channel1 ≡ scale_at l 1
  pub fitted2 : s.channel2 ≡ scale_at l 2
