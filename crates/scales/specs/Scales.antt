-- Document 01, "Codes and floats": the scales of a layout's three channels. Assumes nothing.
use Rattle.std.specs.Prelude.{Bool, cond, Option, Some, None}
use Rattle.layout.specs.declared.Layout.{Layout}
use Rattle.parameters.specs.declared.channels.Channels.{Channels}
use Rattle.scale.specs.declared.Scale.{Scale}
use Rattle.scales.specs.Channel.{scale_at}

abbrev pub scales_of : Layout → Channels Scale
scales_of l = record { channel0 = scale_at l 0; channel1 = scale_at l 1; channel2 = scale_at l 2 }

-- or that there is no such layout, where it is not valid as one of its kind, of points or of groups
abbrev pub known_scales : Bool → Layout → Option (Channels Scale)
known_scales valid l = cond valid (Some (scales_of l)) None
