-- Document 01, "Codes and floats": the scale of a channel, by the paper's numbers. Assumes nothing.
use Rattle.std.specs.Prelude.{ℕ, Bool, cond, ◌&&◌, Option, Some, None}
use Rattle.layout.specs.declared.Layout.{Layout}
use Rattle.parameters.specs.Parameters.{model_known, range_known, range_of, depth_known, channel_known, kind_of}
use Rattle.scale.specs.declared.Scale.{Scale}
use Rattle.scale.specs.Scale.{scale_of}

-- the paper has this channel, at this range and depth n
abbrev pub channel_known_at : ℕ → ℕ → ℕ → ℕ → Bool
channel_known_at model range n channel = model_known model && range_known range && depth_known n && channel_known channel

-- its scale
abbrev pub channel_scale : ℕ → ℕ → ℕ → ℕ → Scale
channel_scale model range n channel = scale_of (range_of range) n (kind_of model channel)

-- or that there is none
abbrev pub known_scale : ℕ → ℕ → ℕ → ℕ → Option Scale
known_scale model range n channel = cond (channel_known_at model range n channel) (Some (channel_scale model range n channel)) None

-- the scale of channel j of a layout
abbrev pub scale_at : Layout → ℕ → Scale
scale_at l j = channel_scale l.model l.range l.depth j
