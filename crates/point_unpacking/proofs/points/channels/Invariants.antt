-- `point_unpacking::channels` meets its contract: each turn stores one channel. Assumes nothing.
use mathlib.Core.Path.{◌≡◌}
use Rattle.line.specs.Line.{point_code}
use Rattle.line.specs.inner.Channels.{channels_written}
use Rattle.point_unpacking.proofs.points.channels.Given as goal

abbrev pub invariant-loop-channel : goal.invariant-loop-channel
invariant-loop-channel l = l.codes ≡ channels_written l.initial.codes (point_code l.layout l.packed) l.n l.channel
