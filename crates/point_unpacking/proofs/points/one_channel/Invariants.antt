-- `point_unpacking::one_channel` meets its contract: each turn stores one code. Assumes nothing.
use mathlib.Core.Path.{◌≡◌}
use Prim.Native.Nat.{◌+◌, ◌*◌}
use Rattle.line.specs.Line.{point_code}
use Rattle.line.specs.inner.Channels.{channel_written}
use Rattle.point_unpacking.proofs.points.one_channel.Given as goal

abbrev pub invariant-loop-i : goal.invariant-loop-i
invariant-loop-i l = (l.at ≡ l.i * l.layout.bytes + l.field.first) × (l.codes ≡ channel_written l.initial.codes (point_code l.layout l.packed) l.channel l.i)
