-- `point_decoding::one_channel` meets its contract: each turn stores one value. Assumes nothing.
use mathlib.Core.Path.{◌≡◌}
use Prim.Native.Nat.{◌+◌, ◌*◌, ◌-◌, ◌≤◌}
use Rattle.point_decoding.specs.inner.Points.{point_value}
use Rattle.line.specs.inner.Channels.{channel_written}
use Rattle.point_decoding.proofs.points.one_channel.Given as goal

abbrev pub invariant-loop-i : goal.invariant-loop-i
invariant-loop-i l = (l.at ≡ l.i * l.layout.bytes + l.field.first) × (l.out ≡ channel_written l.initial.out (point_value l.layout l.packed) l.channel l.i)
