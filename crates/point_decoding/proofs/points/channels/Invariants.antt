-- `point_decoding::channels` meets its contract: each turn stores one channel. Assumes nothing.
use mathlib.Core.Path.{◌≡◌}
use Prim.Native.Nat.{◌-◌, ◌≤◌}
use Rattle.point_decoding.specs.inner.Points.{point_value}
use Rattle.line.specs.inner.Channels.{channels_written}
use Rattle.point_decoding.proofs.points.channels.Given as goal

abbrev pub invariant-loop-k : goal.invariant-loop-k
invariant-loop-k l = l.out ≡ channels_written l.initial.out (point_value l.layout l.packed) l.n l.k
