-- `point_decoding::channels` meets its contract: each turn stores one channel. Assumes nothing.
use mathlib.Core.Path.{◌∙◌}
use native.Mathlib.Omega.{arith}
use lib.Ieee.{nan}
use Rattle.point_decoding.specs.inner.Points.{point_value}
use Rattle.line.proofs.Channels.{channels_none, channels_more, channels_all}
use Rattle.point_decoding.proofs.Values.{values-whole}
use Rattle.point_decoding.proofs.points.channels.Goals as goal

pub loop-k-init : goal.loop-k-init
loop-k-init c = let a = c.args in
    channels_none (point_value a.layout a.packed.now) a.out.now a.n

pub loop-k-preserved : goal.loop-k-preserved
loop-k-preserved c = let l = c.loop-k in
    let a = c.args in
    channels_more (point_value a.layout a.packed.now) a.out.now l.out _ a.n l.k l.invariant c.one_channel.ensures

pub returns : goal.returns
returns c = let a = c.args in
    let l = c.loop-k in
    channels_all (point_value a.layout a.packed.now) nan a.out.now l.out a.n l.k (omega arith) c.requires.packed_len.1 l.invariant
    ∙ values-whole a.layout a.packed.now a.n c.requires.layout_value.0 c.requires.packed_len.0
