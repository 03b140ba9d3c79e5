-- `point_unpacking::channels` meets its contract: each turn stores one channel. Assumes nothing.
use mathlib.Core.Path.{◌∙◌}
use native.Mathlib.Omega.{arith}
use Rattle.line.specs.Line.{point_code}
use Rattle.line.proofs.Channels.{channels_none, channels_more, channels_all}
use Rattle.point_unpacking.proofs.Codes.{codes-whole}
use Rattle.point_unpacking.proofs.points.channels.Goals as goal

pub loop-channel-init : goal.loop-channel-init
loop-channel-init c = let a = c.args in
    channels_none (point_code a.layout a.packed.now) a.codes.now a.n

pub loop-channel-preserved : goal.loop-channel-preserved
loop-channel-preserved c = let l = c.loop-channel in
    let a = c.args in
    channels_more (point_code a.layout a.packed.now) a.codes.now l.codes _ a.n l.channel l.invariant c.one_channel.ensures

pub returns : goal.returns
returns c = let a = c.args in
    let l = c.loop-channel in
    channels_all (point_code a.layout a.packed.now) 0 a.codes.now l.codes a.n l.channel (omega arith) c.requires.packed_len.1 l.invariant
    ∙ codes-whole a.layout a.packed.now a.n c.requires.layout_value c.requires.packed_len.0
