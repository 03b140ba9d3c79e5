-- `ppm_import::blocks::points` meets its contract: each turn packs one block. Assumes nothing.
use Prim.Native.Nat.{◌+◌, ◌*◌, ◌≤◌, ◌<◌}
use mathlib.Core.Path.{refl, ◌∙◌}
use native.Mathlib.Omega.{arith}
use lib.ListN.{take}
use lib.Seq.{length-take-le, length_front}
use Rattle.ppm_import.proofs.Block.{packed_none, packed_more}
use Rattle.ppm_import.proofs.blocks.points.Goals as goal

pub loop-i-init : goal.loop-i-init
loop-i-init c = (omega arith, packed_none c.requires c.code_bytes-each.ensures, refl)

pub loop-i-preserved : goal.loop-i-preserved
loop-i-preserved c =
    let block_size : (c.min-k.result ≤ 256) × (c.loop-i.i + c.min-k.result ≤ c.args.n) × (0 < c.min-k.result) = let m = c.min-k.ensures in (omega (arith, m), omega (arith, m), omega (arith, m)) in
    let k = block_size in (
      k.1,
      packed_more c.requires c.code_bytes-each.ensures
          c.loop-i.i c.min-k.result (take (3 * c.min-k.result) c.loop-i.codes) k.1 (omega (arith, k)) (length-take-le _ _ (omega (arith, k, c.loop-i.invariant.2))) c.block.ensures c.loop-i.invariant.1,
      length_front c.loop-i.codes c.block.new.codes (3 * c.min-k.result) c.block.auto.codes ∙ c.loop-i.invariant.2,
    )
