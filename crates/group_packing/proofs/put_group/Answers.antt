-- `group_packing::put_group` meets its contract. Assumes nothing.
use Prim.Native.Nat.{◌+◌, ◌*◌}
use native.Mathlib.Omega.{arith}
use Rattle.group_packing.proofs.Bytes.{four_bytes}
use Rattle.group_packing.proofs.Small.{small_if_within}
use Rattle.group_packing.proofs.put_group.Goals as goal

pub overflow_cast-y0 : goal.overflow_cast-y0
overflow_cast-y0 c = omega (arith, small_if_within c.args.codes.now c.requires.codes_value (6 * c.args.i) (omega arith) (omega arith))

pub overflow_cast-cb : goal.overflow_cast-cb
overflow_cast-cb c = omega (arith, small_if_within c.args.codes.now c.requires.codes_value (6 * c.args.i + 1) (omega arith) (omega arith))

pub overflow_cast-cr : goal.overflow_cast-cr
overflow_cast-cr c = omega (arith, small_if_within c.args.codes.now c.requires.codes_value (6 * c.args.i + 2) (omega arith) (omega arith))

pub overflow_cast-y1 : goal.overflow_cast-y1
overflow_cast-y1 c = omega (arith, small_if_within c.args.codes.now c.requires.codes_value (6 * c.args.i + 3) (omega arith) (omega arith))

pub returns : goal.returns
returns c = four_bytes c.args.codes.now c.args.out.now c.args.i
