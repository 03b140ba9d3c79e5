-- `point_packing::store_low` meets its contract: each turn stores one byte more. Assumes nothing.
use mathlib.Core.Path.{◌≡◌}
use Prim.Native.Nat.{◌/◌, ◌^◌}
use Rattle.lists.specs.inner.Stores.{written}
use Rattle.lists.specs.Bytes.{byte_of}
use Rattle.point_packing.proofs.store.store_low.Given as goal

abbrev pub invariant-loop-j : goal.invariant-loop-j
invariant-loop-j l = (l.rest ≡ l.v / 256 ^ l.j) × (l.out ≡ written l.initial.out l.at (byte_of l.v) l.j)
