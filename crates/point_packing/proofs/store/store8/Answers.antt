-- `point_packing::store8` meets its contract. Assumes nothing.
use mathlib.Core.Path.{refl, ap, ◌∙◌}
use mathlib.Core.List.{List}
use Prim.Native.Nat.{ℕ, ◌+◌}
use lib.ListN.{length, get_or}
use Rattle.lists.specs.Bytes.{byte_of}
use Rattle.line.proofs.Stores.{copied}
use Rattle.point_packing.proofs.Bytes.{low_bytes}
use Rattle.point_packing.proofs.store.store8.Goals as goal

pub returns : goal.returns
returns c = let a = c.args in
    let same = c.copy_from_slice.ensures.after ∙ c.to_le_bytes.ensures in
    copied 0 a.out.now a.at (byte_of a.v) c.copy_from_slice.new.self 8 (a.at + 8) refl c.requires (ap length same)
    (λ j h. ap (λ (bs : List ℕ). get_or bs j 0) same ∙ low_bytes a.v j h)
