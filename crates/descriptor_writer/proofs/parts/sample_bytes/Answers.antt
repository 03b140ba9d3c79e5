-- `descriptor_writer::parts::sample_bytes` meets its contract: the stored numbers' bytes are the definition's. Assumes nothing.
use mathlib.Core.Path.{◌≡◌, refl}
use mathlib.Core.List.{[], ◌∷◌, ◌++◌}
use Prim.Native.Nat.{ℕ, ◌/◌, ◌%◌}
use native.Mathlib.Omega.{arith}
use Rattle.lists.specs.Bytes.{bytes_of}
use Rattle.descriptor_writer.specs.Sample.{sample_bytes}
use Rattle.descriptor_writer.proofs.parts.sample_bytes.Goals as goal

two : (x : ℕ) → x % 256 ∷ x / 256 % 256 ∷ [] ≡ bytes_of x 2
unfolding bytes_of
two x = refl

four : (x : ℕ) → x % 256 ∷ x / 256 % 256 ∷ x / 65536 % 256 ∷ x / 16777216 % 256 ∷ [] ≡ bytes_of x 4
unfolding bytes_of
four x =
    let p : x / 65536 ≡ x / 256 / 256 = omega arith in
    let q : x / 16777216 ≡ x / 256 / 256 / 256 = omega arith in
    rw (p, q) refl

pub returns : goal.returns
unfolding sample_bytes
returns c =
    let s = c.args.sample in
    rw (
      c.copy_from_slice.ensures.after,
      c.to_le_bytes.ensures,
      c.copy_from_slice-2.ensures.after,
      c.to_le_bytes-2.ensures,
      c.copy_from_slice-3.ensures.after,
      c.to_le_bytes-3.ensures,
      c.copy_from_slice-4.ensures.after,
      c.to_le_bytes-4.ensures,
    )
    (λ i. two s.offset i ++ (s.length ∷ s.channel ∷ (four s.position i ++ (four s.lower i ++ four s.upper i))))
