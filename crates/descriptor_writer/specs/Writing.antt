-- Document 01, "Descriptor": its 76 bytes, and what writing one answers and leaves in the output. Assumes nothing.
use Rattle.std.specs.Prelude.{ℕ, not, cond, List, ◌∷◌, ◌++◌, eqb, length, replicate, Result, Ok, Err, is_ok, ⊤}
use Rattle.lists.specs.Lists.{new_or_kept}
use Rattle.lists.specs.Bytes.{bytes_of}
use Rattle.layout.specs.declared.Layout.{Layout}
use Rattle.layout.specs.Layout.{valid_points}
use Rattle.descriptor_samples.specs.Size.{descriptor_size}
use Rattle.refusal.specs.declared.Refusal.TheVariants.{Outside, WrongLineOrOutput}
use Rattle.refusal.specs.declared.Refusal.{Refusal}
use Rattle.descriptor_writer.specs.Sample.{sample_bytes, samples_of}

-- bytes 0 to 27: at 0 the total size, at 4 vendor and type, at 8 the version, at 10 the block size; at 12 model, primaries, transfer (ITU) and flags; at 16 zeros, at 20 the bytes a point, and zeros
unfoldable pub front_bytes : Layout → List ℕ
front_bytes l =
    bytes_of descriptor_size 4
    ++ (bytes_of 0 4
    ++ (bytes_of 1 2
    ++ (bytes_of 72 2
    ++ (l.model ∷ l.primaries ∷ 3 ∷ 0
    ∷ 0 ∷ 0 ∷ 0 ∷ 0
    ∷ l.bytes ∷ replicate 7 0))))

-- bytes 28 to 75: the samples, in rising bit offset
unfoldable pub samples_bytes : Layout → List ℕ
samples_bytes l =
    let s = samples_of l in
    sample_bytes s.first ++ (sample_bytes s.second ++ sample_bytes s.third)

-- all 76
unfoldable pub descriptor_bytes : Layout → List ℕ
descriptor_bytes l = front_bytes l ++ samples_bytes l

-- writing into so many bytes: 9, for groups too (A6), then 13
unfoldable pub write_answer : Layout → ℕ → Result ⊤ Refusal
write_answer l bytes =
    cond (not (valid_points l)) (Err Outside)
    (cond (not (eqb bytes descriptor_size)) (Err WrongLineOrOutput)
    (Ok tt))

-- the bytes after writing
unfoldable pub write_output : Layout → List ℕ → List ℕ
write_output l before = new_or_kept (is_ok (write_answer l (length before))) (descriptor_bytes l) before
