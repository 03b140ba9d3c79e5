-- What is claimed of descriptors, of the definitions that the contracts of `descriptor_reader::read` and `descriptor_writer::write` cite. proofs/Claims.antt proves each. Assumes nothing.
use Rattle.std.specs.Prelude.{ℕ, true, ◌≡◌, List, length, Ok, Err}
use Rattle.lists.specs.Bytes.{are_bytes}
use Rattle.layout.specs.declared.Layout.{Layout}
use Rattle.layout.specs.Layout.{grouped, valid_points}
use Rattle.descriptor_samples.specs.Size.{descriptor_size}
use Rattle.descriptor_reader.specs.Reading.{read_descriptor}
use Rattle.refusal.specs.declared.Refusal.TheVariants.{Outside}
use Rattle.descriptor_writer.specs.Writing.{descriptor_bytes, write_answer, write_output}

-- every element is a byte
abbrev pub Bytes : List ℕ → Type 0
Bytes b = are_bytes b ≡ true

-- the descriptor of a valid layout, of points of their own, is accepted, and tells the layout
abbrev pub Accepts : Type 0
Accepts = (l : Layout) → valid_points l ≡ true → read_descriptor (descriptor_bytes l) ≡ Ok l

-- and nothing else is: bytes that are accepted tell a valid layout, and are its descriptor
abbrev pub AcceptsNoOther : Type 0
AcceptsNoOther = (b : List ℕ) (l : Layout) → Bytes b → read_descriptor b ≡ Ok l → (valid_points l ≡ true) × (b ≡ descriptor_bytes l)

-- what writing a layout left is read as that layout
abbrev pub ReadsWhatWasWritten : Type 0
ReadsWhatWasWritten = (l : Layout) (out : List ℕ) → write_answer l (length out) ≡ (Ok tt) → read_descriptor (write_output l out) ≡ Ok l

-- writing a layout that was read leaves the bytes that were read
abbrev pub WritesWhatWasRead : Type 0
WritesWhatWasRead =
    (b : List ℕ) (l : Layout) (out : List ℕ) → Bytes b → read_descriptor b ≡ Ok l → length out ≡ descriptor_size
    → (write_answer l (length out) ≡ (Ok tt)) × (write_output l out ≡ b)

-- two valid layouts with one descriptor are one layout
abbrev pub OneLayout : Type 0
OneLayout = (l m : Layout) → valid_points l ≡ true → valid_points m ≡ true → descriptor_bytes l ≡ descriptor_bytes m → l ≡ m

-- two accepted descriptors that tell one layout are one descriptor
abbrev pub OneDescriptor : Type 0
OneDescriptor = (b c : List ℕ) (l : Layout) → Bytes b → Bytes c → read_descriptor b ≡ Ok l → read_descriptor c ≡ Ok l → b ≡ c

-- groups have no descriptor: writing one is refused by 9, and none that is accepted tells them (A6)
abbrev pub NoneOfGroups : Type 0
NoneOfGroups =
    (l : Layout) → grouped l ≡ true
    → ((out : List ℕ) → write_answer l (length out) ≡ Err Outside) × ((b : List ℕ) → Bytes b → read_descriptor b ≡ Ok l → ⊥)
