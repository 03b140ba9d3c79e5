-- What a line of values is encoded by: units of so many bytes, points of their own or groups of two. Assumes nothing.
use Rattle.std.specs.Prelude.{ℕ, ◌≡◌, ◌+◌, ◌*◌, ◌<◌, ◌≤◌}
use Rattle.lists.specs.Bytes.{byte_of}

-- units of 3 to 8 bytes, no more than 4,096; the bytes of their numbers are the line's; before the first no value is cut, and of all no more than a line has values
abbrev pub UnitFacts : ℕ → ℕ → (ℕ → ℕ) → (ℕ → ℕ) → (ℕ → ℕ) → Type 0
UnitFacts size count number byte cuts =
    (3 ≤ size) × (size ≤ 8) × (count ≤ 4096)
    × ((i j : ℕ) → i < count → j < size → byte_of (number i) j ≡ byte (size * i + j))
    × (0 ≡ cuts 0)
    × ((i : ℕ) → i ≤ count → cuts i ≤ 12288)
