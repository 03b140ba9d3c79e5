-- Document 01, "Card", with request A1's edition 3 and request A6's edition 4: the card's editions. Assumes nothing.
use Rattle.std.specs.Prelude.{ℕ, Bool, ◌&&◌, leb}

-- the newest edition
abbrev pub newest : ℕ
newest = 4

-- the editions there are: 1 to the newest
abbrev pub edition_known : ℕ → Bool
edition_known e = leb 1 e && leb e newest

-- an edition from 2 on knows of access; to an earlier one every card is closed
abbrev pub has_access : ℕ → Bool
has_access e = leb 2 e
