-- Claims about headers (request A7): our form is accepted, and no other. proofs/Claims.antt proves each. Assumes nothing.
use Rattle.std.specs.Prelude.{ℕ, true, ◌≡◌, List, ◌++◌, length, drop, Ok, Err}
use Rattle.ppm_header.specs.Text.{header_text}
use Rattle.refusal.specs.declared.Refusal.TheVariants.{WrongPicture}
use Rattle.refusal.specs.declared.Refusal.{Refusal}
use Rattle.ppm_header.specs.Header.{header_known, read_header}

-- the header of allowed numbers, with any bytes behind it, gives them back, and where it ends
abbrev pub ReadBack : Type 0
ReadBack = (width height top : ℕ) (rest : List ℕ) → header_known width height top ≡ true
    → read_header (header_text width height top ++ rest) ≡ Ok (record { width = width; height = height; top = top; length = (length (header_text width height top)) })

-- a text that is accepted begins with the header of what it gave, whose numbers are allowed, and which ends where it says
abbrev pub NoOther : Type 0
NoOther = (s : List ℕ) (width height top n : ℕ) → read_header s ≡ Ok (record { width = width; height = height; top = top; length = n })
    → (header_known width height top ≡ true) × (n ≡ length (header_text width height top)) × (s ≡ header_text width height top ++ drop n s)

-- a refusal is 18
abbrev pub RefusedBy18 : Type 0
RefusedBy18 = (s : List ℕ) (k : Refusal) → read_header s ≡ Err k → k ≡ WrongPicture
