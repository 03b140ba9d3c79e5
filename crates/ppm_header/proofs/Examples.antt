-- Worked examples: headers that are accepted, with what they say, and texts that are nearly one; computed from the definitions. Assumes nothing.
use Prim.Native.Nat.{ℕ}
use mathlib.Core.Path.{◌≡◌, refl}
use mathlib.Core.List.{List, [], ◌∷◌, ◌++◌}
use lib.ListN.{take}
use Rattle.text_writer.specs.Decimal.{digits, decimal}
use Rattle.ppm_header.specs.Text.{sides_text, header_text}
use Rattle.std.specs.Prelude.{Ok, Err}
use Rattle.refusal.specs.declared.Refusal.TheVariants.{WrongPicture}
use Rattle.ppm_header.specs.Header.{leading, begins, header_of, read_header}

-- `P6`, `1 1`, `255`
abbrev smallest : List ℕ
smallest = 80 ∷ 54 ∷ 10 ∷ 49 ∷ 32 ∷ 49 ∷ 10 ∷ 50 ∷ 53 ∷ 53 ∷ 10 ∷ []

-- `P6`, `4096 4096`, `4095`
abbrev largest : List ℕ
largest = 80 ∷ 54 ∷ 10 ∷ 52 ∷ 48 ∷ 57 ∷ 54 ∷ 32 ∷ 52 ∷ 48 ∷ 57 ∷ 54 ∷ 10 ∷ 52 ∷ 48 ∷ 57 ∷ 53 ∷ 10 ∷ []

-- `P6`, a width, a space and `1`, a largest code
abbrev with : List ℕ → List ℕ → List ℕ
with width top = 80 ∷ 54 ∷ 10 ∷ (width ++ (32 ∷ 49 ∷ 10 ∷ (top ++ (10 ∷ []))))

-- `1`, and `255`
abbrev one : List ℕ
one = 49 ∷ []

abbrev full : List ℕ
full = 50 ∷ 53 ∷ 53 ∷ []

-- what follows a header is not looked at, were it a digit or a newline
pub accepted : (header_text 1 1 255 ≡ smallest)
    × (read_header smallest ≡ Ok (record { width = 1; height = 1; top = 255; length = 11 }))
    × (read_header (with one full ++ (49 ∷ 10 ∷ [])) ≡ Ok (record { width = 1; height = 1; top = 255; length = 11 }))
    × (read_header (with (49 ∷ 48 ∷ []) (49 ∷ 48 ∷ 50 ∷ 51 ∷ [])) ≡ Ok (record { width = 10; height = 1; top = 1023; length = 13 }))
    × (header_text 4096 4096 4095 ≡ largest)
    × (read_header largest ≡ Ok (record { width = 4096; height = 4096; top = 4095; length = 18 }))
unfolding read_header header_of leading begins header_text sides_text decimal digits
accepted = (refl, refl, refl, refl, refl, refl)

abbrev NotOurs : List ℕ → Type 0
NotOurs s = read_header s ≡ Err WrongPicture

-- numbers: `01`, `+1`, no digit, `0`, `4097`, `10000`, of which four digits would do; `0255`, `256`, `1024`
pub numbers : NotOurs (with (48 ∷ 49 ∷ []) full)
    × NotOurs (with (43 ∷ 49 ∷ []) full)
    × NotOurs (with [] full)
    × NotOurs (with (48 ∷ []) full)
    × NotOurs (with (52 ∷ 48 ∷ 57 ∷ 55 ∷ []) full)
    × NotOurs (with (49 ∷ 48 ∷ 48 ∷ 48 ∷ 48 ∷ []) full)
    × NotOurs (with one (48 ∷ 50 ∷ 53 ∷ 53 ∷ []))
    × NotOurs (with one (50 ∷ 53 ∷ 54 ∷ []))
    × NotOurs (with one (49 ∷ 48 ∷ 50 ∷ 52 ∷ []))
unfolding read_header header_of leading begins header_text sides_text decimal digits
numbers = (refl, refl, refl, refl, refl, refl, refl, refl, refl)

-- lines: two spaces; a carriage return before the last newline; a line `#` of comment; `P5`, and then `P6` and a space in the place of its newline; the last newline missing; `P6` alone; nothing
pub lines : NotOurs (with (49 ∷ 32 ∷ []) full)
    × NotOurs (with one (50 ∷ 53 ∷ 53 ∷ 13 ∷ []))
    × NotOurs (with (35 ∷ 10 ∷ 49 ∷ []) full)
    × NotOurs (80 ∷ 53 ∷ 10 ∷ 49 ∷ 32 ∷ 49 ∷ 10 ∷ 50 ∷ 53 ∷ 53 ∷ 10 ∷ [])
    × NotOurs (80 ∷ 54 ∷ 32 ∷ 49 ∷ 32 ∷ 49 ∷ 10 ∷ 50 ∷ 53 ∷ 53 ∷ 10 ∷ [])
    × NotOurs (take 10 smallest)
    × NotOurs (take 2 smallest)
    × NotOurs []
unfolding read_header header_of leading begins header_text sides_text decimal digits
lines = (refl, refl, refl, refl, refl, refl, refl, refl)
