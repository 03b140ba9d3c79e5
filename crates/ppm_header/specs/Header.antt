-- Request A7: what the header at the front of a text says. The numbers are taken where they would stand, and the header of these numbers is what must stand there: specs/Claims.antt says that exactly our form is accepted. Assumes nothing.
use Rattle.std.specs.Prelude.{ℕ, zero, suc, ◌+◌, ◌-◌, ◌*◌, Bool, true, false, cond, ◌&&◌, ◌||◌, List, [], ◌∷◌, eqb, leb, length, drop, Result, Ok, Err}
use Rattle.text_writer.specs.Decimal.{digit, decimal}
use Rattle.refusal.specs.declared.Refusal.TheVariants.{WrongPicture}
use Rattle.refusal.specs.declared.Refusal.{Refusal}
use Rattle.ppm_header.specs.declared.Header.{Header}
use Rattle.ppm_header.specs.Text.{header_text}

-- ---- the numbers of a header

-- the largest side of a picture, whatever sides a card may have
abbrev pub largest_picture_side : ℕ
largest_picture_side = 4096

-- so that no picture has more points
abbrev pub most_picture_points : ℕ
most_picture_points = 4096 * 4096

-- the sides that a picture may have: 1 to the largest
abbrev pub side_taken : ℕ → Bool
side_taken side = leb 1 side && leb side largest_picture_side

-- the largest codes of 8, 10 and 12 bits; PPM's own papers call this number maxval
abbrev pub top_known : ℕ → Bool
top_known top = eqb top 255 || eqb top 1023 || eqb top 4095

-- numbers that a header may have
abbrev pub header_known : ℕ → ℕ → ℕ → Bool
header_known width height top = side_taken width && side_taken height && top_known top

-- ---- what stands in a text

-- a byte is a digit
abbrev pub is_digit : ℕ → Bool
is_digit b = leb (digit 0) b && leb b (digit 9)

-- the number of the digits that a text begins with, at most k of them, after digits that stand for a
unfoldable pub leading : ℕ → ℕ → List ℕ → ℕ
leading zero a s = a
leading (suc k) a [] = a
leading (suc k) a (b ∷ s) = cond (is_digit b) (leading k (10 * a + (b - digit 0)) s) a

-- the number from index at on: no side and no largest code has more than four digits
abbrev pub number_from : List ℕ → ℕ → ℕ
number_from s at = leading 4 0 (drop at s)

-- a text begins with another
unfoldable pub begins : List ℕ → List ℕ → Bool
begins [] s = true
begins (b ∷ t) [] = false
begins (b ∷ t) (c ∷ s) = eqb c b && begins t s

-- ---- what a header says

-- the answer for three numbers: they are what the text says if a header may have them, and theirs is what the text begins with; else 18
unfoldable pub header_of : List ℕ → ℕ → ℕ → ℕ → Result Header Refusal
header_of s width height top =
    let text = header_text width height top in
    cond (header_known width height top && begins text s) (Ok (record { width = width; height = height; top = top; length = length text })) (Err WrongPicture)

-- the width stands behind `P6` and its newline, the height behind the width and a space, the largest code behind the height and a newline
unfoldable pub read_header : List ℕ → Result Header Refusal
read_header s =
    let width = number_from s 3 in
    let at_height = 3 + length (decimal width) + 1 in
    let height = number_from s at_height in
    let at_top = at_height + length (decimal height) + 1 in
    header_of s width height (number_from s at_top)
