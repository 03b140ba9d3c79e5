-- Request A6: 8-bit groups of four bytes, Cb, Y', Cr, Y', for two points that share their colour. Assumes nothing.
use Rattle.std.specs.Prelude.{ℕ, zero, suc, ◌+◌, ◌*◌, ◌/◌, ◌%◌, Bool, List, leb, get_or}

-- the byte of a group that holds its code j: Y', Cb, Cr of the first point, then Y', Cb, Cr of the second
abbrev pub byte_of_code : ℕ → ℕ
byte_of_code zero = 1
byte_of_code (suc zero) = 0
byte_of_code (suc (suc zero)) = 2
byte_of_code (suc (suc (suc zero))) = 3
byte_of_code (suc (suc (suc (suc zero)))) = 0
byte_of_code (suc (suc (suc (suc (suc _))))) = 2

-- the code of the two points that byte j of their group is: the colour is that of the first
abbrev pub code_of_byte : ℕ → ℕ
code_of_byte zero = 1
code_of_byte (suc zero) = 0
code_of_byte (suc (suc zero)) = 2
code_of_byte (suc (suc (suc _))) = 3

-- code k of a packed line of groups: code k % 6 of group k / 6
unfoldable pub group_code : List ℕ → ℕ → ℕ
group_code s k = get_or s (4 * (k / 6) + byte_of_code (k % 6)) 0

-- byte k of a line of codes, packed to groups: byte k % 4 of group k / 4
unfoldable pub group_byte : List ℕ → ℕ → ℕ
group_byte cs k = get_or cs (6 * (k / 4) + code_of_byte (k % 4)) 0

-- element k of a line of codes or values, six a group, is the colour of a second point
abbrev pub second_color : ℕ → Bool
second_color k = leb 4 (k % 6)
