-- Document 01, "Card": the numbers of access, and what an edition takes byte 24 of a card for, by the edition that wrote it. Assumes nothing.
use Rattle.std.specs.Prelude.{ℕ, Bool, not, cond, ◌&&◌, leb}
use Rattle.card_edition.specs.Edition.{has_access}

-- access: 0 closed, 1 community, 2 open
abbrev pub closed : ℕ
closed = 0

abbrev pub community : ℕ
community = 1

abbrev pub opened : ℕ
opened = 2

abbrev pub access_known : ℕ → Bool
access_known access = leb access opened

-- what is shown of it: the access as it stands where both editions have access, and closed where one has not or it is no access
unfoldable pub access_of : ℕ → ℕ → ℕ → ℕ
access_of writer access e = cond (has_access writer && has_access e && access_known access) access closed

-- the table holds for bytes 24 to 31: written at 2 or later, and not later than it is read (written at 2 and read at 2, 3 or 4, and so on)
abbrev pub table_holds : ℕ → ℕ → Bool
table_holds writer e = has_access writer && leb writer e

-- row 10: there byte 24 must be an access, and is none
unfoldable pub access_unknown : ℕ → ℕ → ℕ → Bool
access_unknown writer access e = table_holds writer e && not (access_known access)
