-- Codes of groups that fit a byte. Only contracts of private functions cite it, and a reader need not believe it: proofs/Answers.antt shows that it is the layout's test. Assumes nothing.
use Rattle.std.specs.Prelude.{ℕ, ◌+◌, ◌*◌, Bool, ◌&&◌, List, leb, get_or}
use Rattle.lists.specs.Lists.{every}
use Rattle.line.specs.inner.Groups.{group_shared}

-- the four of group i that are packed do
abbrev pub group_within : List ℕ → ℕ → Bool
group_within cs i = leb (get_or cs (6 * i) 0) 255 && leb (get_or cs (6 * i + 1) 0) 255 && leb (get_or cs (6 * i + 2) 0) 255 && leb (get_or cs (6 * i + 3) 0) 255

-- those of all groups do: all but the second points' colours
abbrev pub groups_within : List ℕ → Bool
groups_within cs = every (λ c. leb c 255) (group_shared 0 cs)
