-- Lines of groups. Only contracts of private functions cite it, and a reader need not believe it: proofs/Grouped.antt shows that the codes and packed bytes of a layout of groups are these. Assumes nothing.
use Rattle.std.specs.Prelude.{cond, List, ℕ, ◌-◌, ◌*◌, ◌/◌, length, get_or}
use Rattle.lists.specs.Lists.{tabulate}
use Rattle.line.specs.Group.{group_code, group_byte, second_color}

-- the codes of a packed line of groups
abbrev pub group_codes : List ℕ → List ℕ
group_codes s = tabulate (6 * (length s / 4)) (group_code s)

-- a line of codes, packed to groups
abbrev pub groups_packed : List ℕ → List ℕ
groups_packed cs = tabulate (4 * (length cs / 6)) (group_byte cs)

-- a line with each second point's colour replaced by the first's
abbrev pub group_shared : {A : Type 0} → A → List A → List A
group_shared d xs = tabulate (length xs) (λ k. get_or xs (cond (second_color k) (k - 3) k) d)
