-- Lines of points of their own. Only contracts of private functions cite it, and a reader need not believe it: proofs/Own.antt shows that a layout's codes and packed bytes are these where it is not of groups. Assumes nothing.
use Rattle.std.specs.Prelude.{List, ℕ, ◌*◌, ◌/◌, length}
use Rattle.lists.specs.Lists.{tabulate}
use Rattle.layout.specs.declared.Layout.{Layout}
use Rattle.line.specs.Line.{point_code, point_byte}

-- the codes of a packed line of points
abbrev pub point_codes : Layout → List ℕ → List ℕ
point_codes l s = tabulate (3 * (length s / l.bytes)) (point_code l s)

-- a line of codes, packed to points
abbrev pub points_packed : Layout → List ℕ → List ℕ
points_packed l cs = tabulate (l.bytes * (length cs / 3)) (point_byte l cs)
