-- The values of a line of points of their own. Only private functions cite it, and a reader need not believe it: proofs/Own.antt shows that a layout's values are these where it is not of groups. Assumes nothing.
use Rattle.std.specs.Prelude.{ℕ, ◌*◌, ◌/◌, ◌%◌, List, Float, length}
use Rattle.lists.specs.Lists.{tabulate}
use Rattle.layout.specs.declared.Layout.{Layout}
use Rattle.scale.specs.Value.{value_of}
use Rattle.scales.specs.Channel.{scale_at}
use Rattle.line.specs.Line.{point_code}

-- value k
abbrev pub point_value : Layout → List ℕ → ℕ → Float
point_value l s k = value_of (scale_at l (k % 3)) (point_code l s k)

-- all values
abbrev pub point_values_of : Layout → List ℕ → List Float
point_values_of l s = tabulate (3 * (length s / l.bytes)) (point_value l s)
