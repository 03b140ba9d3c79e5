-- A layout that is not of groups: its values are those of points of their own. Assumes nothing.
use mathlib.Core.Path.{◌≡◌, ap, ◌∙◌}
use mathlib.Core.Bool.{false}
use mathlib.Core.List.{List}
use Prim.Native.Nat.{ℕ, ◌*◌, ◌%◌}
use lib.Ieee.{nan}
use lib.ListN.{length}
use Rattle.lists.specs.Lists.{tabulate}
use Rattle.lists.proofs.Lists.{tabulate_same}
use Rattle.layout.specs.declared.Layout.{Layout}
use Rattle.layout.specs.Layout.{grouped}
use Rattle.scale.specs.Value.{value_of}
use Rattle.scales.specs.Channel.{scale_at}
use Rattle.line.specs.Line.{points_in}
use Rattle.line.proofs.Own.{own_points, own_code}
use Rattle.line_values.specs.Decode.{value_at, values_of}
use Rattle.point_decoding.specs.inner.Points.{point_value, point_values_of}

module _ (l : Layout) (own : grouped l ≡ false) (s : List ℕ) where
  own_value : (k : ℕ) → value_at l s k ≡ point_value l s k
  unfolding value_at
  own_value k = ap (value_of (scale_at l (k % 3))) (own_code l own s k)

  pub own_values : values_of l s ≡ point_values_of l s
  unfolding values_of
  own_values = tabulate_same nan (3 * points_in l (length s)) (value_at l s) (point_value l s) (λ k h. own_value k) ∙ ap (λ (n : ℕ). tabulate (3 * n) (point_value l s)) (own_points l own (length s))
