-- A line's values filled in point by point. Assumes nothing.
use mathlib.Core.Path.{◌≡◌, refl, sym, ap, ap₂, ◌∙◌}
use mathlib.Core.Bool.{true}
use mathlib.Core.List.{List}
use Prim.Native.Nat.{ℕ, zero, suc, ◌+◌, ◌*◌, ◌%◌, ◌≤◌, ◌<◌}
use native.Mathlib.Omega.{arith}
use lib.Ieee.{Float, nan}
use lib.ListN.{length}
use Rattle.lists.specs.Lists.{tabulate}
use Rattle.lists.specs.Bytes.{are_bytes}
use Rattle.lists.specs.inner.Stores.{written}
use Rattle.lists.proofs.Filled.{Filled, filled_more}
use Rattle.layout.specs.declared.Layout.{Layout}
use Rattle.layout.specs.Layout.{valid_points}
use Rattle.layout.proofs.Facts.{points_say}
use Rattle.scale.specs.declared.Scale.{Scale}
use Rattle.scale.specs.Value.{value_of}
use Rattle.scales.specs.Channel.{scale_at}
use Rattle.scales.specs.inner.Fitted.{Fitted}
use Rattle.line.specs.Line.{point_code}
use Rattle.line.proofs.Points.{point_count, filled_points}
use Rattle.field.proofs.Line.{code_read, point_reaches}
use Rattle.point_decoding.specs.inner.Points.{point_value, point_values_of}
use Rattle.parameters.specs.declared.channels.Channels.{Channels}
use Rattle.point_decoding.specs.inner.Read.{read_value, scale_in}

-- value 3 i + j is that of code 3 i + j
pub value_of_lem : (l : Layout) (s : List ℕ) (i j : ℕ) {sc : Scale} {c : ℕ} → j < 3 → sc ≡ scale_at l j → c ≡ point_code l s (3 * i + j) → value_of sc c ≡ point_value l s (3 * i + j)
value_of_lem l s i j h e q =
    let r : j ≡ (3 * i + j) % 3 = omega arith in
    ap₂ value_of (e ∙ ap (scale_at l) r) q

-- a line of n points
module _ (l : Layout) (s : List ℕ) (n : ℕ) (ok : valid_points l ≡ true) (whole : length s ≡ l.bytes * n) where
  -- one turn of a loop
  pub values_more : (out xs ys : List Float) (i at : ℕ) → are_bytes s ≡ true → length out ≡ 3 * n → i < n → at ≡ i * l.bytes → Filled out (point_value l s) (3 * i) xs
      → ys ≡ written xs (3 * i) (read_value l s at) 3 → Filled out (point_value l s) (3 * (i + 1)) ys
  values_more out xs ys i at are long h e f g =
      filled_more (read_value l s at) 3 (omega arith) (omega arith) (λ j k. value_of_lem l s i j k refl (code_read l s ok are i j at k e (point_reaches l ok n (length s) whole i at h e))) f g

  -- the line's points are n
  pub values-whole : tabulate (3 * n) (point_value l s) ≡ point_values_of l s
  values-whole = ap (λ (m : ℕ). tabulate (3 * m) (point_value l s)) (sym (point_count l s n (omega (arith, (points_say l ok).bytes_least)) whole))

  -- all turns
  pub values-all : (out xs : List Float) (i : ℕ) → length out ≡ 3 * n → n ≤ i → i ≤ n → Filled out (point_value l s) (3 * i) xs → xs ≡ point_values_of l s
  values-all out xs i long lo hi f = filled_points nan long lo hi f ∙ values-whole
