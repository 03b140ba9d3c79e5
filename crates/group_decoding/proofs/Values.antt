-- A line's values filled in group by group. Assumes nothing.
use mathlib.Core.Path.{◌≡◌, refl, sym, ap, ap₂, ◌∙◌}
use mathlib.Core.Bool.{true}
use mathlib.Core.List.{List}
use Prim.Native.Nat.{ℕ, ◌+◌, ◌*◌, ◌/◌, ◌%◌, ◌<◌}
use native.Mathlib.Nat.{add-zero}
use native.Mathlib.Omega.{arith}
use lib.Ieee.{Float, nan}
use lib.ListN.{length, get_or, set}
use Rattle.lists.specs.Lists.{tabulate}
use Rattle.lists.specs.inner.Stores.{written}
use Rattle.lists.proofs.Filled.{Filled, filled_more, filled_all}
use Rattle.layout.specs.declared.Layout.{Layout}
use Rattle.layout.specs.Layout.{valid_groups}
use Rattle.scale.specs.declared.Scale.{Scale}
use Rattle.scale.specs.Value.{value_of}
use Rattle.scales.specs.Channel.{scale_at}
use Rattle.line.specs.Group.{byte_of_code, group_code}
use Rattle.line.specs.Line.{points_in}
use Rattle.line.proofs.Grouped.{group_code_lem, group_points}
use Rattle.line_values.specs.Decode.{value_at, values_of}

-- six stores, one after the other
pub written_six : (xs : List Float) (at : ℕ) (f : ℕ → Float) {a b c d e g : Float} → a ≡ f 0 → b ≡ f 1 → c ≡ f 2 → d ≡ f 3 → e ≡ f 4 → g ≡ f 5
    → set (set (set (set (set (set xs at a) (at + 1) b) (at + 2) c) (at + 3) d) (at + 4) e) (at + 5) g ≡ written xs at f 6
unfolding written
written_six xs at f {a} {b} {c} {d} {e} {g} p q r s t u = rw (add-zero at, p, q, r, s, t, u)

module _ (l : Layout) (s : List ℕ) (ok : valid_groups l ≡ true) where
  -- value 6 i + j is that of byte `at` of the line, on the scale of channel k, where group i has code j in that byte
  pub value_of_lem : (i j k at : ℕ) (sc : Scale) (v : Float) → j < 6 → at ≡ 4 * i + byte_of_code j → j % 3 ≡ k → sc ≡ scale_at l k → v ≡ value_of sc (get_or s at 0) → v ≡ value_at l s (6 * i + j)
  unfolding value_at group_code
  value_of_lem i j k at sc v h b m e is =
      let q : i ≡ (6 * i + j) / 6 = omega arith in
      let r : j ≡ (6 * i + j) % 6 = omega arith in
      let c : k ≡ (6 * i + j) % 3 = omega arith in
      is ∙ ap₂ value_of (e ∙ ap (scale_at l) c)
      (ap (λ (x : ℕ). get_or s x 0) b ∙ ap₂ (λ (x y : ℕ). get_or s (4 * x + byte_of_code y) 0) q r ∙ sym (group_code_lem l ok s (6 * i + j)))

  -- one turn of a loop over n groups
  pub values_more : (n : ℕ) {out xs ys : List Float} (i : ℕ) → length out ≡ 6 * n → i < n → Filled out (value_at l s) (6 * i) xs → ys ≡ written xs (6 * i) (λ j. value_at l s (6 * i + j)) 6
      → Filled out (value_at l s) (6 * (i + 1)) ys
  values_more n i long h f g = filled_more (λ j. value_at l s (6 * i + j)) 6 (omega arith) (omega arith) (λ j k. refl) f g

  -- all turns
  pub values-all : (n : ℕ) {out xs : List Float} (i : ℕ) → length s ≡ 4 * n → length out ≡ 6 * n → i ≡ n → Filled out (value_at l s) (6 * i) xs → xs ≡ values_of l s
  unfolding values_of
  values-all n i are long e f =
      let c : 6 * i ≡ 3 * points_in l (length s) = omega (arith, group_points l ok (length s)) in
      filled_all nan (omega arith) f ∙ ap (λ (m : ℕ). tabulate m (value_at l s)) c
