-- A line's codes filled in point by point. Assumes nothing.
use mathlib.Core.Path.{◌≡◌, sym, ap, ◌∙◌}
use mathlib.Core.Bool.{true}
use mathlib.Core.List.{List}
use Prim.Native.Nat.{ℕ, ◌+◌, ◌*◌, ◌≤◌, ◌<◌}
use native.Mathlib.Omega.{arith}
use lib.ListN.{length}
use Rattle.lists.specs.Lists.{tabulate}
use Rattle.lists.specs.Bytes.{are_bytes}
use Rattle.lists.specs.inner.Stores.{written}
use Rattle.lists.proofs.Filled.{Filled, filled_more}
use Rattle.layout.specs.declared.Layout.{Layout}
use Rattle.layout.specs.Layout.{valid_points}
use Rattle.layout.proofs.Facts.{points_say}
use Rattle.line.specs.Line.{point_code}
use Rattle.line.specs.inner.Points.{point_codes}
use Rattle.line.proofs.Points.{point_count, filled_points}
use Rattle.field.specs.inner.Read.{read_at}
use Rattle.field.proofs.Line.{code_read, point_reaches}

-- a line of n points
module _ (l : Layout) (s : List ℕ) (n : ℕ) (ok : valid_points l ≡ true) (whole : length s ≡ l.bytes * n) where
  -- one turn of a loop
  pub codes_more : (out xs ys : List ℕ) (i at : ℕ) → are_bytes s ≡ true → length out ≡ 3 * n → i < n → at ≡ i * l.bytes → Filled out (point_code l s) (3 * i) xs
      → ys ≡ written xs (3 * i) (read_at l s at) 3 → Filled out (point_code l s) (3 * (i + 1)) ys
  codes_more out xs ys i at are long h e f g =
      filled_more (read_at l s at) 3 (omega arith) (omega arith) (λ j k. code_read l s ok are i j at k e (point_reaches l ok n (length s) whole i at h e)) f g

  -- the line's points are n
  pub codes-whole : tabulate (3 * n) (point_code l s) ≡ point_codes l s
  codes-whole = ap (λ (m : ℕ). tabulate (3 * m) (point_code l s)) (sym (point_count l s n (omega (arith, (points_say l ok).bytes_least)) whole))

  -- all turns
  pub codes_all : (out xs : List ℕ) (i : ℕ) → length out ≡ 3 * n → n ≤ i → i ≤ n → Filled out (point_code l s) (3 * i) xs → xs ≡ point_codes l s
  codes_all out xs i long lo hi f = filled_points 0 long lo hi f ∙ codes-whole
