-- A line converted point by point, and its cuts. Assumes nothing.
use mathlib.Core.Path.{◌≡◌, ap, ◌∙◌}
use mathlib.Core.Bool.{Bool}
use mathlib.Core.List.{List}
use Prim.Native.Nat.{ℕ, ◌+◌, ◌*◌, ◌≤◌, ◌<◌}
use native.Mathlib.Nat.{add-zero}
use native.Mathlib.Omega.{arith}
use mir.Val.{bool_byte}
use lib.ListN.{length}
use Rattle.lists.specs.Lists.{tabulate, one_if, count}
use Rattle.lists.proofs.Counts.{byte_of, one_le, count_point}
use Rattle.lists.proofs.Filled.{Filled, filled_all}
use Rattle.fractions.specs.declared.Clamped.{Clamped}
use Rattle.color_equations.specs.Line.{Converter, converted_of, converted_cuts}
use Rattle.color_equations.proofs.Points.{point_at, converted_at_lem}
use Rattle.line.specs.declared.turns.Joined.{Joined}
use Rattle.color_line.specs.inner.Rows.{code_at, cut_at, point_by, point_of}

-- what the code makes of three clamped codes
pub point_is : (g : ℕ → Clamped) {a b c : Clamped} → a ≡ g 0 → b ≡ g 1 → c ≡ g 2
    → ◌≡◌ {A = Joined} (record { number = a.code + 65536 * b.code + 4294967296 * c.code; cuts = bool_byte a.cut + bool_byte b.cut + bool_byte c.cut }) (point_by g)
point_is g e f h = λ i. record {
  number = (e i).code + 65536 * (f i).code + 4294967296 * (h i).code;
  cuts = byte_of (e i).cut i + byte_of (f i).cut i + byte_of (h i).cut i;
}

pub byte_le : (b : Bool) → bool_byte b ≤ 1
byte_le b = omega (arith, byte_of b, one_le b)

module _ (f : Converter) (cs : List ℕ) where
  -- all turns
  pub converted_all : (out xs : List ℕ) (i n : ℕ) → length cs ≡ 3 * n → length out ≡ 3 * n → n ≤ i → i ≤ n → Filled out (code_at f cs) (3 * i) xs → xs ≡ converted_of f cs
  unfolding converted_of
  converted_all out xs i n es eo lo hi h =
      let e : 3 * i ≡ length cs = omega arith in
      filled_all 0 (omega arith) h ∙ ap (λ (m : ℕ). tabulate m (code_at f cs)) e

  -- the cuts of one point more
  pub cuts_more : (i : ℕ) {p : Joined} {next : ℕ} → p ≡ point_of f cs i → i + 1 ≡ next → count (3 * i) (cut_at f cs) + p.cuts ≡ count (3 * next) (cut_at f cs)
  unfolding point_of
  cuts_more i e g =
      let at : (j : ℕ) → j < 3 → one_if (point_at f cs i j).cut ≡ one_if (cut_at f cs (3 * i + j)) = λ j h. ap (λ (x : Clamped). one_if x.cut) (converted_at_lem f cs i j h) in
      omega (
        arith,
        ap (λ (x : Joined). x.cuts) e,
        at 0 (omega arith) ∙ ap (λ (k : ℕ). one_if (cut_at f cs k)) (add-zero (3 * i)),
        at 1 (omega arith),
        at 2 (omega arith),
        count_point (cut_at f cs) i,
        ap (λ (m : ℕ). count (3 * m) (cut_at f cs)) g,
      )

  -- of all of them
  pub cuts_all : (i n : ℕ) → length cs ≡ 3 * n → n ≤ i → i ≤ n → count (3 * i) (cut_at f cs) ≡ converted_cuts f cs
  unfolding converted_cuts
  cuts_all i n e lo hi =
      let g : 3 * i ≡ length cs = omega arith in
      ap (λ (m : ℕ). count m (cut_at f cs)) g
