-- Points of three codes in one number, stored four codes at a time. Assumes nothing.
use mathlib.Core.Path.{◌≡◌, refl, sym, ap, ◌∙◌, subst}
use mathlib.Core.List.{List}
use Prim.Native.Nat.{ℕ, zero, suc, ◌+◌, ◌*◌, ◌/◌, ◌%◌, ◌≤◌, ◌<◌}
use native.Mathlib.Nat.{add-zero, div-one}
use native.Mathlib.Numerals.{add-one}
use native.Mathlib.Omega.{arith}
use mathlib.Core.Bool.{true}
use borrow.Author.Tests.{eqb-true}
use lib.Dec.{eqb}
use lib.ListN.{length, get_or}
use Rattle.lists.specs.Lists.{tabulate}
use Rattle.lists.specs.inner.Stores.{written}
use Rattle.lists.proofs.Lists.{get_or-tabulate, length-written}
use Rattle.lists.proofs.Tests.{and_left, and_right}
use Rattle.lists.proofs.Filled.{Filled, filled_wide}
use Rattle.fractions.specs.declared.Clamped.{Clamped}
use Rattle.color_equations.specs.Line.{Converter}
use Rattle.floats.specs.inner.Floor.{whole_of, clamped_by}
use Rattle.color_equations.proofs.Points.{point_at, converted_at_lem}
use Rattle.color_line.specs.declared.row.FloatRow.{FloatRow}
use Rattle.parameters.specs.declared.channels.Channels.{Channels}
use Rattle.color_line.specs.inner.Rows.{row_code, rows_code, alike, code_at, number_of, point_of, short_of, stored_of}

module _ (v : List ℕ) (i : ℕ) (xs : List ℕ) where
  pub length-stored : (k : ℕ) → length (stored_of v i k xs) ≡ length xs
  unfolding stored_of
  length-stored zero = refl
  length-stored (suc k) = length-written (stored_of v i k xs) (3 * (i + k)) (short_of (get_or v k 0)) 4 ∙ length-stored k

  pub stored_more : (k : ℕ) (ys zs : List ℕ) → ys ≡ stored_of v i k xs → zs ≡ written ys (3 * (i + k)) (short_of (get_or v k 0)) 4 → zs ≡ stored_of v i (k + 1) xs
  unfolding stored_of
  stored_more k ys zs e f = f ∙ ap (λ (w : List ℕ). written w (3 * (i + k)) (short_of (get_or v k 0)) 4) e ∙ ap (λ (n : ℕ). stored_of v i n xs) (sym (add-one k))

-- the three codes come back
pub shorts : (g : ℕ → ℕ) → ((j : ℕ) → g j < 65536) → (j : ℕ) → j < 3 → short_of (number_of g) j ≡ g j
unfolding short_of
shorts g h zero l = let a = h 0 in let b = h 1 in let d : number_of g / 1 ≡ number_of g = div-one (number_of g) in rw d (omega arith)
shorts g h (suc zero) l = let a = h 0 in let b = h 1 in let c = h 2 in omega arith
shorts g h (suc (suc zero)) l = let a = h 0 in let b = h 1 in let c = h 2 in omega arith
shorts g h (suc (suc (suc j))) l = absurd (omega arith)

module _ (f : Converter) (small : (x y z j : ℕ) → (f x y z j).code < 65536) (cs : List ℕ) where
  short_at : (i v j : ℕ) → v ≡ (point_of f cs i).number → j < 3 → short_of v j ≡ code_at f cs (3 * i + j)
  unfolding point_of
  short_at i v j e h =
      ap (λ (x : ℕ). short_of x j) e ∙ shorts (λ k. (point_at f cs i k).code) (small (get_or cs (3 * i) 0) (get_or cs (3 * i + 1) 0) (get_or cs (3 * i + 2) 0)) j h
      ∙ ap (λ (x : Clamped). x.code) (converted_at_lem f cs i j h)

  -- one turn: `wide` codes of point i's number v are stored
  pub point_more : (out xs ys : List ℕ) (i v wide : ℕ) {next : ℕ} → i + 1 ≡ next → v ≡ (point_of f cs i).number → 3 ≤ wide → 3 * i + wide ≤ length out → Filled out (code_at f cs) (3 * i) xs
      → ys ≡ written xs (3 * i) (short_of v) wide → Filled out (code_at f cs) (3 * next) ys
  point_more out xs ys i v wide e is w room h g = filled_wide (short_of v) 3 wide (omega arith) w room (λ j l. short_at i v j is l) h g

  -- the first k of the numbers v, which are points from i on
  pub run_filled : (v : List ℕ) (i : ℕ) (out xs : List ℕ) (k : ℕ) → k ≤ 8 → 3 * (i + k) + 1 ≤ length out → ((j : ℕ) → j < 8 → get_or v j 0 ≡ (point_of f cs (i + j)).number) → Filled out (code_at f cs) (3 * i) xs
      → Filled out (code_at f cs) (3 * (i + k)) (stored_of v i k xs)
  unfolding stored_of
  run_filled v i out xs zero h room g e = subst (λ (n : ℕ). Filled out (code_at f cs) (3 * n) xs) (sym (add-zero i)) e
  run_filled v i out xs (suc k) h room g e =
      point_more out (stored_of v i k xs) (written (stored_of v i k xs) (3 * (i + k)) (short_of (get_or v k 0)) 4) (i + k) (get_or v k 0) 4 (omega arith) (g k (omega arith)) (omega arith) (omega arith) (run_filled v i out xs k (omega arith) (omega arith) g e) refl

-- a row's code has 12 bits
row_small : (r : FloatRow) (x y z : ℕ) → (row_code r x y z).code < 65536
unfolding row_code clamped_by whole_of
row_small r x y z = omega arith

pub rows_small : (rows : Channels FloatRow) (x y z j : ℕ) → (rows_code rows x y z j).code < 65536
unfolding rows_code
rows_small rows x y z zero = row_small rows.channel0 x y z
rows_small rows x y z (suc zero) = row_small rows.channel1 x y z
rows_small rows x y z (suc (suc j)) = row_small rows.channel2 x y z

-- a turn: eight points of a line in numbers v, from point i on
pub turn_filled : (rows : Channels FloatRow) (cs : List ℕ) (i : ℕ) (out xs v ys : List ℕ) → 3 * i + 24 ≤ length out → v ≡ tabulate 8 (λ j. (point_of (rows_code rows) cs (i + j)).number) → Filled out (code_at (rows_code rows) cs) (3 * i) xs
    → ys ≡ written (stored_of v i 7 xs) (3 * i + 21) (short_of (get_or v 7 0)) 3 → Filled out (code_at (rows_code rows) cs) (3 * (i + 8)) ys
turn_filled rows cs i out xs v ys room e d f =
    let is : (j : ℕ) → j < 8 → get_or v j 0 ≡ (point_of (rows_code rows) cs (i + j)).number = λ j l. ap (λ (zs : List ℕ). get_or zs j 0) e ∙ get_or-tabulate 8 (λ m. (point_of (rows_code rows) cs (i + m)).number) j 0 l in
    let at : 3 * i + 21 ≡ 3 * (i + 7) = omega arith in
    point_more (rows_code rows) (rows_small rows) cs out (stored_of v i 7 xs) ys (i + 7) (get_or v 7 0) 3 (omega arith) (is 7 (omega arith)) (omega arith) (omega arith)
    (run_filled (rows_code rows) (rows_small rows) cs v i out xs 7 (omega arith) (omega arith) is d) (f ∙ ap (λ (m : ℕ). written (stored_of v i 7 xs) m (short_of (get_or v 7 0)) 3) at)

-- lines of one length, and of whole points
pub alike-points : (size output : ℕ) → alike size output ≡ true → (size ≡ 3 * (size / 3)) × (output ≡ 3 * (size / 3))
alike-points size output e =
    let a = eqb-true (size % 3) 0 (and_left (eqb (size % 3) 0) (eqb output size) e) in
    let b = eqb-true output size (and_right (eqb (size % 3) 0) (eqb output size) e) in
    (omega arith, omega arith)
