-- Stores of packed points or groups fill in a line of them. Assumes nothing.
use mathlib.Core.Path.{◌≡◌, refl, sym, ap, ◌∙◌}
use mathlib.Core.List.{List}
use Prim.Native.Nat.{ℕ, zero, suc, ◌+◌, ◌*◌, ◌≤◌, ◌<◌}
use native.Mathlib.Nat.{add-zero, mul-le-mul_left}
use native.Mathlib.Numerals.{add-one}
use native.Mathlib.Omega.{arith}
use mathlib.Core.Bool.{Bool, true, false, cond}
use borrow.Author.Tests.{le-leb}
use lib.Dec.{lit<}
use lib.ListN.{length, get_or}
use Rattle.lists.specs.inner.Stores.{written}
use Rattle.lists.specs.Bytes.{byte_of}
use Rattle.lists.proofs.Lists.{length-written}
use Rattle.lists.proofs.Filled.{Filled}
use Rattle.lists.proofs.Tests.{stop}
use Rattle.point_packing.specs.inner.Store.{stored, points_fit, stored_last, stored_eight, stored_counted, stored_one}
use Rattle.point_packing.proofs.Fit.{PointsFit, fit_says, fit_is, eight_fit, point_fits}
use Rattle.point_packing.proofs.Bytes.{number_more, bytes_as}

module _ (size : ℕ) (v : List ℕ) (i : ℕ) (xs : List ℕ) where
  pub length-stored : (k : ℕ) → length (stored size v i k xs) ≡ length xs
  unfolding stored
  length-stored zero = refl
  length-stored (suc k) = length-written (stored size v i k xs) (size * (i + k)) (byte_of (get_or v k 0)) 8 ∙ length-stored k

  pub stored_more : (k : ℕ) (ys zs : List ℕ) → ys ≡ stored size v i k xs → zs ≡ written ys (size * (i + k)) (byte_of (get_or v k 0)) 8 → zs ≡ stored size v i (k + 1) xs
  unfolding stored
  stored_more k ys zs e f = f ∙ ap (λ (w : List ℕ). written w (size * (i + k)) (byte_of (get_or v k 0)) 8) e ∙ ap (λ (n : ℕ). stored size v i n xs) (sym (add-one k))

-- the numbers of a run, filled in
module _ (g : ℕ → ℕ) (b : ℕ) (v : List ℕ) (i : ℕ) (out xs : List ℕ) (b8 : b ≤ 8) where
  -- number k has bytes b (i + k) and on
  abbrev Has : ℕ → Type 0
  Has k = (j : ℕ) → j < b → byte_of (get_or v k 0) j ≡ g (b * (i + k) + j)

  run_filled : (k : ℕ) → ((j : ℕ) → j < k → Has j × (b * (i + j) + 8 ≤ length out)) → Filled out g (b * i) xs → Filled out g (b * (i + k)) (stored b v i k xs)
  unfolding stored
  run_filled zero is f = bytes_as g b (sym (add-zero i)) refl f
  run_filled (suc k) is f =
      let h = is k (omega arith) in
      number_more g b out (stored b v i k xs) (written (stored b v i k xs) (b * (i + k)) (byte_of (get_or v k 0)) 8) (i + k) (get_or v k 0) 8 (omega arith) h.0 b8 h.1
      (run_filled k (λ j p. is j (omega arith)) f) refl

-- ---- how a loop fills in a line of n points, or groups, of b bytes
module _ (g : ℕ → ℕ) (b : ℕ) (b3 : 3 ≤ b) (b8 : b ≤ 8) (out : List ℕ) (n : ℕ) (most : n ≤ 4096) (long : length out ≡ b * n) where
  -- the first i are filled in
  abbrev Upto : ℕ → List ℕ → Type 0
  Upto i xs = Filled out g (b * i) xs

  fitting : (i count : ℕ) (xs : List ℕ) → i + count ≤ n → length xs ≡ length out → PointsFit b i count (length xs)
  fitting i count xs h e = record { least = b3; most = b8; first = omega arith; fits = omega (arith, e, long, mul-le-mul_left {m = i + count} {n = n} b h) }

  last_fills : (v xs : List ℕ) (i : ℕ) → i + 8 ≤ n → ((j : ℕ) → j < 8 → Has g b v i out xs b8 j) → Upto i xs → Upto (i + 8) (stored_last b v i xs)
  unfolding stored_last
  last_fills v xs i h is f =
      let r = fitting i 8 xs h f.long in
      let fits : (j : ℕ) → j < 8 → b * (i + j) + b ≤ length out = λ j p. rw (sym f.long) (point_fits b i 8 (length xs) r j p) in
      bytes_as g b refl (stop _ (fit_is b i 8 (length xs) r))
      (number_more g b out _ _ (i + 7) (get_or v 7 0) b (omega arith) (is 7 (lit< tt)) (omega arith) (fits 7 (lit< tt))
      (number_more g b out (stored b v i 6 xs) (written (stored b v i 6 xs) (b * (i + 6)) (byte_of (get_or v 6 0)) b) (i + 6) (get_or v 6 0) b (omega arith) (is 6 (lit< tt)) (omega arith) (fits 6 (lit< tt))
      (run_filled g b v i out xs b8 6 (λ j p. (is j (omega arith), rw (sym f.long) (eight_fit b i 8 (length xs) r j (omega arith)))) f) refl) refl)

  eight_fills : (v xs : List ℕ) (i : ℕ) → i + 8 ≤ n → ((k : ℕ) → k < 8 → (j : ℕ) → j < b → byte_of (get_or v k 0) j ≡ g (b * (i + k) + j)) → Upto i xs → Upto (i + 8) (stored_eight b v i xs)
  unfolding stored_eight
  eight_fills v xs i h is f = go (points_fit b i 10 (length xs)) (fit_says b i 10 (length xs))
    where
      go : (t : Bool) → (t ≡ true → PointsFit b i 10 (length xs)) → Upto (i + 8) (cond t (stored b v i 8 xs) (stored_last b v i xs))
      go true r = run_filled g b v i out xs b8 8 (λ j p. (is j p, rw (sym f.long) (eight_fit b i 10 (length xs) (r refl) j (omega arith)))) f
      go false r = last_fills v xs i h is f

  -- beside a count of cuts that can be
  pub counted_fills : (v xs : List ℕ) (i cuts : ℕ) → i + 8 ≤ n → cuts ≤ 12288 → ((k : ℕ) → k < 8 → (j : ℕ) → j < b → byte_of (get_or v k 0) j ≡ g (b * (i + k) + j)) → Upto i xs → Upto (i + 8) (stored_counted b v i cuts xs)
  counted_fills v xs i cuts h few is f = bytes_as g b refl (stop _ (le-leb cuts 12288 few)) (eight_fills v xs i h is f)

  pub one_fills : (v : ℕ) (xs : List ℕ) (i : ℕ) → i < n → ((j : ℕ) → j < b → byte_of v j ≡ g (b * i + j)) → Upto i xs → Upto (i + 1) (stored_one b v i xs)
  unfolding stored_one
  one_fills v xs i h is f =
      let r = fitting i 1 xs (omega arith) f.long in
      number_more g b out xs _ i v b refl is (omega arith) (rw (sym f.long) (rw add-zero at (point_fits b i 1 (length xs) r 0 (lit< tt)))) f (stop _ (fit_is b i 1 (length xs) r))
