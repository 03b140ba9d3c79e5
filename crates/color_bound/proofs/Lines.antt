-- A line converted twice, point by point. Assumes nothing.
use mathlib.Core.Path.{◌≡◌, refl, sym, ap, ◌∙◌, subst}
use mathlib.Core.Bool.{Bool, true}
use mathlib.Core.List.{List}
use Prim.Native.Nat.{ℕ, zero, suc, ◌+◌, ◌*◌, ◌/◌, ◌%◌, ◌<◌}
use native.Mathlib.Omega.{arith}
use lib.ListN.{length, get_or}
use Rattle.lists.specs.Lists.{every}
use Rattle.lists.proofs.Lists.{length-tabulate, get_or-tabulate}
use Rattle.lists.proofs.Every.{every_at, every_of}
use Rattle.fractions.specs.declared.Clamped.{Clamped}
use Rattle.color_equations.specs.Conversion.{pick}
use Rattle.color_equations.specs.Line.{Converter, converted_at, converted_of}
use Rattle.color_equations.proofs.Points.{point_at, converted_at_lem}
use Rattle.color_bound.specs.Bound.{Within}

pub length_converted : (f : Converter) (cs : List ℕ) → length (converted_of f cs) ≡ length cs
unfolding converted_of
length_converted f cs = length-tabulate (length cs) (λ k. (converted_at f cs k).code)

-- where every code that f gives passes the test, a line converted by f does
pub converted_every : (f : Converter) (p : ℕ → Bool) (cs : List ℕ) → ((x y z j : ℕ) → p (f x y z j).code ≡ true) → every p (converted_of f cs) ≡ true
unfolding converted_of converted_at
converted_every f p cs h =
    every_of p 0 (converted_of f cs)
    (λ i l. subst (λ (x : ℕ). p x ≡ true) (sym (get_or-tabulate (length cs) (λ k. (converted_at f cs k).code) i 0 (omega (arith, length_converted f cs)))) (h _ _ _ (i % 3)))

module _ (f : Converter) (cs : List ℕ) (q i : ℕ) (e : length cs ≡ 3 * q) (l : i < q) where
  code_at_lem : (j : ℕ) → j < 3 → get_or (converted_of f cs) (3 * i + j) 0 ≡ (point_at f cs i j).code
  unfolding converted_of
  code_at_lem j h = get_or-tabulate (length cs) (λ k. (converted_at f cs k).code) (3 * i + j) 0 (omega arith) ∙ ap (λ (c : Clamped). c.code) (sym (converted_at_lem f cs i j h))

  point_twice : (h : Converter) (j : ℕ) → point_at h (converted_of f cs) i j ≡ h (point_at f cs i 0).code (point_at f cs i 1).code (point_at f cs i 2).code j
  point_twice h j =
      let z : 3 * i ≡ 3 * i + 0 = omega arith in
      let a : get_or (converted_of f cs) (3 * i) 0 ≡ (point_at f cs i 0).code = ap (λ (k : ℕ). get_or (converted_of f cs) k 0) z ∙ code_at_lem 0 (omega arith) in
      rw (a, code_at_lem 1 (omega arith), code_at_lem 2 (omega arith))

-- the codes of a line as those of its points
picked : (cs : List ℕ) (i j : ℕ) → j < 3 → pick j (get_or cs (3 * i) 0) (get_or cs (3 * i + 1) 0) (get_or cs (3 * i + 2) 0) ≡ get_or cs (3 * i + j) 0
picked cs i zero h = ap (λ (k : ℕ). get_or cs k 0) (omega arith)
picked cs i (suc zero) h = refl
picked cs i (suc (suc zero)) h = refl
picked cs i (suc (suc (suc j))) h = absurd (omega arith)

-- what holds of every point whose codes pass the test holds of every line of such codes
pub line_near : (f h : Converter) (p : ℕ → Bool) (k q : ℕ) (cs : List ℕ) → length cs ≡ 3 * q → every p cs ≡ true
    → ((r g b j : ℕ) → p r ≡ true → p g ≡ true → p b ≡ true → Within k (pick j r g b) (h (f r g b 0).code (f r g b 1).code (f r g b 2).code j).code)
    → (i : ℕ) → i < length cs → Within k (get_or cs i 0) (get_or (converted_of h (converted_of f cs)) i 0)
line_near f h p k q cs e t n i l =
    let m = i / 3 in
    let j = i % 3 in
    let M : m < q = omega arith in
    let J : j < 3 = omega arith in
    let s : 3 * m + j ≡ i = omega arith in
    let x : length (converted_of f cs) ≡ 3 * q = length_converted f cs ∙ e in
    let o = n (get_or cs (3 * m) 0) (get_or cs (3 * m + 1) 0) (get_or cs (3 * m + 2) 0) j
    (every_at p 0 cs (3 * m) t (omega arith)) (every_at p 0 cs (3 * m + 1) t (omega arith)) (every_at p 0 cs (3 * m + 2) t (omega arith)) in
    subst (λ (y : ℕ). Within k (get_or cs y 0) (get_or (converted_of h (converted_of f cs)) y 0)) s
    (rw (code_at_lem h (converted_of f cs) q m x M j J, point_twice f cs q m e M h j, ← (picked cs m j J)) o)
