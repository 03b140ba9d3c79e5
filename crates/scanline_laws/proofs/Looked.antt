-- What packing looks at: not at the colour of a group's second point. Assumes nothing.
use mathlib.Core.Path.{◌≡◌, refl, sym, ap, ap₂, ◌∙◌}
use mathlib.Core.Bool.{Bool, true, false, not, cond, ◌&&◌}
use mathlib.Core.List.{List, [], ◌∷◌}
use Prim.Native.Nat.{ℕ, zero, suc, ◌+◌, ◌-◌, ◌*◌, ◌/◌, ◌%◌, ◌≤◌, ◌<◌}
use native.Mathlib.Nat.{not-suc-le-zero, le_of_suc-le-suc}
use native.Mathlib.Omega.{arith}
use borrow.Author.Tests.{leb-true, lt-leb, ltb-true, ltb-false}
use lib.Dec.{ltb}
use lib.ListN.{length, get_or}
use Rattle.lists.specs.Lists.{tabulate, every}
use Rattle.lists.specs.Bytes.{byte_of}
use Rattle.lists.proofs.Every.{every_at, every_of}
use Rattle.lists.proofs.Lists.{length-tabulate, get_or-tabulate, is_tabulate, tabulate_same}
use Rattle.layout.specs.declared.Layout.{Layout}
use Rattle.layout.specs.Layout.{grouped, valid_layout}
use Rattle.line.specs.Group.{code_of_byte, group_byte, second_color}
use Rattle.line.specs.Point.{in_place}
use Rattle.line.specs.Line.{points_in, joined, point_byte, byte_at, bytes_for, packed_of, looked, stands_for, shared, codes_within}
use Rattle.line.specs.Answer.{odd_points, packable, pack_answer}
use Rattle.std.specs.Prelude.{Ok, Err}
use Rattle.refusal.specs.declared.Refusal.TheVariants.{CodeTooHigh, OddCount, Outside, WrongLineOrOutput}
use Rattle.scanline_laws.proofs.Groups.{code_inside}

-- what stands for an element is looked at, and stands no later
pub stands_looked : (l : Layout) (k : ℕ) → looked l (stands_for l k) ≡ true
stands_looked l k = go (grouped l) (second_color k) refl refl
  where
    go : (g t : Bool) → grouped l ≡ g → second_color k ≡ t → looked l (stands_for l k) ≡ true
    go false t e f = ap (λ (x : Bool). not (x && second_color (stands_for l k))) e
    go true false e f =
        let same : stands_for l k ≡ k = ap (λ (x : Bool). cond x k (k - 3)) (ap₂ (λ (x y : Bool). not (x && y)) e f) in
        ap (looked l) same ∙ ap₂ (λ (x y : Bool). not (x && y)) e f
    go true true e f =
        let first : stands_for l k ≡ k - 3 = ap (λ (x : Bool). cond x k (k - 3)) (ap₂ (λ (x y : Bool). not (x && y)) e f) in
        let h : 4 ≤ k % 6 = leb-true 4 (k % 6) f in
        ap (looked l) first ∙ ap₂ (λ (x y : Bool). not (x && y)) e (lt-leb 4 ((k - 3) % 6) (omega arith))

pub stands_before : (l : Layout) (k : ℕ) → stands_for l k ≤ k
stands_before l k = go (looked l k)
  where
    go : (t : Bool) → cond t k (k - 3) ≤ k
    go true = omega arith
    go false = omega arith

-- where an element is looked at, it stands for itself
pub itself : (l : Layout) (k : ℕ) → looked l k ≡ true → stands_for l k ≡ k
itself l k e = ap (λ (t : Bool). cond t k (k - 3)) e

-- a line that holds no colour but the first's is as shared
pub shared_same : (A : Type 0) (l : Layout) (d : A) (xs : List A) → ((k : ℕ) → k < length xs → looked l k ≡ false → get_or xs k d ≡ get_or xs (k - 3) d) → shared l d xs ≡ xs
unfolding shared
shared_same A l d xs same = sym (is_tabulate d xs (length xs) (λ k. get_or xs (stands_for l k) d) refl (λ k h. go k h (looked l k) refl))
  where
    go : (k : ℕ) → k < length xs → (t : Bool) → looked l k ≡ t → get_or xs k d ≡ get_or xs (cond t k (k - 3)) d
    go k h true e = refl
    go k h false e = same k h e

-- a line as shared, element by element; what every element passes, every one does as shared
module _ {A : Type 0} (l : Layout) (d : A) (xs : List A) where
  pub length-shared : length (shared l d xs) ≡ length xs
  unfolding shared
  length-shared = length-tabulate (length xs) (λ k. get_or xs (stands_for l k) d)

  pub shared_at : (k : ℕ) → k < length xs → get_or (shared l d xs) k d ≡ get_or xs (stands_for l k) d
  unfolding shared
  shared_at k h = get_or-tabulate (length xs) (λ k. get_or xs (stands_for l k) d) k d h

  pub every-shared : (p : A → Bool) → every p xs ≡ true → every p (shared l d xs) ≡ true
  every-shared p w = every_of p d (shared l d xs) (λ k h.
      let inside : k < length xs = omega (arith, h, length-shared) in
      ap p (shared_at k inside) ∙ every_at p d xs (stands_for l k) w (omega (arith, stands_before l k)))

-- beyond a line's end there is nothing
pub beyond : {A : Type 0} (xs : List A) (k : ℕ) (d : A) → length xs ≤ k → get_or xs k d ≡ d
beyond [] k d h = refl
beyond (x ∷ xs) zero d h = absurd (not-suc-le-zero h)
beyond (x ∷ xs) (suc k) d h = beyond xs k d (le_of_suc-le-suc h)

-- ---- two lines that differ only where nothing is looked at

module _ {A : Type 0} (l : Layout) (d : A) (xs ys : List A) (long : length xs ≡ length ys) (agree : (k : ℕ) → k < length xs → looked l k ≡ true → get_or xs k d ≡ get_or ys k d) where
  pub shared_alike : shared l d xs ≡ shared l d ys
  unfolding shared
  shared_alike =
      tabulate_same d (length xs) (λ k. get_or xs (stands_for l k) d) (λ k. get_or ys (stands_for l k) d) (λ k h. agree (stands_for l k) (omega (arith, stands_before l k)) (stands_looked l k))
      ∙ ap (λ (n : ℕ). tabulate n (λ k. get_or ys (stands_for l k) d)) long

  -- beyond both lines as well
  pub anywhere : (k : ℕ) → looked l k ≡ true → get_or xs k d ≡ get_or ys k d
  anywhere k e = go (ltb k (length xs)) refl
    where
      go : (t : Bool) → ltb k (length xs) ≡ t → get_or xs k d ≡ get_or ys k d
      go true p = agree k (ltb-true k (length xs) p) e
      go false p = let h : length xs ≤ k = ltb-false k (length xs) p in beyond xs k d h ∙ sym (beyond ys k d (omega arith))

module _ (l : Layout) (cs ds : List ℕ) (long : length cs ≡ length ds) (agree : (k : ℕ) → k < length cs → looked l k ≡ true → get_or cs k 0 ≡ get_or ds k 0) where
  same : (k : ℕ) → looked l k ≡ true → get_or cs k 0 ≡ get_or ds k 0
  same = anywhere l 0 cs ds long agree

  byte_same : (k : ℕ) → byte_at l cs k ≡ byte_at l ds k
  unfolding byte_at point_byte joined group_byte
  byte_same k = go (grouped l) refl
    where
      go : (t : Bool) → grouped l ≡ t → cond t (group_byte cs k) (point_byte l cs k) ≡ cond t (group_byte ds k) (point_byte l ds k)
      go true e =
          let m = 6 * (k / 4) + code_of_byte (k % 4) in
          same m (ap₂ (λ (x y : Bool). not (x && y)) e (lt-leb 4 (m % 6) (omega (arith, code_inside (k % 4)))))
      go false e =
          let i = k / l.bytes in
          let at : (m : ℕ) → get_or cs m 0 ≡ get_or ds m 0 = λ m. same m (ap (λ (x : Bool). not (x && second_color m)) e) in
          (λ z. byte_of (in_place l (at (3 * i) z) (at (3 * i + 1) z) (at (3 * i + 2) z)) (k % l.bytes))

  pub packed_alike : packed_of l cs ≡ packed_of l ds
  unfolding packed_of
  packed_alike = tabulate_same 0 (bytes_for l (length cs / 3)) (byte_at l cs) (byte_at l ds) (λ k h. byte_same k) ∙ ap (λ (n : ℕ). tabulate (bytes_for l (n / 3)) (byte_at l ds)) long

  pub answered_alike : (bytes : ℕ) → pack_answer l cs bytes ≡ pack_answer l ds bytes
  unfolding pack_answer
  answered_alike bytes =
      ap₂ (λ (n : ℕ) (xs : List ℕ). cond (not (valid_layout l)) (Err Outside) (cond (odd_points l n) (Err OddCount) (cond (not (packable l n bytes)) (Err WrongLineOrOutput) (cond (not (codes_within l.depth xs)) (Err CodeTooHigh) (Ok (points_in l bytes))))))
      long (shared_alike l 0 cs ds long agree)

-- a line and what it is as shared differ only there
pub packs_shared : (l : Layout) (cs : List ℕ) → packed_of l (shared l 0 cs) ≡ packed_of l cs
packs_shared l cs =
    let long = length-shared l 0 cs in
    packed_alike l (shared l 0 cs) cs long (λ k h e. shared_at l 0 cs k (omega (arith, long)) ∙ ap (λ (m : ℕ). get_or cs m 0) (itself l k e))
