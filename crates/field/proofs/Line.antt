-- The codes of a line are read from the bytes of their fields. Assumes nothing.
use mathlib.Core.Path.{◌≡◌, refl, sym, ap, ap₂, ◌∙◌}
use mathlib.Core.Bool.{true}
use mathlib.Core.List.{List}
use Prim.Native.Nat.{ℕ, zero, suc, ◌+◌, ◌*◌, ◌≤◌, ◌<◌, min}
use native.Mathlib.Nat.{mul_comm, suc-mul}
use native.Mathlib.Numerals.{add-one}
use native.Mathlib.Omega.{arith}
use borrow.Author.Tests.{eqb-true}
use lib.Dec.{eqb, ltb}
use lib.ListN.{length, take, drop, length-take, length-drop}
use lib.Seq.{drop-drop}
use Rattle.lists.specs.Bytes.{are_bytes}
use Rattle.lists.proofs.Every.{every_drop}
use Rattle.lists.proofs.Tests.{and_left, and_right}
use Rattle.layout.specs.declared.Layout.{Layout}
use Rattle.layout.specs.Layout.{offset_of, valid_points}
use Rattle.line.specs.Point.{point_of}
use Rattle.line.specs.Line.{point_code}
use Rattle.line.proofs.Points.{point_inside, code_at_lem}
use Rattle.field.specs.declared.field.Field.{Field}
use Rattle.field.specs.Field.{field_of, field_code}
use Rattle.field.specs.inner.Read.{read_code, read_at, one_count}
use Rattle.field.proofs.Bits.{bits-part}
use Rattle.field.proofs.Facts.{placed}
use Rattle.field.proofs.Read.{read_is}

-- of a line of bytes and a valid layout
module _ (l : Layout) (s : List ℕ) (ok : valid_points l ≡ true) (bytes : are_bytes s ≡ true) where
  -- the bytes of field j of point i hold code 3 i + j
  code_in : (i j : ℕ) → j < 3 → field_code (field_of l j) (take (field_of l j).count (drop (i * l.bytes + (field_of l j).first) s)) ≡ point_code l s (3 * i + j)
  unfolding point_of
  code_in i j h =
      let p = placed l j ok in
      let f = field_of l j in
      let rest = drop (i * l.bytes) s in
      let are = every_drop (λ b. ltb b 256) 0 s (i * l.bytes) bytes in
      ap (λ (t : List ℕ). field_code f (take f.count t)) (sym (drop-drop f.first (i * l.bytes) s))
      ∙ bits-part rest l.depth (offset_of l j) f.first f.count f.from are p.begins p.ends
      ∙ sym (bits-part rest l.depth (offset_of l j) 0 l.bytes (offset_of l j) are (omega arith) (omega (arith, p.whole)))
      ∙ code_at_lem l s i j h

  -- and that is what is read there
  pub code_read : (i j at : ℕ) → j < 3 → at ≡ i * l.bytes → at + l.bytes ≤ length s → read_at l s at j ≡ point_code l s (3 * i + j)
  code_read i j at h e fits =
      let p = placed l j ok in
      let f = field_of l j in
      let part = drop (at + f.first) s in
      let count : length (take f.count part) ≡ f.count = length-take f.count part ∙ ap (min f.count) (length-drop (at + f.first) s) ∙ omega (arith, p.inside) in
      read_is l j (take f.count part) ok count ∙ ap (λ (a : ℕ). field_code f (take f.count (drop (a + f.first) s))) e ∙ code_in i j h

-- where as many bytes hold each of the three fields, the count of the first does for all
module _ (l : Layout) (ok : valid_points l ≡ true) (one : one_count l ≡ true) {f f₀ : Field} (j at : ℕ) (h : j < 3) (e : f ≡ field_of l j) (e₀ : f₀ ≡ field_of l 0) where
  same_count : (k : ℕ) → k < 3 → (field_of l k).count ≡ (field_of l 0).count
  same_count zero p = refl
  same_count (suc zero) p = eqb-true _ _ (and_left (eqb (field_of l 1).count (field_of l 0).count) (eqb (field_of l 2).count (field_of l 0).count) one)
  same_count (suc (suc zero)) p = eqb-true _ _ (and_right (eqb (field_of l 1).count (field_of l 0).count) (eqb (field_of l 2).count (field_of l 0).count) one)
  same_count (suc (suc (suc k))) p = absurd (omega arith)

  count_is : f₀.count ≡ (field_of l j).count
  count_is = ap (λ (g : Field). g.count) e₀ ∙ sym (same_count j h)

  -- it lies within the line
  pub reaches : (long : ℕ) → at + l.bytes ≤ long → at + f.first + f₀.count ≤ long
  reaches long fits = rw (ap (λ (g : Field). g.first) e, count_is) (omega (arith, (placed l j ok).inside))

  -- and what is read there is the field's
  pub read_here : (s : List ℕ) → read_code f (take f₀.count (drop (at + f.first) s)) ≡ read_at l s at j
  read_here s = ap₂ (λ (g : Field) (c : ℕ). read_code g (take c (drop (at + g.first) s))) e count_is

-- a line of n points, point by point
module _ (l : Layout) (ok : valid_points l ≡ true) (n long : ℕ) (whole : long ≡ l.bytes * n) where
  -- point i lies within it
  pub point_reaches : (i at : ℕ) → i < n → at ≡ i * l.bytes → at + l.bytes ≤ long
  point_reaches i at h e = omega (arith, point_inside i n l.bytes h, mul_comm l.bytes n, whole, e)

  -- and so does the field of a channel
  pub field_reaches : {f : Field} (j i at : ℕ) → f ≡ field_of l j → i < n → at ≡ i * l.bytes + f.first → at + f.count ≤ long
  field_reaches {f} j i at e h q =
      let r : i * l.bytes + l.bytes ≤ long = point_reaches i (i * l.bytes) h refl in
      omega (arith, q, r, (placed l j ok).inside, ap (λ (g : Field). g.first) e, ap (λ (g : Field). g.count) e)

  -- whose code is read there
  pub field_read : (s : List ℕ) {f : Field} (j i at : ℕ) → length s ≡ long → are_bytes s ≡ true → f ≡ field_of l j → j < 3 → i < n → at ≡ i * l.bytes + f.first
      → read_code f (take f.count (drop at s)) ≡ point_code l s (3 * i + j)
  field_read s {f} j i at es are e hj hi q =
      ap (λ (a : ℕ). read_code f (take f.count (drop a s))) q
      ∙ ap (λ (g : Field). read_code g (take g.count (drop (i * l.bytes + g.first) s))) e
      ∙ code_read l s ok are i j (i * l.bytes) hj refl (omega (arith, es, point_reaches i (i * l.bytes) hi refl))

-- from one point to the next
pub next_point : (l : Layout) {b : ℕ} (i first at : ℕ) → b ≡ l.bytes → at ≡ i * l.bytes + first → at + b ≡ (i + 1) * l.bytes + first
next_point l i first at e q = omega (arith, e, q, suc-mul i l.bytes, ap (λ (k : ℕ). k * l.bytes) (add-one i))
