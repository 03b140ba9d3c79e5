-- What `Field::code` reads, by the number of bytes; and in the bytes of a layout's field it is their code. Assumes nothing.
use mathlib.Core.Path.{◌≡◌, refl, sym, ap, ap₂, ◌∙◌}
use mathlib.Core.Bool.{Bool, true, false}
use mathlib.Core.List.{List, [], ◌∷◌}
use Prim.Native.Nat.{ℕ, ◌+◌, ◌*◌, ◌%◌, ◌^◌, ◌≤◌, ◌<◌}
use native.Mathlib.Nat.{zero-div, zero-mod}
use native.Mathlib.Omega.{arith}
use borrow.Author.Tests.{eqb-true, ne_eqb}
use lib.Dec.{eqb}
use lib.ListN.{length, get_or, take}
use lib.Seq.{take_all}
use Rattle.lists.specs.Bytes.{little}
use Rattle.lists.proofs.Tests.{stop, pass}
use Rattle.layout.specs.declared.Layout.{Layout}
use Rattle.layout.specs.Layout.{valid_points}
use Rattle.line.specs.Point.{bits}
use Rattle.field.specs.declared.field.Field.{Field}
use Rattle.field.specs.Field.{field_of, field_code}
use Rattle.field.specs.inner.Read.{read_code}
use Rattle.field.proofs.Facts.{placed}

module _ (f : Field) where
  pub read_none : (bs : List ℕ) → length bs ≡ 0 → 0 ≡ read_code f bs
  unfolding read_code little
  read_none [] e = sym (ap (λ (m : ℕ). m % 2 ^ (f.bits % 16)) (zero-div (2 ^ (f.from % 32))) ∙ zero-mod (2 ^ (f.bits % 16)))
  read_none (b ∷ bs) e = absurd (omega arith)

  pub read_one : (bs : List ℕ) → length bs ≡ 1 → get_or bs 0 0 < 256 → get_or bs 0 0 ≡ read_code f bs
  unfolding read_code little
  read_one [] e h = absurd (omega arith)
  read_one (b ∷ []) e h = omega arith
  read_one (b ∷ c ∷ bs) e h = absurd (omega arith)

  -- the numbers of two bytes and of three
  pub read_two : (bs : List ℕ) → length bs ≡ 2 → bits (f.bits % 16) (f.from % 32) (get_or bs 0 0 + get_or bs 1 0 * 256) ≡ read_code f bs
  unfolding read_code little
  read_two [] e = absurd (omega arith)
  read_two (b ∷ []) e = absurd (omega arith)
  read_two (b ∷ c ∷ []) e = ap (bits (f.bits % 16) (f.from % 32)) (omega arith)
  read_two (b ∷ c ∷ d ∷ bs) e = absurd (omega arith)

  pub read_three : (bs : List ℕ) → 3 ≤ length bs → bits (f.bits % 16) (f.from % 32) (get_or bs 0 0 + get_or bs 1 0 * 256 + get_or bs 2 0 * 65536) ≡ read_code f bs
  unfolding read_code little
  read_three [] h = absurd (omega arith)
  read_three (x ∷ []) h = absurd (omega arith)
  read_three (x ∷ y ∷ []) h = absurd (omega arith)
  read_three (x ∷ y ∷ z ∷ bs) h = sym (pass _ (ne_eqb (length (x ∷ y ∷ z ∷ bs)) 1 (λ e. omega arith)) (ap (bits (f.bits % 16) (f.from % 32)) (omega arith)))

-- in a layout's field a single byte is a whole field, and three are all that there are
pub read_is : (l : Layout) (channel : ℕ) (bs : List ℕ) → valid_points l ≡ true → length bs ≡ (field_of l channel).count → read_code (field_of l channel) bs ≡ field_code (field_of l channel) bs
unfolding read_code
read_is l channel bs ok e = go (eqb (length bs) 1) refl
  where
    go : (t : Bool) → eqb (length bs) 1 ≡ t → read_code (field_of l channel) bs ≡ field_code (field_of l channel) bs
    go true q =
        let p = placed l channel ok in
        let one : length bs ≡ 1 = eqb-true (length bs) 1 q in
        let n : 8 ≡ l.depth = omega (arith, p.bits_least, p.ends, e, one) in
        let from : 0 ≡ (field_of l channel).from = omega (arith, p.bits_least, p.ends, e, one) in
        stop _ q ∙ ap₂ (λ (a b : ℕ). bits a b (little bs)) n from
    go false q =
        let p = placed l channel ok in
        let n : l.depth % 16 ≡ l.depth = omega (arith, p.bits_most) in
        let from : (field_of l channel).from % 32 ≡ (field_of l channel).from = omega (arith, p.from_less) in
        let few : length bs ≤ 3 = omega (arith, p.bits_most, p.from_less, p.tight, e) in
        pass _ q (ap₂ (λ (a b : ℕ). bits a b (little (take 3 bs))) n from ∙ ap (field_code (field_of l channel)) (take_all 3 bs few))
