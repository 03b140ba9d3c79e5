-- A list that is made of another part by part, and the invariant of a loop that makes it so. Assumes nothing.
use mathlib.Core.Path.{◌≡◌, refl, sym, ap, ap₂, ◌∙◌, subst}
use mathlib.Core.Logic.{⊎_elim}
use mathlib.Core.List.{List, [], ◌∷◌, ◌++◌, append_assoc, append-nil}
use Prim.Native.Nat.{ℕ, ◌+◌, ◌-◌, ◌*◌, ◌/◌, ◌≤◌, ◌<◌}
use native.Mathlib.Nat.{mul-zero, mul-add, mul_assoc, mul-le-mul_left, mul-add-div, zero-div, add-zero, eq-zero-or-pos}
use native.Mathlib.Omega.{arith}
use borrow.Rule.Slice.PartMut.{put_mid, Post-is}
use lib.ListN.{length, get_or, take, drop, length-append, length-drop, drop_of_length-le, get_or-append}
use lib.Seq.{length-take-le, take_all, take-add, take_at, drop-append-add, drop-drop, get_or-append-add}
use Rattle.lists.specs.Lists.{tabulate}
use Rattle.lists.proofs.Lists.{length-tabulate, get_or-tabulate, is_tabulate}

-- p elements become q, whatever stands around them: of a list that is cut after whole parts, the pieces may be made apart and joined
pub record Parts (make : List ℕ → List ℕ) (p q : ℕ) : Type 0 where
  pub long : (s : List ℕ) (i : ℕ) → length s ≡ p * i → length (make s) ≡ q * i
  pub joins : (s t : List ℕ) (i : ℕ) → length s ≡ p * i → make (s ++ t) ≡ make s ++ make t

-- ---- what is made part by part

pub parts_same : {f g : List ℕ → List ℕ} {p q : ℕ} → ((s : List ℕ) → f s ≡ g s) → Parts g p q → Parts f p q
parts_same e g = record {
  long = λ s i h. ap length (e s) ∙ g.long s i h;
  joins = λ s t i h. e (s ++ t) ∙ g.joins s t i h ∙ ap₂ (λ (x y : List ℕ). x ++ y) (sym (e s)) (sym (e t));
}

-- one thing after the other
pub parts_then : {f g : List ℕ → List ℕ} {p q r : ℕ} → Parts f p q → Parts g q r → Parts (λ s. g (f s)) p r
parts_then {f} {g} a b = record {
  long = λ s i h. b.long (f s) i (a.long s i h);
  joins = λ s t i h. ap g (a.joins s t i h) ∙ b.joins (f s) (f t) i (a.long s i h);
}

-- m parts are a part too
pub parts_many : {f : List ℕ → List ℕ} {p q : ℕ} (m : ℕ) → Parts f p q → Parts f (p * m) (q * m)
parts_many {f} {p} {q} m a = record {
  long = λ s i h. a.long s (m * i) (h ∙ mul_assoc p m i) ∙ sym (mul_assoc q m i);
  joins = λ s t i h. a.joins s t (m * i) (h ∙ mul_assoc p m i);
}

-- a table of `size n` entries for n elements, whose entries q i to q i + q - 1 look only at elements p i to p i + p - 1
module _ (p q : ℕ) (size : ℕ → ℕ) (g : List ℕ → ℕ → ℕ) (none : size 0 ≡ 0) (more : (i n : ℕ) → size (p * i + n) ≡ q * i + size n)
    (front : (s t : List ℕ) (i k : ℕ) → length s ≡ p * i → k < q * i → g (s ++ t) k ≡ g s k)
    (back : (s t : List ℕ) (i k : ℕ) → length s ≡ p * i → k < size (length t) → g (s ++ t) (q * i + k) ≡ g t k) where
  abbrev table : List ℕ → List ℕ
  table s = tabulate (size (length s)) (g s)

  size_is : (s : List ℕ) (i : ℕ) → length s ≡ p * i → size (length s) ≡ q * i
  size_is s i h = ap size (h ∙ sym (add-zero (p * i))) ∙ more i 0 ∙ ap (λ (n : ℕ). q * i + n) none ∙ add-zero (q * i)

  table_long : (s : List ℕ) (i : ℕ) → length s ≡ p * i → length (table s) ≡ q * i
  table_long s i h = length-tabulate (size (length s)) (g s) ∙ size_is s i h

  table_joins : (s t : List ℕ) (i : ℕ) → length s ≡ p * i → table (s ++ t) ≡ table s ++ table t
  table_joins s t i h =
      let a = table s in
      let b = table t in
      let la : length a ≡ q * i = table_long s i h in
      let lb : length b ≡ size (length t) = length-tabulate (size (length t)) (g t) in
      let whole : size (length (s ++ t)) ≡ q * i + size (length t) = ap size (length-append s t ∙ ap (λ (m : ℕ). m + length t) h) ∙ more i (length t) in
      let in_front : (k : ℕ) → k < q * i → get_or (a ++ b) k 0 ≡ g (s ++ t) k = λ k l.
      get_or-append a b 0 k (omega (arith, la))
      ∙ get_or-tabulate (size (length s)) (g s) k 0 (omega (arith, size_is s i h))
      ∙ sym (front s t i k h l) in
      let behind : (k : ℕ) → k < size (length t) → get_or (a ++ b) (q * i + k) 0 ≡ g (s ++ t) (q * i + k) = λ k l.
      ap (λ (m : ℕ). get_or (a ++ b) (m + k) 0) (sym la)
      ∙ get_or-append-add a b k 0
      ∙ get_or-tabulate (size (length t)) (g t) k 0 l
      ∙ sym (back s t i k h l) in
      sym (is_tabulate 0 (a ++ b) (size (length (s ++ t))) (g (s ++ t)) (length-append a b ∙ omega (arith, la, lb, whole)) (λ k l.
      ⊎_elim
      (λ (z : q * i - k ≡ 0). let e : q * i + (k - q * i) ≡ k = omega arith in subst (λ (m : ℕ). get_or (a ++ b) m 0 ≡ g (s ++ t) m) e (behind (k - q * i) (omega (arith, whole))))
      (λ (z : 0 < q * i - k). in_front k (omega arith))
      (eq-zero-or-pos (q * i - k))))

  pub parts_table : Parts table p q
  parts_table = record { long = table_long; joins = table_joins }

-- the size of such a table where only whole parts count
pub whole-none : (p q : ℕ) → q * (0 / p) ≡ 0
whole-none p q = ap (λ (n : ℕ). q * n) (zero-div p) ∙ mul-zero q

pub whole_more : (p q : ℕ) → 0 < p → (i n : ℕ) → q * ((p * i + n) / p) ≡ q * i + q * (n / p)
whole_more p q pos i n = ap (λ (m : ℕ). q * m) (mul-add-div pos i n) ∙ mul-add q i (n / p)

-- ---- a loop that makes a list part by part, in place of what was in the output

-- the first i parts are made, and behind them the output is as it was
pub record Made (make : List ℕ → List ℕ) (p q : ℕ) (s out : List ℕ) (i : ℕ) (xs : List ℕ) : Type 0 where
  pub so : xs ≡ make (take (p * i) s) ++ drop (q * i) out

-- where part i and the k behind it lie, among n of m elements each
pub span : (m n i k : ℕ) → i + k ≤ n → (m * i ≤ m * (i + k)) × (m * (i + k) ≤ m * n) × (m * (i + k) - m * i ≡ m * k)
span m n i k h =
    let e = mul-add m i k in
    (omega (arith, e), mul-le-mul_left m h, omega (arith, e))

-- what a turn is lent
pub lent : {A : Type 0} (m n i k : ℕ) (s : List A) → i + k ≤ n → length s ≡ m * n → length (take (m * (i + k) - m * i) (drop (m * i) s)) ≡ m * k
lent m n i k s h e =
    let w = span m n i k h in
    length-take-le (m * (i + k) - m * i) (drop (m * i) s) (omega (arith, w, length-drop (m * i) s, e)) ∙ w.2

module _ {make : List ℕ → List ℕ} {p q : ℕ} (parts : Parts make p q) (s out : List ℕ) (n : ℕ) (in-long : length s ≡ p * n) (out-long : length out ≡ q * n) where
  front_long : (i : ℕ) → i ≤ n → length (make (take (p * i) s)) ≡ q * i
  front_long i h = parts.long (take (p * i) s) i (length-take-le (p * i) s (omega (arith, in-long, mul-le-mul_left p h)))

  pub made_none : Made make p q s out 0 out
  made_none = record {
    so =
        let none : make (take (p * 0) s) ≡ [] = empty (make (take (p * 0) s)) (front_long 0 (omega arith) ∙ mul-zero q) in
        sym (ap₂ (λ (x : List ℕ) (m : ℕ). x ++ drop m out) none (mul-zero q));
  }
    where
      empty : (xs : List ℕ) → length xs ≡ 0 → xs ≡ []
      empty [] e = refl
      empty (x ∷ xs) e = absurd (omega (arith, e))

  pub made_long : {i : ℕ} {xs : List ℕ} → i ≤ n → Made make p q s out i xs → length xs ≡ length out
  made_long {i} {xs} h m =
      ap length m.so ∙ length-append (make (take (p * i) s)) (drop (q * i) out)
      ∙ omega (arith, front_long i h, length-drop (q * i) out, out-long, mul-le-mul_left q h)

  -- one turn makes k parts
  pub made_more : (i k : ℕ) {xs ys : List ℕ} → i + k ≤ n → ys ≡ make (take (p * (i + k) - p * i) (drop (p * i) s)) → Made make p q s out i xs
      → Made make p q s out (i + k) (put_mid (q * i) (q * (i + k) - q * i) xs ys)
  made_more i k {xs} {ys} h new m = record {
    so =
        let a = take (p * i) s in
        let c = take (p * k) (drop (p * i) s) in
        let first = make a in
        let rest = drop (q * i) out in
        let la : length a ≡ p * i = length-take-le (p * i) s (omega (arith, in-long, span p n i k h)) in
        let lf : length first ≡ q * i = front_long i (omega arith) in
        let both : take (p * (i + k)) s ≡ a ++ c = ap (λ (m : ℕ). take m s) (mul-add p i k) ∙ take-add (p * i) (p * k) s in
        let made : make (take (p * (i + k)) s) ≡ first ++ ys = ap make both ∙ parts.joins a c i la ∙ ap (λ (x : List ℕ). first ++ x) (sym (new ∙ ap (λ (m : ℕ). make (take m (drop (p * i) s))) (span p n i k h).2)) in
        let in_front : take (q * i) xs ≡ first = ap (take (q * i)) m.so ∙ take_at first rest (q * i) lf in
        let kept : drop (q * (i + k)) xs ≡ drop (q * (i + k)) out =
        ap₂ (λ (m : ℕ) (x : List ℕ). drop m x) (mul-add q i k ∙ ap (λ (m : ℕ). m + q * k) (sym lf)) m.so
        ∙ drop-append-add first rest (q * k) ∙ drop-drop (q * k) (q * i) out ∙ ap (λ (m : ℕ). drop m out) (sym (mul-add q i k)) in
        ap₂ (λ (x y : List ℕ). x ++ (ys ++ y)) in_front (Post-is (q * i) (q * (i + k)) xs (span q n i k h).0 ∙ kept)
        ∙ sym (append_assoc first ys (drop (q * (i + k)) out))
        ∙ ap (λ (x : List ℕ). x ++ drop (q * (i + k)) out) (sym made);
  }

  -- all turns
  pub made_all : {i : ℕ} {xs : List ℕ} → i ≡ n → Made make p q s out i xs → xs ≡ make s
  made_all {i} {xs} e m =
      let here : take (p * i) s ≡ s = take_all (p * i) s (omega (arith, in-long, ap (λ (x : ℕ). p * x) e)) in
      let past : length out ≤ q * i = omega (arith, out-long, ap (λ (x : ℕ). q * x) e) in
      let none : drop (q * i) out ≡ [] = drop_of_length-le out past in
      m.so ∙ ap₂ (λ (x y : List ℕ). make x ++ y) here none ∙ append-nil (make s)
