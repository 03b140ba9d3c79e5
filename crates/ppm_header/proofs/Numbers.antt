-- The number that a text begins with: the loop's steps, and the digits of a number give it back. Assumes nothing.
use mathlib.Core.Path.{◌≡◌, refl, sym, ap, ap₂, ◌∙◌}
use mathlib.Core.Bool.{true, false, ◌&&◌}
use mathlib.Core.List.{List, [], ◌∷◌, ◌++◌, append_assoc}
use Prim.Native.Nat.{ℕ, zero, suc, ◌+◌, ◌-◌, ◌*◌, ◌/◌, ◌%◌, ◌^◌, ◌≤◌, ◌<◌}
use native.Mathlib.Nat.{pow-suc, pow-le-pow_right}
use native.Mathlib.Numerals.{add-one}
use native.Mathlib.Omega.{arith}
use borrow.Author.Tests.{le-leb, leb-true, lt-ltb, ltb-true}
use lib.Dec.{leb, ltb}
use lib.ListN.{length, get_or, drop, length-append}
use Rattle.lists.proofs.Tests.{pass, stop, and_left, and_right}
use Rattle.text_writer.specs.Decimal.{digit, digits, decimal}
use Rattle.text_writer.proofs.Decimal.{one, step, split, tenth, length-decimal}
use Rattle.ppm_header.specs.Header.{is_digit, leading, number_from}

pub digit_says : (b : ℕ) → is_digit b ≡ true → (48 ≤ b) × (b ≤ 57)
digit_says b e = (leb-true 48 b (and_left (leb 48 b) (leb b 57) e), leb-true b 57 (and_right (leb 48 b) (leb b 57) e))

-- ---- one byte after the other

leading_more : (k a : ℕ) (s : List ℕ) (i : ℕ) → is_digit (get_or s i 0) ≡ true → leading (suc k) a (drop i s) ≡ leading k (10 * a + (get_or s i 0 - 48)) (drop (suc i) s)
unfolding leading
leading_more k a [] i e = let z : false ≡ true = e in cc
leading_more k a (b ∷ s) zero e = stop _ e
leading_more k a (b ∷ s) (suc i) e = leading_more k a s i e

leading_stop : (k a : ℕ) (s : List ℕ) (i : ℕ) → is_digit (get_or s i 0) ≡ false → leading k a (drop i s) ≡ a
unfolding leading
leading_stop zero a s i e = refl
leading_stop (suc k) a [] zero e = refl
leading_stop (suc k) a [] (suc i) e = refl
leading_stop (suc k) a (b ∷ s) zero e = pass _ e refl
leading_stop (suc k) a (b ∷ s) (suc i) e = leading_stop (suc k) a s i e

-- the loop's turn i of four, at the byte b
module _ (s : List ℕ) (at i n : ℕ) (so_far : leading (4 - i) n (drop (at + i) s) ≡ number_from s at) where
  module _ (b : ℕ) (is : b ≡ get_or s (at + i) 0) where
    pub number_next : {r : ℕ} → i < 4 → is_digit b ≡ true → r ≡ 10 * n + (b - 48) → leading (4 - (i + 1)) r (drop (at + (i + 1)) s) ≡ number_from s at
    number_next h e q =
        let k : 4 - i ≡ suc (4 - (i + 1)) = omega arith in
        let j : suc (at + i) ≡ at + (i + 1) = omega arith in
        ap₂ (λ (a m : ℕ). leading (4 - (i + 1)) a (drop m s)) (q ∙ ap (λ (c : ℕ). 10 * n + (c - 48)) is) (sym j)
        ∙ sym (leading_more (4 - (i + 1)) n s (at + i) (sym (ap is_digit is) ∙ e))
        ∙ ap (λ (m : ℕ). leading m n (drop (at + i) s)) (sym k)
        ∙ so_far

    pub number_stop : is_digit b ≡ false → n ≡ number_from s at
    number_stop e = sym (leading_stop (4 - i) n s (at + i) (sym (ap is_digit is) ∙ e)) ∙ so_far

  pub number-all : 4 ≤ i → n ≡ number_from s at
  unfolding leading
  number-all h = let k : 4 - i ≡ 0 = omega arith in sym (ap (λ (m : ℕ). leading m n (drop (at + i) s)) k) ∙ so_far

-- i digits are below 10 ^ i, so that one more has room in 16 bits
pub digits_below : (n i : ℕ) → i < 4 → n < 10 ^ i → n ≤ 999
digits_below n i h l = let p : 10 ^ i ≤ 10 ^ 3 = pow-le-pow_right (omega arith) {i = i} {j = 3} (omega arith) in omega arith

pub digits_next : (n i b : ℕ) {r : ℕ} → is_digit b ≡ true → r ≡ 10 * n + (b - 48) → n < 10 ^ i → r < 10 ^ (i + 1)
digits_next n i b e q l =
    let p : 10 ^ (i + 1) ≡ 10 ^ i * 10 = ap (λ (k : ℕ). 10 ^ k) (add-one i) ∙ pow-suc 10 i in
    omega (arith, (digit_says b e).1)

-- ---- digits give their number back

lead_one : (a d j : ℕ) (t : List ℕ) → d < 10 → leading (suc j) a (digit d ∷ t) ≡ leading j (10 * a + d) t
unfolding leading
lead_one a d j t h =
    let v : 10 * a + (48 + d - 48) ≡ 10 * a + d = omega arith in
    stop _ (ap₂ ◌&&◌ (le-leb 48 (48 + d) (omega arith)) (le-leb (48 + d) 57 (omega arith))) ∙ ap (λ (m : ℕ). leading j m t) v

only_one : (k n j : ℕ) (t : List ℕ) → n < 10 → leading (length (digits (suc k) n) + j) 0 (digits (suc k) n ++ t) ≡ leading j n t
only_one k n j t h =
    let m : 1 + j ≡ suc j = omega arith in
    let v : 10 * 0 + n ≡ n = omega arith in
    ap (λ (p : List ℕ). leading (length p + j) 0 (p ++ t)) (one k n (lt-ltb n 10 h))
    ∙ ap (λ (i : ℕ). leading i 0 (digit n ∷ t)) m
    ∙ lead_one 0 n j t h
    ∙ ap (λ (i : ℕ). leading j i t) v

-- the digits of a number, and what follows them
lead_digits : (k n j : ℕ) (t : List ℕ) → n < 10 ^ suc k → leading (length (digits (suc k) n) + j) 0 (digits (suc k) n ++ t) ≡ leading j n t
lead_digits zero n j t h = only_one zero n j t h
lead_digits (suc k) n j t h =
    split (ltb n 10)
    (λ e. only_one (suc k) n j t (ltb-true n 10 e))
    (λ e.
    let p : List ℕ = digits (suc k) (n / 10) in
    let d : ℕ = n % 10 in
    let m : length (p ++ (digit d ∷ [])) + j ≡ length p + suc j = omega (arith, length-append p (digit d ∷ [])) in
    let v : 10 * (n / 10) + d ≡ n = omega arith in
    ap (λ (q : List ℕ). leading (length q + j) 0 (q ++ t)) (step (suc k) n e)
    ∙ ap₂ (λ (i : ℕ) (q : List ℕ). leading i 0 q) m (append_assoc p (digit d ∷ []) t)
    ∙ lead_digits k (n / 10) (suc j) (digit d ∷ t) (tenth (suc k) n h)
    ∙ lead_one (n / 10) d j t (omega arith)
    ∙ ap (λ (i : ℕ). leading j i t) v)

-- a number of at most four digits, ended by a byte that is no digit
pub number_read : (n b : ℕ) (t : List ℕ) → n < 10 ^ 4 → is_digit b ≡ false → leading 4 0 (decimal n ++ (b ∷ t)) ≡ n
unfolding decimal
number_read n b t h e =
    let m : 4 ≡ length (decimal n) + (4 - length (decimal n)) = omega (arith, length-decimal 3 n h) in
    ap (λ (i : ℕ). leading i 0 (decimal n ++ (b ∷ t))) m
    ∙ lead_digits 19 n (4 - length (decimal n)) (b ∷ t) (omega arith)
    ∙ leading_stop (4 - length (decimal n)) n (b ∷ t) 0 e
