-- The claims of specs/Claims.antt. Assumes nothing.
use mathlib.Core.Path.{◌≡◌, refl, sym, ap, ◌∙◌}
use mathlib.Core.List.{List, [], ◌∷◌, ◌++◌}
use Prim.Native.Nat.{ℕ, zero, suc, ◌+◌, ◌-◌, ◌*◌, ◌/◌, ◌%◌, ◌^◌, ◌<◌}
use native.Mathlib.Omega.{arith}
use borrow.Author.Tests.{ltb-false, lt-ltb}
use lib.Dec.{ltb}
use lib.ListN.{length, get_or, length-append, get_or-append}
use Rattle.text_writer.specs.Decimal.{digit, digits, decimal}
use Rattle.text_writer.specs.Claims.{value_after, StandsForIt, NoZeroInFront}
use Rattle.text_writer.proofs.Decimal.{one, step, split, tenth}

-- one digit more
value_more : (a : ℕ) (p : List ℕ) (d : ℕ) → value_after a (p ++ (d ∷ [])) ≡ 10 * value_after a p + (d - 48)
unfolding value_after
value_more a [] d = refl
value_more a (x ∷ p) d = value_more (10 * a + (x - 48)) p d

value_one : (n : ℕ) → value_after 0 (digit n ∷ []) ≡ n
unfolding value_after
value_one n = omega arith

value_digits : (k n : ℕ) → n < 10 ^ suc k → value_after 0 (digits (suc k) n) ≡ n
value_digits zero n h = ap (value_after 0) (one 0 n (lt-ltb n 10 h)) ∙ value_one n
value_digits (suc k) n h =
    split (ltb n 10)
    (λ e. ap (value_after 0) (one (suc k) n e) ∙ value_one n)
    (λ e.
    let v : value_after 0 (digits (suc k) (n / 10)) ≡ n / 10 = value_digits k (n / 10) (tenth (suc k) n h) in
    ap (value_after 0) (step (suc k) n e) ∙ value_more 0 (digits (suc k) (n / 10)) (digit (n % 10)) ∙ (omega arith))

pub stands_for_it : StandsForIt
unfolding decimal
stands_for_it n h = value_digits 19 n (omega arith)

-- there is a digit
some : (k n : ℕ) → 0 < length (digits (suc k) n)
some k n =
    split (ltb n 10)
    (λ e. omega (arith, ap length (one k n e)))
    (λ e. omega (arith, ap length (step k n e), length-append (digits k (n / 10)) (digit (n % 10) ∷ [])))

front-digits : (k n : ℕ) → n < 10 ^ suc k → get_or (digits (suc k) n) 0 0 ≡ 48 → n ≡ 0
front-digits zero n h z = let e : get_or (digits 1 n) 0 0 ≡ 48 + n = ap (λ (p : List ℕ). get_or p 0 0) (one 0 n (lt-ltb n 10 h)) in omega arith
front-digits (suc k) n h z =
    split (ltb n 10)
    (λ e. let g : get_or (digits (suc (suc k)) n) 0 0 ≡ 48 + n = ap (λ (p : List ℕ). get_or p 0 0) (one (suc k) n e) in omega arith)
    (λ e.
    let f : get_or (digits (suc (suc k)) n) 0 0 ≡ get_or (digits (suc k) (n / 10)) 0 0 = ap (λ (p : List ℕ). get_or p 0 0) (step (suc k) n e) ∙ get_or-append (digits (suc k) (n / 10)) (digit (n % 10) ∷ []) 0 0 (some k (n / 10)) in
    omega (arith, front-digits k (n / 10) (tenth (suc k) n h) (sym f ∙ z), ltb-false n 10 e))

pub no_zero_in_front : NoZeroInFront
unfolding decimal
no_zero_in_front n h = front-digits 19 n (omega arith)
