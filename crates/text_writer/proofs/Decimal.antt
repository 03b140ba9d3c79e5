-- The digits of a number: all but the last are those of a tenth of it. Assumes nothing.
use mathlib.Core.Path.{◌≡◌, refl, sym, ap, ◌∙◌}
use mathlib.Core.Bool.{Bool, true, false}
use mathlib.Core.List.{List, [], ◌∷◌, ◌++◌}
use Prim.Native.Nat.{ℕ, zero, suc, ◌+◌, ◌/◌, ◌%◌, ◌^◌, ◌≤◌, ◌<◌}
use native.Mathlib.Nat.{pow-suc}
use native.Mathlib.Omega.{arith}
use borrow.Author.Tests.{lt-ltb, le-ltb}
use lib.Dec.{ltb}
use lib.ListN.{length, length-append}
use Rattle.lists.proofs.Tests.{pass, stop}
use Rattle.text_writer.specs.Decimal.{digit, digits, decimal}
use Rattle.text_writer.specs.declared.TextWriter.{TextWriter}
use Rattle.text_writer.specs.Put.{Wrote}
use Rattle.text_writer.proofs.Puts.{wrote_join, wrote_as}

pub one : (k n : ℕ) → ltb n 10 ≡ true → digits (suc k) n ≡ digit n ∷ []
unfolding digits
one k n e = stop _ e

pub step : (k n : ℕ) → ltb n 10 ≡ false → digits (suc k) n ≡ digits k (n / 10) ++ (digit (n % 10) ∷ [])
unfolding digits
step k n e = pass _ e refl

-- one digit, or more
pub split : {A : Type 0} (t : Bool) → (t ≡ true → A) → (t ≡ false → A) → A
split true a b = a refl
split false a b = b refl

pub tenth : (k n : ℕ) → n < 10 ^ suc k → n / 10 < 10 ^ k
tenth k n h = omega (arith, rw pow-suc at h)

-- more places than a number has change nothing
more : (k n : ℕ) → n < 10 ^ suc k → digits (suc (suc k)) n ≡ digits (suc k) n
more zero n h = one 1 n (lt-ltb n 10 h) ∙ sym (one 0 n (lt-ltb n 10 h))
more (suc k) n h =
    split (ltb n 10)
    (λ e. one (suc (suc k)) n e ∙ sym (one (suc k) n e))
    (λ e. step (suc (suc k)) n e
    ∙ ap (λ (front : List ℕ). front ++ (digit (n % 10) ∷ [])) (more k (n / 10) (tenth (suc k) n h))
    ∙ sym (step (suc k) n e))

decimal-one : (n : ℕ) → n < 10 → digit (n % 10) ∷ [] ≡ decimal n
unfolding decimal
decimal-one n h =
    let e : n % 10 ≡ n = omega arith in
    ap (λ (d : ℕ). digit d ∷ []) e ∙ sym (one 19 n (lt-ltb n 10 h))

decimal_more : (n : ℕ) → 10 ≤ n → n < 10 ^ 20 → decimal (n / 10) ++ (digit (n % 10) ∷ []) ≡ decimal n
unfolding decimal
decimal_more n l h = sym (step 19 n (le-ltb n 10 l) ∙ ap (λ (front : List ℕ). front ++ (digit (n % 10) ∷ [])) (sym (more 18 (n / 10) (tenth 19 n h))))

-- a number below 10 ^ j has at most j digits, but 0 has one
length_digits : (k j n : ℕ) → n < 10 ^ suc j → length (digits k n) ≤ suc j
unfolding digits
length_digits zero j n h = omega arith
length_digits (suc k) zero n h = omega (arith, ap length (one k n (lt-ltb n 10 h)))
length_digits (suc k) (suc j) n h =
    split (ltb n 10)
    (λ e. omega (arith, ap length (one k n e)))
    (λ e. omega (arith, ap length (step k n e), length-append (digits k (n / 10)) (digit (n % 10) ∷ []), length_digits k j (n / 10) (tenth (suc j) n h)))

pub length-decimal : (j n : ℕ) → n < 10 ^ suc j → length (decimal n) ≤ suc j
unfolding decimal
length-decimal j n h = length_digits 20 j n h

-- one digit, or one more than a tenth has
pub length-one : (n : ℕ) → n < 10 → length (decimal n) ≡ 1
length-one n h = ap length (sym (decimal-one n h))

pub length_more : (n : ℕ) → 10 ≤ n → n < 10 ^ 20 → length (decimal n) ≡ length (decimal (n / 10)) + 1
length_more n l h = ap length (sym (decimal_more n l h)) ∙ length-append (decimal (n / 10)) (digit (n % 10) ∷ [])

-- ---- stored digit by digit

pub number-one : (n : ℕ) {a b : TextWriter} → n < 10 → Wrote (digit (n % 10) ∷ []) a b → Wrote (decimal n) a b
number-one n h w = wrote_as (decimal-one n h) w

pub number_more : (n : ℕ) {a b c : TextWriter} → 10 ≤ n → n < 10 ^ 20 → Wrote (decimal (n / 10)) a b → Wrote (digit (n % 10) ∷ []) b c → Wrote (decimal n) a c
number_more n l h v w = wrote_as (decimal_more n l h) (wrote_join v w)
