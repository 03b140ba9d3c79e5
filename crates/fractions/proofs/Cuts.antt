-- Whether the clamp cuts a rounded number, in natural numbers: of (p - n) / c both roundings are told by 2 p + c - 2 n over 2 c with 4096 more, which is not negative near the ends. Assumes nothing.
use mathlib.Core.Path.{◌≡◌, refl, sym, ap, ap₂, ◌∙◌}
use mathlib.Core.Bool.{Bool, true, false, cond, ◌||◌}
use Prim.Native.Nat.{ℕ, zero, suc, ◌+◌, ◌-◌, ◌*◌, ◌/◌, ◌≤◌, ◌<◌}
use native.Mathlib.Nat.{one-mul, zero-mul, add-mul, mul_right_comm, mul-le-mul_right, mul-lt-mul_of_pos_right, le_of_mul-le-mul_right, lt_of_mul-lt-mul_right, le-div_iff_mul-le, div-lt_iff_lt-mul}
use native.Mathlib.Omega.{arith}
use borrow.Author.Tests.{ltb-true, ltb-false, lt-ltb, le-ltb, leb-true, leb-false, le-leb, lt-leb}
use lib.Dec.{ltb, leb}
use lib.IntN.{ℤ, pos, neg_ℤ, ◌+ℤ◌, ◌-ℤ◌}
use Rattle.fractions.specs.Fraction.{◌over◌, quotient, half_up, half_away, is_cut}
use Rattle.fractions.proofs.Integers.{minus_cases, times, plus_pos}

-- a / d - 4096, rounded down, lies outside low .. high; where the lower end is strict, the number low does too
abbrev pub outside : Bool → ℕ → ℕ → ℕ → ℕ → Bool
outside strict low high a d = ltb a ((low + 4096) * d + cond strict 1 0) || leb ((high + 4097) * d) a

-- ---- tests of one outcome
same_lt : (a b c d : ℕ) → (a < b → c < d) → (c < d → a < b) → ltb a b ≡ ltb c d
same_lt a b c d f g = go (ltb a b) refl
  where
    go : (t : Bool) → ltb a b ≡ t → t ≡ ltb c d
    go true e = sym (lt-ltb c d (f (ltb-true a b e)))
    go false e = sym (le-ltb c d (no (ltb c d) refl))
      where
        no : (t : Bool) → ltb c d ≡ t → d ≤ c
        no true h = let x = g (ltb-true c d h) in let y = ltb-false a b e in absurd (omega arith)
        no false h = ltb-false c d h

lt_as_le : (a b c d : ℕ) → (a < b → c ≤ d) → (c ≤ d → a < b) → ltb a b ≡ leb c d
lt_as_le a b c d f g = same_lt a b c (d + 1) (λ h. let x = f h in omega arith) (λ h. g (omega arith)) ∙ step c d
  where
    step : (c d : ℕ) → ltb c (d + 1) ≡ leb c d
    step c d = go (leb c d) refl
      where
        go : (t : Bool) → leb c d ≡ t → ltb c (d + 1) ≡ t
        go true e = let x = leb-true c d e in lt-ltb c (d + 1) (omega arith)
        go false e = let x = leb-false c d e in le-ltb c (d + 1) (omega arith)

-- ---- it sees only the value of a / d
module _ (k a d b e : ℕ) (D : 0 < d) (E : 0 < e) (h : a * e ≡ b * d) where
  swap : k * d * e ≡ k * e * d
  swap = mul_right_comm k d e

  up_to : a ≤ k * d → b ≤ k * e
  up_to l = le_of_mul-le-mul_right {k = d} (omega (arith, mul-le-mul_right e l, swap)) D

  below : a < k * d → b < k * e
  below l = lt_of_mul-lt-mul_right d (omega (arith, mul-lt-mul_of_pos_right l E, swap))

pub outside_same : (strict : Bool) (low high a d b e : ℕ) → 0 < d → 0 < e → a * e ≡ b * d → outside strict low high a d ≡ outside strict low high b e
outside_same strict low high a d b e D E h = ap₂ (λ (s t : Bool). s || t) (lower strict) upper
  where
    lower : (strict : Bool) → ltb a ((low + 4096) * d + cond strict 1 0) ≡ ltb b ((low + 4096) * e + cond strict 1 0)
    lower false =
        same_lt a ((low + 4096) * d + 0) b ((low + 4096) * e + 0)
        (λ l. let x = below (low + 4096) a d b e D E h (omega arith) in omega arith)
        (λ l. let x = below (low + 4096) b e a d E D (sym h) (omega arith) in omega arith)
    lower true =
        same_lt a ((low + 4096) * d + 1) b ((low + 4096) * e + 1)
        (λ l. let x = up_to (low + 4096) a d b e D E h (omega arith) in omega arith)
        (λ l. let x = up_to (low + 4096) b e a d E D (sym h) (omega arith) in omega arith)

    upper : leb ((high + 4097) * d) a ≡ leb ((high + 4097) * e) b
    upper = go (leb ((high + 4097) * d) a) refl
      where
        go : (t : Bool) → leb ((high + 4097) * d) a ≡ t → t ≡ leb ((high + 4097) * e) b
        go false l = sym (lt-leb ((high + 4097) * e) b (below (high + 4097) a d b e D E h (leb-false ((high + 4097) * d) a l)))
        go true l = sym (le-leb ((high + 4097) * e) b (no (leb ((high + 4097) * e) b) refl))
          where
            no : (t : Bool) → leb ((high + 4097) * e) b ≡ t → (high + 4097) * e ≤ b
            no true m = leb-true ((high + 4097) * e) b m
            no false m = let x = below (high + 4097) b e a d E D (sym h) (leb-false ((high + 4097) * e) b m) in let y = leb-true ((high + 4097) * d) a l in absurd (omega arith)

-- ---- a number that is not negative, 4096 more
by-quotient : (low high x d : ℕ) → 0 < d → (ltb (x / d) low ≡ ltb (x + 4096 * d) ((low + 4096) * d + 0)) × (ltb high (x / d) ≡ leb ((high + 4097) * d) (x + 4096 * d))
by-quotient low high x d D =
    let l = add-mul low 4096 d in
    let h = add-mul high 4097 d in
    let s : suc high * d ≡ high * d + d = omega (arith, add-mul high 1 d) in (
      same_lt (x / d) low (x + 4096 * d) ((low + 4096) * d + 0) (λ q. let y = (div-lt_iff_lt-mul D).0 q in omega arith) (λ q. (div-lt_iff_lt-mul D).1 (omega arith)),
      lt_as_le high (x / d) ((high + 4097) * d) (x + 4096 * d) (λ q. let y : suc high * d ≤ x = (le-div_iff_mul-le D).0 q in omega arith) (λ q. let y : suc high * d ≤ x = omega arith in (le-div_iff_mul-le D).1 y),
    )

module _ (low high p n c : ℕ) (C : 0 < c) where
  -- ---- floor(1/2 + x)
  pub half_up_cut : is_cut low high (half_up (pos p -ℤ pos n over c)) ≡ outside false low high (2 * p + c + 4096 * (2 * c) - 2 * n) (2 * c)
  half_up_cut =
      ap (λ (z : ℤ). is_cut low high (quotient (z +ℤ pos c) (2 * c))) (times 2 p n)
      ∙ ap (λ (z : ℤ). is_cut low high (quotient z (2 * c))) (plus_pos (2 * p) (2 * n) c)
      ∙ minus_cases (λ (z : ℤ). is_cut low high (quotient z (2 * c)) ≡ outside false low high (2 * p + c + 4096 * (2 * c) - 2 * n) (2 * c)) (2 * p + c) (2 * n)
      (λ l.
      let e : 2 * p + c - 2 * n + 4096 * (2 * c) ≡ 2 * p + c + 4096 * (2 * c) - 2 * n = omega arith in
      let q = by-quotient low high (2 * p + c - 2 * n) (2 * c) (omega arith) in
      ap₂ (λ (s t : Bool). s || t) q.0 q.1 ∙ ap (λ (a : ℕ). outside false low high a (2 * c)) e)
      (λ l. sym (ap (λ (t : Bool). t || leb ((high + 4097) * (2 * c)) (2 * p + c + 4096 * (2 * c) - 2 * n)) (lt-ltb (2 * p + c + 4096 * (2 * c) - 2 * n) ((low + 4096) * (2 * c) + 0) (omega (arith, add-mul low 4096 (2 * c))))))

  -- ---- Round(x), whose low end is 0: of -1/2 it is -1
  pub half_away_cut : is_cut 0 high (half_away (pos p -ℤ pos n over c)) ≡ outside true 0 high (2 * p + c + 4096 * (2 * c) - 2 * n) (2 * c)
  half_away_cut =
      minus_cases (λ (z : ℤ). is_cut 0 high (half_away (z over c)) ≡ outside true 0 high (2 * p + c + 4096 * (2 * c) - 2 * n) (2 * c)) p n
      (λ l. at_pos (p - n) (2 * p + c + 4096 * (2 * c) - 2 * n) (omega arith))
      (λ l. at_neg (suc (n - suc p)) (2 * p + c + 4096 * (2 * c) - 2 * n) (omega arith) (omega arith))
    where
      -- not below
      inside : (a : ℕ) (t : Bool) → 4096 * (2 * c) < a → t ≡ leb ((high + 4097) * (2 * c)) a → t ≡ outside true 0 high a (2 * c)
      inside a t l e = e ∙ sym (ap (λ (s : Bool). s || leb ((high + 4097) * (2 * c)) a) (le-ltb a ((0 + 4096) * (2 * c) + 1) (omega arith)))

      at_pos : (m a : ℕ) → 2 * m + c + 4096 * (2 * c) ≡ a → is_cut 0 high (half_away (pos m over c)) ≡ outside true 0 high a (2 * c)
      at_pos zero a e = ap (λ (x : ℕ). is_cut 0 high (pos x)) (zero-mul ((0 + c) / (2 * c))) ∙ inside a (ltb high 0) (omega arith) (le-ltb high 0 (omega arith) ∙ sym (lt-leb ((high + 4097) * (2 * c)) a (omega (arith, add-mul high 4097 (2 * c)))))
      at_pos (suc m) a e =
          let x = 2 * suc m + c in
          ap (λ (y : ℕ). is_cut 0 high (pos y)) (one-mul (x / (2 * c)))
          ∙ ap (λ (s : Bool). s || ltb high (x / (2 * c))) (le-ltb (x / (2 * c)) 0 (omega arith))
          ∙ inside a (ltb high (x / (2 * c))) (omega arith) ((by-quotient 0 high x (2 * c) (omega arith)).1 ∙ ap (leb ((high + 4097) * (2 * c))) e)

      -- -m / c: from a half on it is cut
      at_neg : (m a : ℕ) → 4096 * (2 * c) + c - 2 * m ≡ a → 0 < m → is_cut 0 high (neg_ℤ (pos (1 * ((2 * m + c) / (2 * c))))) ≡ outside true 0 high a (2 * c)
      at_neg m a e M = go (leb c (2 * m)) refl
        where
          high_end : leb ((high + 4097) * (2 * c)) a ≡ false
          high_end = lt-leb ((high + 4097) * (2 * c)) a (omega (arith, add-mul high 4097 (2 * c)))

          below : (q : ℕ) → 0 < q → is_cut 0 high (neg_ℤ (pos q)) ≡ true
          below zero h = absurd (omega arith)
          below (suc q) h = refl

          go : (t : Bool) → leb c (2 * m) ≡ t → is_cut 0 high (neg_ℤ (pos (1 * ((2 * m + c) / (2 * c))))) ≡ outside true 0 high a (2 * c)
          go true h =
              let l = leb-true c (2 * m) h in
              let q : 1 ≤ (2 * m + c) / (2 * c) = (le-div_iff_mul-le {k = 2 * c} (omega arith)).1 (omega arith) in
              below (1 * ((2 * m + c) / (2 * c))) (omega (arith, one-mul ((2 * m + c) / (2 * c))))
              ∙ sym (ap (λ (s : Bool). s || leb ((high + 4097) * (2 * c)) a) (lt-ltb a ((0 + 4096) * (2 * c) + 1) (omega arith)))
          go false h =
              let l = leb-false c (2 * m) h in
              let q : (2 * m + c) / (2 * c) < 1 = (div-lt_iff_lt-mul {k = 2 * c} {x = 2 * m + c} {y = 1} (omega arith)).1 (omega arith) in
              let z : 1 * ((2 * m + c) / (2 * c)) ≡ 0 = omega (arith, one-mul ((2 * m + c) / (2 * c))) in
              ap (λ (x : ℕ). is_cut 0 high (neg_ℤ (pos x))) z
              ∙ inside a (ltb high 0) (omega arith) (le-ltb high 0 (omega arith) ∙ sym high_end)
