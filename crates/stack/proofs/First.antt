-- The first index that passes a test: what one turn of a search knows. Assumes nothing.
use Prim.Native.Nat.{ℕ, zero, suc, ◌+◌, ◌-◌, ◌≤◌, ◌<◌}
use mathlib.Core.Bool.{Bool, true, false, cond}
use mathlib.Core.Path.{◌≡◌, refl, sym, ap, ◌∙◌}
use mathlib.Core.Logic.{◌⊎◌, inl, inr, ⊎_elim}
use native.Mathlib.Nat.{eq-or-lt_of_le}
use native.Mathlib.Omega.{arith}
use Rattle.std.specs.Prelude.{Ok, Err}
use Rattle.refusal.specs.declared.Refusal.{Refusal}
use Rattle.refusal.specs.declared.Refusal.TheVariants.{NoItem}
use Rattle.stack.specs.Finding.{first}

module _ (p : ℕ → Bool) where
  -- at i, of the n - i that are left
  pub first-none : (n i : ℕ) → i ≡ n → first p i (n - i) ≡ Err NoItem
  unfolding first
  first-none n i e = let z : n - i ≡ 0 = omega arith in ap (first p i) z

  pub first_hit : (n i : ℕ) → i < n → p i ≡ true → first p i (n - i) ≡ Ok i
  unfolding first
  first_hit n i h e = let z : n - i ≡ suc (n - (i + 1)) = omega arith in ap (first p i) z ∙ ap (λ (b : Bool). cond b (Ok i) (first p (i + 1) (n - (i + 1)))) e

  pub first_miss : (n i : ℕ) → i < n → p i ≡ false → first p i (n - i) ≡ first p (i + 1) (n - (i + 1))
  unfolding first
  first_miss n i h e = let z : n - i ≡ suc (n - (i + 1)) = omega arith in ap (first p i) z ∙ ap (λ (b : Bool). cond b (Ok i) (first p (i + 1) (n - (i + 1)))) e

-- what an answer says: the first index of the n from i on that passes the test
pub record FirstIs (p : ℕ → Bool) (i n k : ℕ) : Type 0 where
  pub low : i ≤ k
  pub high : k < i + n
  pub passes : p k ≡ true
  pub before : (j : ℕ) → i ≤ j → j < k → p j ≡ false

pub not_at : {refusal : Refusal} {k : ℕ} → Err refusal ≡ Ok k → ⊥
not_at e = cc

pub first_is : (p : ℕ → Bool) (i n k : ℕ) → first p i n ≡ Ok k → FirstIs p i n k
unfolding first
first_is p i zero k e = absurd (not_at e)
first_is p i (suc n) k e = go (p i) refl (first_is p (i + 1) n k) e
  where
    go : (b : Bool) → p i ≡ b → (first p (i + 1) n ≡ Ok k → FirstIs p (i + 1) n k) → cond b (Ok i) (first p (i + 1) n) ≡ Ok k → FirstIs p i (suc n) k
    go true q rec e = let z : i ≡ k = cc in record { low = omega arith; high = omega arith; passes = ap p (sym z) ∙ q; before = λ j l h. absurd (omega arith) }
    go false q rec e =
        let r = rec e in
        record {
          low = omega arith;
          high = omega arith;
          passes = r.passes;
          before = λ j l h. ⊎_elim (λ z. ap p (sym z) ∙ q) (λ lt. r.before j (omega arith) h) (eq-or-lt_of_le l);
        }

-- or that none does
pub none_is : (p : ℕ → Bool) (i n : ℕ) (m : Refusal) → first p i n ≡ Err m → (j : ℕ) → i ≤ j → j < i + n → p j ≡ false
unfolding first
none_is p i zero m e j l h = absurd (omega arith)
none_is p i (suc n) m e j l h = go (p i) refl (none_is p (i + 1) n m) e
  where
    go : (b : Bool) → p i ≡ b → (first p (i + 1) n ≡ Err m → (j : ℕ) → i + 1 ≤ j → j < i + 1 + n → p j ≡ false) → cond b (Ok i) (first p (i + 1) n) ≡ Err m → p j ≡ false
    go true q rec e = absurd (not_at (sym e))
    go false q rec e = ⊎_elim (λ z. ap p (sym z) ∙ q) (λ lt. rec e j (omega arith) (omega arith)) (eq-or-lt_of_le l)

-- and each is answered where it is so
pub is_first : (p : ℕ → Bool) (i n k : ℕ) → FirstIs p i n k → first p i n ≡ Ok k
unfolding first
is_first p i zero k r = absurd (omega (arith, r.low, r.high))
is_first p i (suc n) k r = go (is_first p (i + 1) n k) (eq-or-lt_of_le r.low)
  where
    go : (FirstIs p (i + 1) n k → first p (i + 1) n ≡ Ok k) → (i ≡ k) ⊎ (i < k) → cond (p i) (Ok i) (first p (i + 1) n) ≡ Ok k
    go rec (inl z) = ap (λ (b : Bool). cond b (Ok i) (first p (i + 1) n)) (ap p z ∙ r.passes) ∙ ap Ok z
    go rec (inr lt) =
        ap (λ (b : Bool). cond b (Ok i) (first p (i + 1) n)) (r.before i (omega arith) lt)
        ∙ rec record { low = omega arith; high = omega (arith, r.high); passes = r.passes; before = λ j l h. r.before j (omega arith) h }

pub is_none : (p : ℕ → Bool) (i n : ℕ) → ((j : ℕ) → i ≤ j → j < i + n → p j ≡ false) → first p i n ≡ Err NoItem
unfolding first
is_none p i zero h = refl
is_none p i (suc n) h = ap (λ (b : Bool). cond b (Ok i) (first p (i + 1) n)) (h i (omega arith) (omega arith)) ∙ is_none p (i + 1) n (λ j l u. h j (omega arith) (omega arith))
