-- Pieces stored one after the other. Assumes nothing.
use mathlib.Core.Path.{◌≡◌, refl, sym, ap, ap₂, ◌∙◌, subst}
use mathlib.Core.List.{List, [], ◌∷◌, ◌++◌}
use Prim.Native.Nat.{ℕ, ◌+◌, ◌-◌, ◌≤◌, ◌<◌, suc, min}
use native.Mathlib.Omega.{arith, min_cases}
use borrow.Rule.Slice.PartMut.{put_mid}
use lib.ListN.{length, take, drop, length-append, take-append-drop, drop_of_length-le}
use lib.Seq.{sets, sets-eq, set_out, length-sets, length-take-le, take_at}
use Rattle.lists.proofs.Copies.{sets_join, copied}
use Rattle.text_writer.specs.declared.TextWriter.{TextWriter}
use Rattle.text_writer.specs.Put.{Put, Wrote}

-- stores behind the end change nothing
sets_past : (xs : List ℕ) (at : ℕ) (p : List ℕ) → length xs ≤ at → sets xs at p ≡ xs
sets_past xs at [] h = refl
sets_past xs at (a ∷ p) h = ap (λ (ys : List ℕ). sets ys (suc at) p) (set_out xs at a h) ∙ sets_past xs (suc at) p (omega arith)

-- and so do those from the end on
sets_end : (xs : List ℕ) (at : ℕ) (p : List ℕ) → sets xs (min at (length xs)) p ≡ sets xs at p
sets_end xs at p =
    min_cases at (length xs) (sets xs (min at (length xs)) p ≡ sets xs at p)
    (λ h e. ap (λ (m : ℕ). sets xs m p) e)
    (λ h e. sets_past xs (min at (length xs)) p (omega arith) ∙ sym (sets_past xs at p h))

module _ {p q xs ys zs : List ℕ} {at m next : ℕ} where
  pub put_join : Put p at xs ys m → Put q m ys zs next → Put (p ++ q) at xs zs next
  put_join a b =
      let l : length ys ≡ length xs = ap length a.holds ∙ length-sets xs at p in
      let e : m ≡ min (at + length p) (length ys) = a.ends ∙ ap (min (at + length p)) (sym l) in
      record {
        holds = b.holds ∙ ap (λ (k : ℕ). sets ys k q) e ∙ sets_end ys (at + length p) q ∙ ap (λ (ws : List ℕ). sets ws (at + length p) q) a.holds ∙ sets_join xs at p q;
        ends = omega (arith, a.ends, b.ends, l, length-append p q);
      }

-- a text by another name
pub put_as : {p q xs ys : List ℕ} {at next : ℕ} → p ≡ q → Put p at xs ys next → Put q at xs ys next
put_as {p} {q} {xs} {ys} {at} {next} e a = subst (λ (t : List ℕ). Put t at xs ys next) e a

-- and the same of a writer
module _ {p q : List ℕ} {w₀ w₁ : TextWriter} where
  pub wrote_join : {w₂ : TextWriter} → Wrote p w₀ w₁ → Wrote q w₁ w₂ → Wrote (p ++ q) w₀ w₂
  wrote_join a b = record { stored = put_join a.stored b.stored; lent = b.lent ∙ a.lent }

  pub wrote_as : p ≡ q → Wrote p w₀ w₁ → Wrote q w₀ w₁
  wrote_as e a = record { stored = put_as e a.stored; lent = a.lent }

-- it is then within its output
pub wrote_within : {p : List ℕ} {w₀ w₁ : TextWriter} → Wrote p w₀ w₁ → w₁.at ≤ length w₁.out.now
wrote_within {p} {w₀} w = omega (arith, w.stored.ends, ap length w.stored.holds, length-sets w₀.out.now w₀.at p)

-- what a writer that began at an output's front left there
pub wrote_all : {p xs ys : List ℕ} {w₀ w₁ : TextWriter} → Wrote p w₀ w₁ → w₀.out.now ≡ xs → w₀.at ≡ 0 → ys ≡ w₁.out.now → Put p 0 xs ys w₁.at
wrote_all {p} {xs} {ys} {w₀} {w₁} w same front after =
    record {
      holds = after ∙ w.stored.holds ∙ ap₂ (λ (zs : List ℕ) (k : ℕ). sets zs k p) same front;
      ends = w.stored.ends ∙ ap₂ (λ (zs : List ℕ) (k : ℕ). min (k + length p) (length zs)) same front;
    }

-- ---- a piece, as far as the output goes

module _ (p xs : List ℕ) (at : ℕ) where
  -- nothing of it fits, or there is nothing of it
  pub put_none : (end : ℕ) → end ≡ min (at + length p) (length xs) → end ≤ at → Put p at xs xs end
  put_none end e h =
      record {
        holds =
            min_cases (at + length p) (length xs) (xs ≡ sets xs at p)
            (λ l m. sym (sets_nothing p (omega (arith, e, h, m))))
            (λ l m. sym (sets_past xs at p (omega (arith, e, h, m))));
        ends = e;
      }
    where
      sets_nothing : (q : List ℕ) → length q ≡ 0 → sets xs at q ≡ xs
      sets_nothing [] k = refl
      sets_nothing (a ∷ q) k = absurd (omega (arith, k))

  -- its front is copied, and no more of it fits
  module _ (end : ℕ) (e : end ≡ min (at + length p) (length xs)) (h : at < end) where
    abbrev n : ℕ
    n = end - at

    pub front_length : length (take n p) ≡ n
    front_length = length-take-le n p (min_cases (at + length p) (length xs) (n ≤ length p) (λ k m. omega (arith, e, m)) (λ k m. omega (arith, e, m)))

    pub front_fits : end ≤ length xs
    front_fits = min_cases (at + length p) (length xs) (end ≤ length xs) (λ k m. omega (arith, e, m)) (λ k m. omega (arith, e, m))

    rest : sets (sets xs at (take n p)) (at + length (take n p)) (drop n p) ≡ sets xs at (take n p)
    rest =
        min_cases (at + length p) (length xs) (sets (sets xs at (take n p)) (at + length (take n p)) (drop n p) ≡ sets xs at (take n p))
        (λ k m. ap (sets (sets xs at (take n p)) (at + length (take n p))) (let g : length p ≤ n = omega (arith, e, m) in drop_of_length-le p g))
        (λ k m. sets_past (sets xs at (take n p)) (at + length (take n p)) (drop n p) (omega (arith, e, m, front_length, length-sets xs at (take n p))))

    pub put_front : (ys : List ℕ) → ys ≡ take n p → Put p at xs (put_mid at n xs ys) end
    put_front ys c =
        let q = take n p in
        let m : n ≡ at + length q - at = omega (arith, front_length) in
        let s : put_mid at n xs ys ≡ sets xs at q
        = ap (λ (k : ℕ). put_mid at k xs ys) m
        ∙ copied xs q ys at (omega (arith, front_length, front_fits)) c in
        record { holds = s ∙ sym rest ∙ sets_join xs at q (drop n p) ∙ ap (sets xs at) (take-append-drop n p); ends = e }

-- a text at the front of an output that can hold it, and behind it what was there before
pub front : {p xs ys : List ℕ} {next : ℕ} → length p ≤ length xs → Put p 0 xs ys next → (next ≡ length p) × (ys ≡ p ++ drop next xs)
front {p} {xs} {ys} {next} h a =
    let e : next ≡ length p = omega (arith, a.ends) in
    let f : 0 + length p ≡ next = omega arith in
    (e, a.holds ∙ sets-eq p xs 0 (omega arith) ∙ ap (λ (k : ℕ). p ++ drop k xs) f)

-- so that the text is what is in front of its end
pub stored : {p xs ys : List ℕ} {next : ℕ} → length p ≤ length xs → Put p 0 xs ys next → take next ys ≡ p
stored {p} {xs} {ys} {next} h a = let f = front h a in ap (take next) f.1 ∙ take_at p (drop next xs) next (sym f.0)

pub stored-length : {p xs ys : List ℕ} {next : ℕ} → length p ≤ length xs → Put p 0 xs ys next → next ≡ length (take next ys)
stored-length h a = (front h a).0 ∙ sym (ap length (stored h a))
