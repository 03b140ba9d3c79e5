-- One point is answered as a line of one is. Assumes nothing.
use mathlib.Core.Path.{◌≡◌, refl, sym, ap, ap₂, ◌∙◌}
use mathlib.Core.Bool.{Bool, true, false, not, ◌&&◌, true≢false}
use mathlib.Core.List.{List}
use Prim.Native.Nat.{ℕ, ◌*◌, ◌/◌, ◌%◌, ◌<◌}
use native.Mathlib.Nat.{mul-div_cancel, mul-mod_left}
use native.Mathlib.Omega.{arith}
use borrow.Author.Tests.{eq-eqb, le-leb, eqb-true}
use lib.Dec.{eqb, lit<}
use lib.Ieee.{Float, nan}
use lib.ListN.{length, get_or}
use Rattle.lists.specs.Lists.{new_or_kept}
use Rattle.lists.proofs.Lists.{get_or-tabulate}
use Rattle.lists.proofs.Tests.{pass, stop}
use Rattle.layout.specs.declared.Layout.{Layout}
use Rattle.layout.specs.Layout.{grouped, valid_points}
use Rattle.layout.proofs.Facts.{points_say, not_grouped}
use Rattle.line.specs.Answer.{most_points, fitting}
use Rattle.line.specs.Line.{points_in}
use Rattle.line.proofs.Own.{own_points}
use Rattle.line.proofs.Answers.{fits, unpack_outside, unpack_unfit, unpack_points_lem}
use Rattle.line_values.specs.Decode.{value_at, values_of, decode_answer}
use Rattle.std.specs.Prelude.{Result, Ok, Err, is_ok}
use Rattle.refusal.specs.declared.Refusal.{Refusal}
use Rattle.refusal.specs.declared.Refusal.TheVariants.{Outside}
use Rattle.parameters.specs.declared.channels.Channels.{Channels}
use Rattle.decoding.specs.Point.{first_point, decode_point}

-- the first three floats of a line
abbrev pub first_of : List Float → Channels Float
first_of vs = record { channel0 = get_or vs 0 nan; channel1 = get_or vs 1 nan; channel2 = get_or vs 2 nan }

-- a line's answer and values, as a point's
abbrev pub shown : Result ℕ Refusal → List Float → Result (Channels Float) Refusal
shown (Ok n) vs = Ok (first_of vs)
shown (Err k) vs = Err k

-- b bytes a point and three floats: the bytes are b
pub one-fits : (n b : ℕ) → 0 < b → fitting n b 3 3 ≡ eqb n b
one-fits n b pos = go (eqb n b) (fitting n b 3 3) refl refl
  where
    go : (t u : Bool) → eqb n b ≡ t → fitting n b 3 3 ≡ u → u ≡ t
    go true true p q = refl
    go false false p q = refl
    go true false p q =
        let e : n ≡ 1 * b = omega (arith, eqb-true n b p) in
        let d : n / b ≡ 1 = ap (λ (x : ℕ). x / b) e ∙ mul-div_cancel 1 pos in
        let r : n % b ≡ 0 = ap (λ (x : ℕ). x % b) e ∙ mul-mod_left 1 b in
        let whole = ap₂ ◌&&◌ (eq-eqb (n % b) 0 r) (le-leb (n / b) most_points (omega arith)) in
        sym q ∙ ap₂ ◌&&◌ whole (eq-eqb 3 (3 * (n / b)) (omega arith))
    go false true p q =
        let h = fits n b 3 3 q in
        let d : n / b ≡ 1 = omega (arith, h.2) in
        let e : n ≡ b = h.0 ∙ ap (λ (x : ℕ). x * b) d ∙ omega arith in
        sym (eq-eqb n b e) ∙ p

module _ (l : Layout) (own : grouped l ≡ false) (s : List ℕ) where
  first_of_lem : points_in l (length s) ≡ 1 → first_of (values_of l s) ≡ first_point l s
  unfolding values_of first_point
  first_of_lem e =
      let at : (j : ℕ) → j < 3 → get_or (values_of l s) j nan ≡ value_at l s j = λ j h. get_or-tabulate (3 * points_in l (length s)) (value_at l s) j nan (omega arith) in
      rw (at 0 (lit< tt), at 1 (lit< tt), at 2 (lit< tt))

  pub as_line : decode_point l s ≡ shown (decode_answer l (length s) 3) (values_of l s)
  unfolding decode_point
  as_line = go (valid_points l) (eqb (length s) l.bytes) refl refl
    where
      go : (v t : Bool) → valid_points l ≡ v → eqb (length s) l.bytes ≡ t → decode_point l s ≡ shown (decode_answer l (length s) 3) (values_of l s)
      go false t p q = stop _ (ap not p) ∙ sym (ap (λ a. shown a (values_of l s)) (unpack_outside l own (length s) 3 p))
      go true false p q =
          let pos : 0 < l.bytes = omega (arith, (points_say l p).bytes_least) in
          pass _ (ap not p) (stop _ (ap not q))
          ∙ sym (ap (λ a. shown a (values_of l s)) (unpack_unfit l own (length s) 3 p (one-fits (length s) l.bytes pos ∙ q)))
      go true true p q =
          let pos : 0 < l.bytes = omega (arith, (points_say l p).bytes_least) in
          let f = one-fits (length s) l.bytes pos ∙ q in
          let d : length s / l.bytes ≡ 1 = omega (arith, (fits (length s) l.bytes 3 3 f).2) in
          pass _ (ap not p) (pass _ (ap not q) (ap Ok (sym (first_of_lem (own_points l own (length s) ∙ d)))))
          ∙ sym (ap (λ a. shown a (values_of l s)) (unpack_points_lem l own (length s) 3 p f))

  -- what the line's decoding answers and leaves is what the point's answers
  pub point_decoded : (before xs : List Float) (n : ℕ) → Ok n ≡ decode_answer l (length s) 3 → xs ≡ new_or_kept (is_ok (decode_answer l (length s) 3)) (values_of l s) before → Ok (first_of xs) ≡ decode_point l s
  point_decoded before xs n e f =
      ap (λ vs. Ok (first_of vs)) (f ∙ ap (λ (a : Result ℕ Refusal). new_or_kept (is_ok a) (values_of l s) before) (sym e))
      ∙ ap (λ a. shown a (values_of l s)) e ∙ sym as_line

  pub point_refused : (k : Refusal) → Err k ≡ decode_answer l (length s) 3 → Err k ≡ decode_point l s
  point_refused k e = ap (λ a. shown a (values_of l s)) e ∙ sym as_line

-- of groups there is no point
pub no_point : (l : Layout) (s : List ℕ) → grouped l ≡ true → Err Outside ≡ decode_point l s
unfolding decode_point
no_point l s e = sym (stop _ (ap not (go (valid_points l) refl)))
  where
    go : (t : Bool) → valid_points l ≡ t → valid_points l ≡ false
    go true v = let z : true ≡ false = sym e ∙ not_grouped l v in absurd (true≢false z)
    go false v = v
