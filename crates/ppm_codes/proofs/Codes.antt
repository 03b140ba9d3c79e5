-- The codes of a raster, filled in and looked at one a turn. Assumes nothing.
use mathlib.Core.Path.{◌≡◌, refl, sym, ap, ◌∙◌, subst}
use mathlib.Core.Bool.{Bool, true, false, ◌&&◌}
use mathlib.Core.List.{List, [], ◌∷◌}
use Prim.Native.Nat.{ℕ, ◌+◌, ◌*◌, ◌/◌, ◌≤◌, ◌<◌}
use native.Mathlib.Nat.{mul-add, mul-le-mul, mul-one}
use native.Mathlib.Omega.{arith}
use borrow.Author.Tests.{le-leb}
use lib.Dec.{leb}
use lib.ListN.{length, get_or, drop}
use Rattle.std.specs.Int.{w16, from_be_bytes}
use Rattle.lists.specs.Lists.{tabulate, every}
use Rattle.lists.proofs.Lists.{length-tabulate, get_or-tabulate}
use Rattle.lists.proofs.Every.{every_next, every_end, every_of}
use Rattle.lists.proofs.Filled.{Filled, filled_all}
use Rattle.lists.proofs.Tests.{pass, stop, and_true}
use Rattle.parameters.specs.declared.depth.Depth.{Depth}
use Rattle.parameters.specs.declared.depth.Depth.TheVariants.{Eight, Ten, Twelve}
use Rattle.parameters.specs.Parameters.{bits_of, top_of}
use Rattle.ppm_raster.specs.Raster.{code_bytes, holds}
use Rattle.ppm_codes.specs.Codes.{code_by, codes_by, taken_by}

module _ (s : List ℕ) where
  pub take_single : (i : ℕ) → get_or s i 0 ≡ code_by 1 s i
  unfolding code_by
  take_single i = refl

  pub take_one : (b i : ℕ) → b ≡ 1 → get_or s i 0 ≡ code_by b s i
  take_one b i e = rw e (take_single i)

  pub take_two : (b i : ℕ) → 1 ≤ b → b ≤ 2 → (b ≡ 1 → ⊥) → {c : ℕ} → c ≡ from_be_bytes w16 (get_or s (2 * i) 0 ∷ get_or s (2 * i + 1) 0 ∷ []) → c ≡ code_by b s i
  unfolding code_by
  take_two b i l m n e =
      let two : b ≡ 2 = omega arith in
      rw two (e ∙ (omega arith))

  pub codes_all : (b : ℕ) {out xs : List ℕ} {n : ℕ} → length out ≡ length s / b → n ≡ length out → Filled out (code_by b s) n xs → xs ≡ codes_by b s
  unfolding codes_by
  codes_all b {out} {xs} {n} e m f = filled_all 0 (sym m) f ∙ ap (λ (k : ℕ). tabulate k (code_by b s)) (m ∙ e)

-- code i lies within the bytes
pub code_inside : (b bytes codes i : ℕ) → i < codes → bytes ≡ b * codes → b * i + b ≤ bytes
code_inside b bytes codes i h e =
    let turn : b * (i + 1) ≤ b * codes = mul-le-mul {n₂ = b} {m₂ = codes} (omega arith) (omega arith) in
    omega (arith, e, mul-add b i 1, mul-one b)

-- ---- the output

module _ (b : ℕ) (s before : List ℕ) where
  pub taken_not : holds b (length s) (length before) ≡ false → before ≡ taken_by b s before
  unfolding taken_by
  taken_not e = sym (pass _ e refl)

  pub taken : holds b (length s) (length before) ≡ true → codes_by b s ≡ taken_by b s before
  unfolding taken_by
  taken e = sym (stop _ e)

-- ---- a scan of the codes

module _ (b : ℕ) (s : List ℕ) where
  pub length-codes_by : length (codes_by b s) ≡ length s / b
  unfolding codes_by
  length-codes_by = length-tabulate (length s / b) (code_by b s)

  pub codes_by_at : (k : ℕ) → k < length s / b → get_or (codes_by b s) k 0 ≡ code_by b s k
  unfolding codes_by
  codes_by_at k h = get_or-tabulate (length s / b) (code_by b s) k 0 h

module _ (b top : ℕ) (s : List ℕ) (i : ℕ) (ok : Bool) where
  pub scan_next : (c : ℕ) → i < length s / b → c ≡ code_by b s i → ok && every (λ x. leb x top) (drop i (codes_by b s)) ≡ every (λ x. leb x top) (codes_by b s)
      → ok && leb c top && every (λ x. leb x top) (drop (i + 1) (codes_by b s)) ≡ every (λ x. leb x top) (codes_by b s)
  scan_next c h e f =
      ap (λ (x : ℕ). ok && leb x top && every (λ y. leb y top) (drop (i + 1) (codes_by b s))) (e ∙ sym (codes_by_at b s i h))
      ∙ sym (every_next (λ x. leb x top) 0 ok (codes_by b s) i (subst (λ (m : ℕ). i < m) (sym (length-codes_by b s)) h)) ∙ f

  pub scan_end : length s / b ≤ i → ok && every (λ x. leb x top) (drop i (codes_by b s)) ≡ every (λ x. leb x top) (codes_by b s) → ok ≡ every (λ x. leb x top) (codes_by b s)
  scan_end h f =
      sym (and_true ok) ∙ ap (λ (t : Bool). ok && t) (sym (every_end (λ x. leb x top) 0 (codes_by b s) i (subst (λ (m : ℕ). m ≤ i) (sym (length-codes_by b s)) h))) ∙ f

-- codes of one byte are bytes
pub bytes-within : (d : Depth) (s : List ℕ) → code_bytes (bits_of d) ≡ 1 → ((i : ℕ) → get_or s i 0 < 256) → every (λ c. leb c (top_of (bits_of d))) (codes_by (code_bytes (bits_of d)) s) ≡ true
bytes-within Eight s e h = every_of (λ c. leb c 255) 0 (codes_by 1 s) (λ i l. le-leb (get_or (codes_by 1 s) i 0) 255 (omega (arith, code i l, h i)))
  where
    code : (i : ℕ) → i < length (codes_by 1 s) → get_or (codes_by 1 s) i 0 ≡ get_or s i 0
    code i l = codes_by_at 1 s i (subst (λ (m : ℕ). i < m) (length-codes_by 1 s) l) ∙ sym (take_single s i)
bytes-within Ten s e h = absurd (omega (arith, e))
bytes-within Twelve s e h = absurd (omega (arith, e))
