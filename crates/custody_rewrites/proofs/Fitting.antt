-- What it means that the lists fit together, and what is then left. Assumes nothing.
use mathlib.Core.Path.{◌≡◌, refl, ap, ◌∙◌}
use mathlib.Core.Bool.{Bool, true, false, ◌&&◌}
use mathlib.Core.List.{List}
use Prim.Native.Nat.{ℕ}
use borrow.Author.Tests.{eqb-true}
use lib.Dec.{eqb}
use lib.ListN.{length}
use Rattle.lists.specs.Lists.{new_or_kept}
use Rattle.lists.proofs.Tests.{and_left, and_right, and3}
use Rattle.card_table.specs.Table.{card_size}
use Rattle.custody_book.specs.History.{Rewrite}
use Rattle.custody_rewrites.specs.Lists.{sum, rewrites_of, fitting}
use Rattle.custody_rewrites.specs.Rewriting.{card_after_all, outputs_after_all, answers_after_all}

pub parts : (card : ℕ) (editions lengths : List ℕ) (outputs answers : ℕ) → fitting card editions lengths outputs answers ≡ true
    → (card ≡ card_size) × (length lengths ≡ length editions) × (answers ≡ length editions) × (sum lengths ≡ outputs)
parts card editions lengths outputs answers h =
    let t₀ = eqb card card_size in
    let t₁ = eqb (length lengths) (length editions) in
    let t₂ = eqb answers (length editions) in
    let t₃ = eqb (sum lengths) outputs in
    let p = and3 t₀ t₁ t₂ (and_left (t₀ && t₁ && t₂) t₃ h) in (
      eqb-true card card_size p.0,
      eqb-true (length lengths) (length editions) p.1,
      eqb-true answers (length editions) p.2,
      eqb-true (sum lengths) outputs (and_right (t₀ && t₁ && t₂) t₃ h),
    )

-- ---- what is left

module _ (first card editions lengths outputs answers : List ℕ) where
  abbrev fits : Bool
  fits = fitting (length card) editions lengths (length outputs) (length answers)

  abbrev rs : List Rewrite
  rs = rewrites_of editions lengths outputs

  abbrev Left : Bool → (card outputs answers : List ℕ) → Type 0
  Left r card' outputs' answers' =
      (r ≡ fits)
      × (card' ≡ new_or_kept fits (card_after_all first rs) card)
      × (outputs' ≡ new_or_kept fits (outputs_after_all first rs) outputs)
      × (answers' ≡ new_or_kept fits (answers_after_all first rs) answers)

  pub misfit : fits ≡ false → Left false card outputs answers
  misfit h = rw h (refl, refl, refl, refl)

  pub rewritten : fits ≡ true → (start card' outputs' answers' : List ℕ) → start ≡ first
      → (card' ≡ card_after_all start rs) × (outputs' ≡ outputs_after_all start rs) × (answers' ≡ answers_after_all start rs)
      → Left true card' outputs' answers'
  rewritten h start card' outputs' answers' s l =
      rw h (
        refl,
        l.0 ∙ ap (λ (c : List ℕ). card_after_all c rs) s,
        l.1 ∙ ap (λ (c : List ℕ). outputs_after_all c rs) s,
        l.2 ∙ ap (λ (c : List ℕ). answers_after_all c rs) s,
      )
