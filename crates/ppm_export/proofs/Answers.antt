-- The rows of the answers. Assumes nothing.
use mathlib.Core.Path.{◌≡◌, refl, sym, ap, ◌∙◌}
use mathlib.Core.Bool.{Bool, true, false, not, cond}
use mathlib.Core.List.{List}
use Prim.Native.Nat.{ℕ}
use native.Mathlib.Omega.{arith}
use borrow.Author.Tests.{eq-eqb, ne_eqb}
use lib.Dec.{eqb}
use lib.ListN.{length}
use Rattle.lists.specs.Lists.{new_or_kept}
use Rattle.lists.proofs.Tests.{pass, stop}
use Rattle.card_table.specs.declared.facts.Facts.{Facts}
use Rattle.card_edition.specs.Access.{opened}
use Rattle.card_reader.specs.Reading.{read_card}
use Rattle.std.specs.Prelude.{Result, Ok, Err, is_ok}
use Rattle.refusal.specs.declared.Refusal.TheVariants.{NotOpen, Outside, WrongLineOrOutput}
use Rattle.refusal.specs.declared.Refusal.{Refusal}
use Rattle.ppm_export.specs.Export.{points_of, picture_of, picture_bytes, exportable, read_for_export, export_fits, export_shown, export_answer, picture_shown, export_output, length_shown, export_length}

-- ---- what is read for an export

module _ (card : List ℕ) (e : ℕ) where
  pub not_read : {k : Refusal} → read_card card e ≡ Err k → Err k ≡ read_for_export card e
  unfolding read_for_export
  not_read r = sym (ap exportable r)

  module _ (f : Facts) (r : read_card card e ≡ Ok f) where
    pub range_3 : f.layout.range ≡ 3 → Err Outside ≡ read_for_export card e
    unfolding read_for_export
    range_3 h = sym (ap exportable r ∙ stop _ (eq-eqb f.layout.range 3 h))

    module _ (other : f.layout.range ≡ 3 → ⊥) where
      pub not_open_lem : (f.access ≡ opened → ⊥) → Err NotOpen ≡ read_for_export card e
      unfolding read_for_export
      not_open_lem h = sym (ap exportable r ∙ pass _ (ne_eqb f.layout.range 3 other) (stop _ (ap not (ne_eqb f.access opened h))))

      pub is_open : f.access ≡ opened → Ok f ≡ read_for_export card e
      unfolding read_for_export
      is_open h = sym (ap exportable r ∙ pass _ (ne_eqb f.layout.range 3 other) (pass _ (ap not (eq-eqb f.access opened h)) refl))

-- a card that may be exported was read
exported_read : (r : Result Facts Refusal) (f : Facts) → exportable r ≡ Ok f → r ≡ Ok f
exported_read (Err k) f h = h
exported_read (Ok g) f h = go (eqb g.layout.range 3) (not (eqb g.access opened)) h
  where
    go : (t u : Bool) → ◌≡◌ {A = Result Facts Refusal} (cond t (Err Outside) (cond u (Err NotOpen) (Ok g))) (Ok f) → ◌≡◌ {A = Result Facts Refusal} (Ok g) (Ok f)
    go true u h = let z : ◌≡◌ {A = ℕ} 0 1 = cc in absurd (omega arith)
    go false true h = let z : ◌≡◌ {A = ℕ} 0 1 = cc in absurd (omega arith)
    go false false h = h

pub was_read : (card : List ℕ) (e : ℕ) (f : Facts) → read_for_export card e ≡ Ok f → read_card card e ≡ Ok f
unfolding read_for_export
was_read card e f h = exported_read (read_card card e) f h

-- ---- the answer, and the output

module _ (card : List ℕ) (e : ℕ) (packed before : List ℕ) where
  by-reading : {r : Result Facts Refusal} → read_for_export card e ≡ r → (export_shown r (length packed) (length before) ≡ export_answer card e (length packed) (length before))
      × (new_or_kept (is_ok (export_shown r (length packed) (length before))) (picture_shown r packed before) before ≡ export_output card e packed before)
  unfolding export_answer export_output
  by-reading h = (
    sym (ap (λ (x : Result Facts Refusal). export_shown x (length packed) (length before)) h),
    sym (ap (λ (x : Result Facts Refusal). new_or_kept (is_ok (export_shown x (length packed) (length before))) (picture_shown x packed before) before) h),
  )

  pub refused : {k : Refusal} → read_for_export card e ≡ Err k → (Err k ≡ export_answer card e (length packed) (length before)) × (before ≡ export_output card e packed before)
  refused h = by-reading h

  module _ (f : Facts) (r : read_for_export card e ≡ Ok f) where
    row : {a : Result ℕ Refusal} {after : List ℕ} → export_shown (Ok f) (length packed) (length before) ≡ a → new_or_kept (is_ok a) (picture_of f packed) before ≡ after
        → (a ≡ export_answer card e (length packed) (length before)) × (after ≡ export_output card e packed before)
    row h k =
        let b = by-reading r in
        (sym h ∙ b.0, sym k ∙ sym (ap (λ (x : Result ℕ Refusal). new_or_kept (is_ok x) (picture_of f packed) before) h) ∙ b.1)

    pub unfit : export_fits f (length packed) (length before) ≡ false → (Err WrongLineOrOutput ≡ export_answer card e (length packed) (length before)) × (before ≡ export_output card e packed before)
    unfit h = row (stop _ (ap not h)) refl

    pub points : {xs : List ℕ} → export_fits f (length packed) (length before) ≡ true → xs ≡ picture_of f packed
        → (Ok (points_of f) ≡ export_answer card e (length packed) (length before)) × (xs ≡ export_output card e packed before)
    points h m = row (pass _ (ap not h) refl) (sym m)

-- ---- how long the file will be

module _ (card : List ℕ) (e : ℕ) where
  pub no_length : {k : Refusal} → read_for_export card e ≡ Err k → Err k ≡ export_length card e
  unfolding export_length
  no_length h = sym (ap length_shown h)

  pub length_is : {f : Facts} {n : ℕ} → read_for_export card e ≡ Ok f → n ≡ picture_bytes f → Ok n ≡ export_length card e
  unfolding export_length
  length_is h m = ap Ok m ∙ sym (ap length_shown h)
