-- What an accepted export says. Assumes nothing.
use mathlib.Core.Path.{◌≡◌, refl, sym, ap, ◌∙◌}
use mathlib.Core.Bool.{Bool, true, false, not, cond}
use mathlib.Core.List.{List}
use Prim.Native.Nat.{ℕ}
use native.Mathlib.Omega.{arith}
use borrow.Author.Tests.{eqb-true}
use lib.Dec.{eqb}
use Rattle.card_table.specs.declared.facts.Facts.{Facts}
use Rattle.card_edition.specs.Access.{opened}
use Rattle.card_reader.specs.Reading.{read_card}
use Rattle.std.specs.Prelude.{Result, Ok, Err}
use Rattle.refusal.specs.declared.Refusal.TheVariants.{NotOpen, Outside, WrongLineOrOutput}
use Rattle.refusal.specs.declared.Refusal.{Refusal}
use Rattle.ppm_export.specs.Export.{points_of, exportable, read_for_export, export_fits, export_shown, export_answer}

-- the facts behind an accepted export
pub record Exported (card : List ℕ) (e packed output n : ℕ) : Type 0 where
  pub facts : Facts
  pub read : read_for_export card e ≡ Ok facts
  pub fits : export_fits facts packed output ≡ true
  pub count : n ≡ points_of facts

pub exported : (card : List ℕ) (e packed output n : ℕ) → export_answer card e packed output ≡ Ok n → Exported card e packed output n
unfolding export_answer
exported card e packed output n h = of (read_for_export card e) refl h
  where
    fit : (f : Facts) (t : Bool) → cond (not t) (Err WrongLineOrOutput) (Ok (points_of f)) ≡ Ok n → (t ≡ true) × (n ≡ points_of f)
    fit f true h = (refl, cc)
    fit f false h = let z : ◌≡◌ {A = ℕ} 0 1 = cc in absurd (omega arith)

    of : (r : Result Facts Refusal) → read_for_export card e ≡ r → export_shown r packed output ≡ Ok n → Exported card e packed output n
    of (Err k) r h = let z : ◌≡◌ {A = ℕ} 0 1 = cc in absurd (omega arith)
    of (Ok f) r h = let x = fit f (export_fits f packed output) h in record { facts = f; read = r; fits = x.0; count = x.1 }

-- such a card shows that it is open
open_by : (r : Result Facts Refusal) (f : Facts) → exportable r ≡ Ok f → f.access ≡ opened
open_by (Err k) f h = let z : ◌≡◌ {A = ℕ} 0 1 = cc in absurd (omega arith)
open_by (Ok g) f h = go (eqb g.layout.range 3) (eqb g.access opened) refl h
  where
    go : (t u : Bool) → eqb g.access opened ≡ u → cond t (Err Outside) (cond (not u) (Err NotOpen) (Ok g)) ≡ Ok f → f.access ≡ opened
    go true u a h = let z : ◌≡◌ {A = ℕ} 0 1 = cc in absurd (omega arith)
    go false false a h = let z : ◌≡◌ {A = ℕ} 0 1 = cc in absurd (omega arith)
    go false true a h = let same : g ≡ f = cc in ap (λ (x : Facts). x.access) (sym same) ∙ eqb-true g.access opened a

pub is_open_lem : (card : List ℕ) (e : ℕ) (f : Facts) → read_for_export card e ≡ Ok f → f.access ≡ opened
unfolding read_for_export
is_open_lem card e f h = open_by (read_card card e) f h
