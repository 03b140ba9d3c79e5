-- `color_model::convert` meets its contract, row by row. Assumes nothing.
use mathlib.Core.Path.{sym, ap, ◌∙◌}
use mathlib.Core.Bool.{not}
use Prim.Native.Nat.{ℕ, ◌/◌}
use lib.ListN.{length}
use Rattle.lists.proofs.Tests.{pass, stop}
use Rattle.line.specs.inner.Cuts.{cuts_told}
use Rattle.line.proofs.Answers.{counts, fits, all_told}
use Rattle.color_equations.specs.Line.{converted_cuts}
use Rattle.color_line.specs.inner.Rows.{rows_code}
use Rattle.color_model.proofs.Answers.{fit_alike, cuts_le}
use Rattle.std.specs.Prelude.{Ok}
use Rattle.color_model.proofs.convert.Goals as goal

pub returns : goal.returns
returns c =
    let a = c.args in
    let cs = a.codes.now in
    let fit = c.if-not-codes-n.false in
    let h = fits (length cs) 3 (length a.out.now) 3 fit in
    let alike = fit_alike (length cs) (length a.out.now) fit in
    let within = sym (ap not c.all_within.ensures) ∙ (ap not c.if-not-all_within.false) in
    let r = c.convert-cuts.ensures in
    let f = rows_code a.conversion.rows in
    let cuts = c.cuts_told.ensures ∙ ap cuts_told (r.value ∙ stop _ alike) ∙ all_told (length cs) (length cs / 3) (converted_cuts f cs) h.0 h.1 (cuts_le f cs) in
    let done =
    counts _ (pass _ (ap not c.if-not-codes-n.false) (pass _ within (ap (λ (k : ℕ). Ok (length cs / 3, k)) (sym cuts)))) (r.out_after ∙ stop _ alike) in
    record { answer = done.0; memory = done.1 }
