-- `ppm_export::export_length` meets its contract, row by row. Assumes nothing.
use mathlib.Core.Path.{◌≡◌, sym, ◌∙◌}
use Rattle.ppm_export.specs.Export.{read_for_export}
use Rattle.ppm_export.proofs.Pictures.{shown-known}
use Rattle.lists.proofs.Results.{handed_on}
use Rattle.ppm_export.proofs.Answers.{was_read, no_length, length_is}
use Rattle.std.specs.Prelude.{Ok}
use Rattle.ppm_export.proofs.export_length.Goals as goal

pub bytes-requires : goal.bytes-requires
bytes-requires c =
    let read-facts : let a = c.args in read_for_export a.card.now a.edition ≡ Ok c.in_ok-facts.facts = sym c.read.ensures ∙ c.in_ok-facts.was in
    let a = c.args in
    shown-known a.card.now a.edition c.in_ok-facts.facts (was_read a.card.now a.edition c.in_ok-facts.facts read-facts)

pub returns : goal.returns
returns c =
    let read-facts : let a = c.args in read_for_export a.card.now a.edition ≡ Ok c.in_ok-facts.facts = sym c.read.ensures ∙ c.in_ok-facts.was in
    let a = c.args in
    record { answer = length_is a.card.now a.edition read-facts c.bytes.ensures.0 }

pub returns-in_err-facts : goal.returns-in_err-facts
returns-in_err-facts c =
    let a = c.args in
    record {
      answer = handed_on c.from_residual.result c.in_err-facts.field-0.0 c.from_residual.ensures
          ∙ no_length a.card.now a.edition (sym c.read.ensures ∙ c.in_err-facts.was);
    }
