-- `ppm_export::export` meets its contract, row by row. Assumes nothing.
use mathlib.Core.Path.{◌≡◌, sym, ◌∙◌}
use Rattle.ppm_export.specs.Export.{read_for_export}
use Rattle.ppm_export.specs.inner.Picture.{Known}
use Rattle.ppm_export.proofs.Pictures.{shown-known}
use Rattle.lists.proofs.Results.{handed_on}
use Rattle.ppm_export.proofs.Answers.{was_read, refused, unfit, points}
use Rattle.std.specs.Prelude.{Ok}
use Rattle.ppm_export.proofs.export.Goals as goal

pub fits-requires : goal.fits-requires
fits-requires c =
    let read-facts : let a = c.args in read_for_export a.card.now a.edition ≡ Ok c.in_ok-facts.facts = sym c.read.ensures ∙ c.in_ok-facts.was in
    let known : Known c.in_ok-facts.facts = let a = c.args in
    shown-known a.card.now a.edition c.in_ok-facts.facts (was_read a.card.now a.edition c.in_ok-facts.facts read-facts) in
    known

pub returns-then-not-fits : goal.returns-then-not-fits
returns-then-not-fits c =
    let read-facts : let a = c.args in read_for_export a.card.now a.edition ≡ Ok c.in_ok-facts.facts = sym c.read.ensures ∙ c.in_ok-facts.was in
    let a = c.args in
    let done =
    unfit a.card.now a.edition a.packed.now a.out.now c.in_ok-facts.facts read-facts (sym c.fits.ensures ∙ c.if-not-fits.true) in
    record { answer = done.0; memory = done.1 }

pub put-requires : goal.put-requires
put-requires c =
    let read-facts : let a = c.args in read_for_export a.card.now a.edition ≡ Ok c.in_ok-facts.facts = sym c.read.ensures ∙ c.in_ok-facts.was in
    let known : Known c.in_ok-facts.facts = let a = c.args in
    shown-known a.card.now a.edition c.in_ok-facts.facts (was_read a.card.now a.edition c.in_ok-facts.facts read-facts) in
    (known, sym c.fits.ensures ∙ c.if-not-fits.false)

pub returns : goal.returns
returns c =
    let read-facts : let a = c.args in read_for_export a.card.now a.edition ≡ Ok c.in_ok-facts.facts = sym c.read.ensures ∙ c.in_ok-facts.was in
    let a = c.args in
    let done =
    points a.card.now a.edition a.packed.now a.out.now c.in_ok-facts.facts read-facts (sym c.fits.ensures ∙ c.if-not-fits.false) c.put.ensures in
    record { answer = done.0; memory = done.1 }

pub returns-in_err-facts : goal.returns-in_err-facts
returns-in_err-facts c =
    let a = c.args in
    let done = refused a.card.now a.edition a.packed.now a.out.now (sym c.read.ensures ∙ c.in_err-facts.was) in
    record { answer = handed_on c.from_residual.result c.in_err-facts.field-0.0 c.from_residual.ensures ∙ done.0; memory = done.1 }
