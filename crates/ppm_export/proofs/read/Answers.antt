-- `ppm_export::read` meets its contract, row by row. Assumes nothing.
use mathlib.Core.Path.{sym, ◌∙◌}
use Rattle.lists.proofs.Results.{handed_on}
use Rattle.ppm_export.proofs.Answers.{not_read, range_3, not_open_lem, is_open}
use Rattle.ppm_export.proofs.read.Goals as goal

pub returns-then-facts-eq-LEGACY_FULL : goal.returns-then-facts-eq-LEGACY_FULL
returns-then-facts-eq-LEGACY_FULL c = let a = c.args in
    range_3 a.card.now a.edition c.in_ok-facts.facts (sym c.read.ensures.answer ∙ c.in_ok-facts.was) c.if-facts-eq-LEGACY_FULL.true

pub returns-then-facts-ne-OPEN : goal.returns-then-facts-ne-OPEN
returns-then-facts-ne-OPEN c = let a = c.args in
    not_open_lem a.card.now a.edition c.in_ok-facts.facts (sym c.read.ensures.answer ∙ c.in_ok-facts.was) c.if-facts-eq-LEGACY_FULL.false c.if-facts-ne-OPEN.true

pub returns : goal.returns
returns c = let a = c.args in
    is_open a.card.now a.edition c.in_ok-facts.facts (sym c.read.ensures.answer ∙ c.in_ok-facts.was) c.if-facts-eq-LEGACY_FULL.false c.if-facts-ne-OPEN.false

pub returns-in_err-facts : goal.returns-in_err-facts
returns-in_err-facts c = let a = c.args in
    handed_on c.from_residual.result c.in_err-facts.field-0.0 c.from_residual.ensures
    ∙ not_read a.card.now a.edition (sym c.read.ensures.answer ∙ c.in_err-facts.was)
