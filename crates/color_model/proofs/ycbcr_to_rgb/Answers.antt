-- `color_model::ycbcr_to_rgb` meets its contract: the rows of the conversion are the equations. Assumes nothing.
use mathlib.Core.Path.{sym, ◌∙◌}
use lib.ListN.{length}
use Rattle.line.proofs.Answers.{refuses}
use Rattle.color_equations.specs.Line.{convertible, to_rgb}
use Rattle.color_rows.specs.inner.Known.{rgb_conversion}
use Rattle.color_rows_laws.proofs.Claims.{to_rgb_exact}
use Rattle.color_rows_laws.proofs.Lines.{conversion_told, conversion_unknown}
use Rattle.color_model.proofs.Answers.{answer-outside, entry}
use Rattle.color_model.proofs.ycbcr_to_rgb.Goals as goal

pub returns : goal.returns
returns c =
    let a = c.args in
    let k = rgb_conversion a.primaries a.depth a.range_in a.range_out in
    let e = conversion_told (convertible a.primaries a.depth a.range_in a.range_out) k (sym c.to_rgb.ensures ∙ c.in-Some.is) in
    let done =
    entry (to_rgb a.primaries a.depth a.range_in a.range_out) a.primaries a.depth a.range_in a.range_out a.codes.now k.rows e.0
    (to_rgb_exact a.primaries a.depth a.range_in a.range_out e.0) a.out.now e.1 (c.convert.ensures.answer, c.convert.ensures.memory) in
    record { answer = done.0; memory = done.1 }

pub returns-in_default : goal.returns-in_default
returns-in_default c =
    let a = c.args in
    let done =
    refuses _ _ (answer-outside (to_rgb a.primaries a.depth a.range_in a.range_out) a.primaries a.depth a.range_in a.range_out a.codes.now (length a.out.now)
    (conversion_unknown (convertible a.primaries a.depth a.range_in a.range_out) (rgb_conversion a.primaries a.depth a.range_in a.range_out) (sym c.to_rgb.ensures ∙ c.in_default.is))) in
    record { answer = done.0; memory = done.1 }
