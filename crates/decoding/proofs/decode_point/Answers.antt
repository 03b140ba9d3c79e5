-- `decoding::decode_point` meets its contract: it is the line of one point. Assumes nothing.
use mathlib.Core.Path.{◌≡◌, refl, sym, ◌∙◌}
use mathlib.Core.Bool.{false}
use Rattle.lists.proofs.Results.{handed_on}
use Rattle.lists.proofs.Tests.{pass}
use Rattle.layout.specs.Layout.{grouped}
use Rattle.decoding.proofs.One.{no_point, point_decoded, point_refused}
use Rattle.decoding.proofs.decode_point.Goals as goal

pub returns-then-grouped : goal.returns-then-grouped
returns-then-grouped c = no_point _ _ (sym c.grouped.ensures ∙ c.if-grouped.true)

pub returns-in_err-decode_points : goal.returns-in_err-decode_points
returns-in_err-decode_points c =
    let own : grouped c.args.layout ≡ false = sym c.grouped.ensures ∙ c.if-grouped.false in
    let a = c.args in
    handed_on c.from_residual.result c.in_err-decode_points.field-0.0 c.from_residual.ensures
    ∙ point_refused a.layout own a.bytes.now _ (sym c.in_err-decode_points.was ∙ c.decode_points.ensures.answer ∙ pass _ own refl)

pub returns : goal.returns
returns c =
    let own : grouped c.args.layout ≡ false = sym c.grouped.ensures ∙ c.if-grouped.false in
    let d = c.decode_points in
    let a = c.args in
    point_decoded a.layout own a.bytes.now _ _ _ (sym c.in_ok-decode_points.was ∙ d.ensures.answer ∙ pass _ own refl) (d.ensures.memory ∙ pass _ own refl)
