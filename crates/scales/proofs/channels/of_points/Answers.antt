-- `scales::of_points` meets its contract: a valid layout has a known range and depth. Assumes nothing.
use mathlib.Core.Path.{◌≡◌, sym, ◌∙◌}
use mathlib.Core.Bool.{true, false, true≢false}
use Rattle.layout.specs.Layout.{valid_points}
use Rattle.parameters.proofs.Known.{range_unknown, depth_unknown}
use Rattle.layout.proofs.Facts.{points_say}
use Rattle.scales.proofs.channels.of_points.Goals as goal

pub returns-in_err-range : goal.returns-in_err-range
returns-in_err-range c =
    let ok : valid_points c.args.layout ≡ true = sym c.valid_points.ensures ∙ c.if-not-valid_points.false in
    let l = c.args.layout in
    let e : true ≡ false = sym (points_say l ok).range ∙ range_unknown l.range (sym c.of.ensures ∙ c.in_err-range.was) in
    absurd (true≢false e)

pub returns-in_err-depth : goal.returns-in_err-depth
returns-in_err-depth c =
    let ok : valid_points c.args.layout ≡ true = sym c.valid_points.ensures ∙ c.if-not-valid_points.false in
    let l = c.args.layout in
    let e : true ≡ false = sym (points_say l ok).depth ∙ depth_unknown l.depth (sym c.of-2.ensures ∙ c.in_err-depth.was) in
    absurd (true≢false e)
