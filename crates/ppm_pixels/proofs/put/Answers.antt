-- `ppm_pixels::put` meets its contract, row by row. Assumes nothing.
use mathlib.Core.Path.{◌≡◌, sym, ◌∙◌}
use mathlib.Core.Bool.{true, false, true≢false}
use Rattle.parameters.proofs.Known.{depth_unknown}
use Rattle.layout.specs.Layout.{valid_layout}
use Rattle.layout.proofs.Facts.{valid_says}
use Rattle.ppm_pixels.proofs.put.Goals as goal

pub returns-in-None : goal.returns-in-None
returns-in-None c =
    let ok : valid_layout c.args.layout ≡ true = sym c.valid.ensures ∙ c.if-not-valid.false in
    let l = c.args.layout in
    let z : true ≡ false = sym (valid_says l ok).depth ∙ depth_unknown l.depth (sym c.of.ensures ∙ c.in-None.is) in
    absurd (true≢false z)
