-- `scales::of_groups` meets its contract: a valid layout of groups is of Y'CbCr and 8 bits, and has a known range. Assumes nothing.
use mathlib.Core.Path.{◌≡◌, sym, ◌∙◌}
use mathlib.Core.Bool.{true, false, true≢false}
use Rattle.lists.proofs.Tests.{stop}
use Rattle.parameters.specs.Parameters.{kind_of}
use Rattle.layout.specs.Layout.{valid_groups}
use Rattle.parameters.proofs.Known.{range_told, range_unknown}
use Rattle.layout.proofs.Facts.{groups_say}
use Rattle.scale.specs.Scale.{scale_of}
use Rattle.std.specs.Prelude.{Some}
use Rattle.scales.proofs.channels.of_groups.Goals as goal

pub returns-in_err-range : goal.returns-in_err-range
returns-in_err-range c =
    let ok : valid_groups c.args.layout ≡ true = sym c.valid_groups.ensures ∙ c.if-not-valid_groups.false in
    let l = c.args.layout in
    let e : true ≡ false = sym (groups_say l ok).range ∙ range_unknown l.range (sym c.of.ensures ∙ c.in_err-range.was) in
    absurd (true≢false e)

pub returns : goal.returns
returns c =
    let ok : valid_groups c.args.layout ≡ true = sym c.valid_groups.ensures ∙ c.if-not-valid_groups.false in
    let l = c.args.layout in
    let g = groups_say l ok in
    let range = (range_told l.range (sym c.of.ensures ∙ c.in_ok-range.was)).1 in
    let m = sym g.model in
    let d = sym g.depth in
    rw (c.of-difference.ensures, c.of-brightness.ensures)
    ((λ i. Some (record { channel0 = scale_of (range i) (d i) (kind_of (m i) 0); channel1 = scale_of (range i) (d i) (kind_of (m i) 1); channel2 = scale_of (range i) (d i) (kind_of (m i) 2) })) ∙ sym (stop _ ok))
