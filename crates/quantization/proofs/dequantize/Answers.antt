-- `quantization::dequantize` meets its contract, row by row. Assumes nothing.
use mathlib.Core.Path.{◌≡◌, sym, ◌∙◌}
use Rattle.std.specs.Prelude.{Some}
use Rattle.scales.specs.Channel.{known_scale}
use Rattle.scales.proofs.Known.{scale_unknown}
use Rattle.quantization.proofs.Answers.{value_outside, value_too_high, value_is}
use Rattle.quantization.proofs.dequantize.Goals as goal

pub returns-in_default : goal.returns-in_default
returns-in_default c = let a = c.args in
    value_outside a.model a.range a.depth a.channel a.code (scale_unknown a.model a.range a.depth a.channel (sym c.known_scale.ensures ∙ c.in_default.is))

pub returns-then-scale-code : goal.returns-then-scale-code
returns-then-scale-code c =
    let scaled : let a = c.args in known_scale a.model a.range a.depth a.channel ≡ Some c.in-Some.scale = sym c.known_scale.ensures ∙ c.in-Some.is in
    let a = c.args in
    value_too_high a.model a.range a.depth a.channel scaled a.code c.if-scale-code.true

pub returns : goal.returns
returns c =
    let scaled : let a = c.args in known_scale a.model a.range a.depth a.channel ≡ Some c.in-Some.scale = sym c.known_scale.ensures ∙ c.in-Some.is in
    let a = c.args in
    rw (c.name.ensures, c.value.ensures, c.of.ensures)
    (value_is a.model a.range a.depth a.channel scaled a.code c.if-scale-code.false)
