-- `quantization::quantize` meets its contract, row by row. Assumes nothing.
use mathlib.Core.Path.{◌≡◌, sym, ap, ◌∙◌}
use Rattle.std.specs.Prelude.{Option, Err, ok_or}
use Rattle.scale.specs.declared.Scale.{Scale}
use Rattle.fractions.specs.declared.Clamped.{Clamped}
use Rattle.refusal.specs.declared.Refusal.TheVariants.{NotANumber, Outside}
use Rattle.lists.proofs.Results.{none_of_err, some_of_ok, handed_on}
use Rattle.scales.specs.Channel.{known_scale}
use Rattle.scales.proofs.Known.{scale_unknown}
use Rattle.scales.proofs.OfLayouts.{fine_known}
use Rattle.quantization.proofs.Answers.{code_outside, code_is}
use Rattle.quantization.proofs.quantize.Goals as goal

pub returns-in_err-scale : goal.returns-in_err-scale
returns-in_err-scale c = let a = c.args in
    let h = none_of_err (known_scale a.model a.range a.depth a.channel) Outside (sym (c.ok_or.ensures.value ∙ ap (λ (x : Option Scale). ok_or x Outside) c.known_scale.ensures) ∙ c.in_err-scale.was) in
    handed_on c.from_residual.result c.in_err-scale.field-0.0 c.from_residual.ensures ∙ ap Err (sym h.1) ∙ code_outside a.model a.range a.depth a.channel a.value (scale_unknown a.model a.range a.depth a.channel h.0)

pub code_of-requires : goal.code_of-requires
code_of-requires c = let a = c.args in
    fine_known a.model a.range a.depth a.channel (some_of_ok (known_scale a.model a.range a.depth a.channel) Outside (sym (c.ok_or.ensures.value ∙ ap (λ (x : Option Scale). ok_or x Outside) c.known_scale.ensures) ∙ c.in_ok-scale.was))

pub returns : goal.returns
returns c = let a = c.args in
    let scaled = some_of_ok (known_scale a.model a.range a.depth a.channel) Outside (sym (c.ok_or.ensures.value ∙ ap (λ (x : Option Scale). ok_or x Outside) c.known_scale.ensures) ∙ c.in_ok-scale.was) in
    c.ok_or-2.ensures.value ∙ ap (λ (x : Option Clamped). ok_or x NotANumber) c.code_of.ensures
    ∙ code_is a.model a.range a.depth a.channel scaled a.value
