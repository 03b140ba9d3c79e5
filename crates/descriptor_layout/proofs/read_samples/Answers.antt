-- `descriptor_layout::read_samples` meets its contract: right samples have the length of a depth. Assumes nothing.
use mathlib.Core.Path.{◌≡◌, sym, ap, ◌∙◌}
use mathlib.Core.Bool.{true, false, true≢false}
use Prim.Native.Nat.{◌+◌}
use Rattle.lists.proofs.Results.{none_of_err}
use Rattle.std.specs.Prelude.{Option, ok_or}
use Rattle.parameters.specs.declared.depth.Depth.{Depth}
use Rattle.parameters.specs.Parameters.{known_depth}
use Rattle.parameters.proofs.Known.{depth_unknown}
use Rattle.refusal.specs.declared.Refusal.TheVariants.{WrongSample}
use Rattle.descriptor_layout.proofs.Right.{right_says}
use Rattle.descriptor_layout.proofs.read_samples.Goals as goal

pub returns-in_err-depth : goal.returns-in_err-depth
returns-in_err-depth c =
    let a = c.args in
    let n = a.samples.first.length + 1 in
    let h = none_of_err (known_depth n) WrongSample (sym (c.ok_or.ensures.value ∙ ap (λ (o : Option Depth). ok_or o WrongSample) c.of.ensures) ∙ c.in_err-depth.was) in
    let e : true ≡ false = sym (right_says a.bytes a.samples (sym c.right.ensures ∙ c.if-not-right.false)).depth ∙ depth_unknown n h.0 in
    absurd (true≢false e)
