-- `quantization::code::code_of` meets its contract: a NaN is told by its test, and f64 has the code of any other float. Assumes nothing.
use borrow.Author.Rules.{rules}
use mathlib.Core.Path.{sym, ap, ◌∙◌, subst}
use lib.Dec.{T}
use lib.Ieee.{binary32, fits}
use Rattle.quantization.specs.Code.{code_of}
use Rattle.float_scale.specs.declared.FloatScale.{FloatScale}
use Rattle.float_scale.specs.inner.Floats.{code_in}
use Rattle.quantization.proofs.Floats.{is_nan_lem, no_nan}
use Rattle.quantization.proofs.Codes.{float_code_lem}
use Rattle.std.specs.Prelude.{Some}
use Rattle.quantization.proofs.code.code_of.Goals as goal

pub returns-then-is_nan : goal.returns-then-is_nan
unfolding code_of
returns-then-is_nan c = rw (is_nan_lem c.args.value (sym c.is_nan.ensures.value ∙ c.if-is_nan.true))

pub float_to_float-value : goal.float_to_float-value
float_to_float-value c = let n = no_nan c.args.value (sym c.is_nan.ensures.value ∙ c.if-is_nan.false) in search rules

pub returns : goal.returns
returns c =
    let held : T (fits binary32 c.args.value) = subst T (sym c.well_formed.1.0.1) tt in
    ap Some (c.code.ensures ∙ ap (λ (f : FloatScale). code_in f c.args.value) c.from.ensures) ∙ float_code_lem c.args.scale c.requires c.args.value held (no_nan c.args.value (sym c.is_nan.ensures.value ∙ c.if-is_nan.false))
