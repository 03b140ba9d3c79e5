-- `unit_encoding::Number::code` meets its contract: f64 has the code of a number. Assumes nothing.
use mathlib.Core.Path.{sym, ap, ◌∙◌, subst}
use mathlib.Core.Bool.{not}
use lib.Dec.{T}
use lib.Ieee.{is_nan}
use Rattle.float_scale.specs.declared.FloatScale.{FloatScale}
use Rattle.float_scale.specs.inner.Floats.{code_in}
use Rattle.quantization.proofs.Codes.{float_code_lem}
use Rattle.std.specs.Prelude.{Some}
use Rattle.unit_encoding.proofs.number.Number.code.Goals as goal

pub returns-clause-exact : goal.returns-clause-exact
returns-clause-exact c =
    let v = c.args.self in
    λ sc fine is number.
    let known : T (not (is_nan v.value)) = subst T (sym (ap not number.1)) tt in
    ap Some (c.code.ensures ∙ ap (λ (f : FloatScale). code_in f v.value) is) ∙ float_code_lem sc fine v.value number.0 known
