-- `ppm_codes::within` meets its contract: codes of one byte are bytes, and those of two are looked at. Assumes nothing.
use mathlib.Core.Path.{sym, ◌∙◌}
use Rattle.ppm_codes.proofs.Codes.{bytes-within}
use Rattle.ppm_codes.proofs.within.Goals as goal

pub returns-then-code_bytes-eq1 : goal.returns-then-code_bytes-eq1
returns-then-code_bytes-eq1 c =
    let a = c.args in
    record { answer = sym (bytes-within a.depth a.raster.now (sym c.code_bytes.ensures ∙ c.if-code_bytes-eq1.true) (λ i. (c.type_inv.raster i).fits)) }
