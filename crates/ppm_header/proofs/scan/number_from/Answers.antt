-- `ppm_header::scan::number_from` meets its contract: what is left of the text decides. Assumes nothing.
use mathlib.Core.Path.{sym, ◌∙◌}
use native.Mathlib.Omega.{arith}
use Rattle.ppm_header.proofs.Numbers.{number_next, number_stop, number-all, digits_next}
use Rattle.ppm_header.proofs.scan.number_from.Goals as goal

pub returns-then-not-is_digit : goal.returns-then-not-is_digit
returns-then-not-is_digit c = let k = c.loop-i in
    let a = c.args in
    number_stop a.s.now a.at k.i k.n k.invariant.2 c.byte_at-byte.result c.byte_at-byte.ensures (sym c.is_digit.ensures ∙ c.if-not-is_digit.true)

pub loop-i-preserved : goal.loop-i-preserved
loop-i-preserved c = let k = c.loop-i in
    let a = c.args in
    let e = sym c.is_digit.ensures ∙ c.if-not-is_digit.false in
    let r = c.appended-n.ensures in (
      omega arith,
      digits_next k.n k.i c.byte_at-byte.result e r k.invariant.1,
      number_next a.s.now a.at k.i k.n k.invariant.2 c.byte_at-byte.result c.byte_at-byte.ensures (omega arith) e r,
    )

pub returns : goal.returns
returns c = let k = c.loop-i in
    let a = c.args in
    number-all a.s.now a.at k.i k.n k.invariant.2 (omega arith)
