-- `point_encoding::encode::Points::joined` meets its contract. Assumes nothing.
use mathlib.Core.Bool.{true}
use mathlib.Core.Path.{◌≡◌, refl, sym, ap, ◌∙◌}
use Prim.Native.Nat.{ℕ, ◌+◌, ◌*◌, ◌≤◌, ◌<◌}
use native.Mathlib.Nat.{add-zero}
use native.Mathlib.Omega.{arith}
use lib.Dec.{lit<}
use borrow.Author.Tests.{ltb-true, ltb-false}
use lib.ListN.{length}
use Rattle.layout.specs.Layout.{valid_layout}
use Rattle.layout.proofs.Facts.{points-valid}
use Rattle.float_scale.specs.inner.Floats.{Fine}
use Rattle.quantization.specs.Code.{code_of}
use Rattle.scales.specs.Channel.{scale_at}
use Rattle.scales.proofs.OfLayouts.{fine_at}
use Rattle.point_joining.proofs.Places.{join_is}
use Rattle.line_values.proofs.Encodes.{placed}
use Rattle.point_encoding.proofs.Encodes.{joined_by, cuts_more, beyond_number, beyond_cuts}
use Rattle.point_encoding.proofs.encode.PointsUnits.joined.Goals as goal

pub returns-then-not-is_there : goal.returns-then-not-is_there
returns-then-not-is_there c =
    let p = c.args.self in
    let i : ℕ = c.args.start + c.args.j in
    let none : p.n ≤ i = ltb-false i p.n (sym c.is_there.ensures ∙ c.if-not-is_there.true) in
    let past : length p.values.now ≤ 3 * i = omega (arith, p.fits, none) in
    record { number = beyond_number p.layout p.values.now i past; cuts = beyond_cuts p.layout p.values.now i past }

-- each of the three codes fits, and is the line's, and so is its cut
pub returns : goal.returns
returns c =
    let p = c.args.self in
    let i : ℕ = c.args.start + c.args.j in
    let there : i < p.n = ltb-true i p.n (sym c.is_there.ensures ∙ c.if-not-is_there.false) in
    let l = p.layout in
    let vs = p.values.now in
    let ok : valid_layout l ≡ true = points-valid l p.valid in
    let own : (j : ℕ) → Fine (scale_at l j) = λ j. fine_at l j (scale_at l j) ok refl in
    let first = placed l vs ok i 0 _ _ refl (lit< tt) (omega (arith, p.fits, there)) (rw (sym (add-zero (3 * i))) at (c.code-a.ensures.exact (scale_at l 0) (own 0) p.fitted.fitted0 c.number.ensures.number ∙ ap (code_of (scale_at l 0)) c.number.ensures.value)) in
    let code0 = rw add-zero at first in
    let code1 = placed l vs ok i 1 _ _ refl (lit< tt) (omega (arith, p.fits, there)) (c.code-b.ensures.exact (scale_at l 1) (own 1) p.fitted.fitted1 c.number-2.ensures.number ∙ ap (code_of (scale_at l 1)) c.number-2.ensures.value) in
    let code2 = placed l vs ok i 2 _ _ refl (lit< tt) (omega (arith, p.fits, there)) (c.code-c.ensures.exact (scale_at l 2) (own 2) p.fitted.fitted2 c.number-3.ensures.number ∙ ap (code_of (scale_at l 2)) c.number-3.ensures.value) in
    record {
      number = c.join.ensures ∙ join_is l p.valid _ _ _ code0.0 code1.0 code2.0 ∙ joined_by l _ i code0.1 code1.1 code2.1;
      cuts = cuts_more l vs i code0.2 code1.2 code2.2;
    }
