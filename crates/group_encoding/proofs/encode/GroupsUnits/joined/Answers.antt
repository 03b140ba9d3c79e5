-- `group_encoding::encode::Groups::joined` meets its contract. Assumes nothing.
use mathlib.Core.Path.{refl, sym, ap, ◌∙◌}
use Prim.Native.Nat.{ℕ, ◌+◌, ◌*◌, ◌≤◌, ◌<◌}
use native.Mathlib.Nat.{add-zero}
use native.Mathlib.Omega.{arith}
use borrow.Author.Tests.{ltb-true, ltb-false}
use lib.ListN.{length}
use Rattle.layout.proofs.Facts.{groups_valid}
use Rattle.quantization.specs.Code.{code_of}
use Rattle.scales.specs.Channel.{scale_at}
use Rattle.scales.proofs.OfLayouts.{fine_at}
use Rattle.float_scale.specs.inner.Floats.{Fine}
use Rattle.line_values.specs.Encode.{quantized_of}
use Rattle.group_encoding.proofs.Groups.{one-difference, IsCode, coded, cuts_more, number_is, beyond_number, beyond_cuts}
use Rattle.group_encoding.proofs.encode.GroupsUnits.joined.Goals as goal

pub returns-then-not-is_there : goal.returns-then-not-is_there
returns-then-not-is_there c =
    let s = c.args.self in
    let i : ℕ = c.args.start + c.args.j in
    let none : s.n ≤ i = ltb-false i s.n (sym c.is_there.ensures ∙ c.if-not-is_there.true) in
    let past : length s.values.now ≤ 6 * i = omega (arith, s.fits, none) in
    record { number = beyond_number s.layout s.values.now s.valid i past; cuts = beyond_cuts s.layout s.values.now s.valid i past }

-- each of the four codes is the line's, and so is its cut
pub returns : goal.returns
returns c =
    let s = c.args.self in
    let l = s.layout in
    let vs = s.values.now in
    let i : ℕ = c.args.start + c.args.j in
    let there : i < s.n = ltb-true i s.n (sym c.is_there.ensures ∙ c.if-not-is_there.false) in
    let own : (j : ℕ) → Fine (scale_at l j) = λ j. fine_at l j (scale_at l j) (groups_valid l s.valid) refl in
    let first : IsCode l vs (6 * i) c.code-first.result = coded l vs s.valid (6 * i) 0 _ _ (omega arith) refl (omega (arith, s.fits, there)) (c.code-first.ensures.exact (scale_at l 0) (own 0) s.brightness_fits c.number.ensures.number ∙ ap (code_of (scale_at l 0)) (rw add-zero at c.number.ensures.value)) in
    let cb : IsCode l vs (6 * i + 1) c.code-cb.result = coded l vs s.valid (6 * i + 1) 1 _ _ (omega arith) refl (omega (arith, s.fits, there)) (c.code-cb.ensures.exact (scale_at l 1) (own 1) s.difference_fits c.number-2.ensures.number ∙ ap (code_of (scale_at l 1)) c.number-2.ensures.value) in
    let cr : IsCode l vs (6 * i + 2) c.code-cr.result = coded l vs s.valid (6 * i + 2) 2 _ _ (omega arith) (one-difference l s.valid) (omega (arith, s.fits, there)) (c.code-cr.ensures.exact (scale_at l 1) (own 1) s.difference_fits c.number-3.ensures.number ∙ ap (code_of (scale_at l 1)) c.number-3.ensures.value) in
    let second : IsCode l vs (6 * i + 3) c.code-second.result = coded l vs s.valid (6 * i + 3) 0 _ _ (omega arith) refl (omega (arith, s.fits, there)) (c.code-second.ensures.exact (scale_at l 0) (own 0) s.brightness_fits c.number-4.ensures.number ∙ ap (code_of (scale_at l 0)) c.number-4.ensures.value) in
    record {
      number = omega (arith, number_is (quantized_of l vs) i, first.0, cb.0, cr.0, second.0);
      cuts = omega (arith, cuts_more l vs s.valid i, first.1, cb.1, cr.1, second.1);
    }
