-- `point_unpacking::unpack_points` meets its contract, row by row. Assumes nothing.
use mathlib.Core.Path.{sym, ◌∙◌}
use native.Mathlib.Omega.{arith}
use lib.ListN.{length}
use Rattle.line.proofs.Own.{own_codes, own_answer, own_other, own_layout}
use Rattle.line.proofs.Answers.{refuses, counts, triple_le, unpack_outside, unpack_unfit, unpack_points_lem}
use Rattle.point_unpacking.proofs.unpack_points.Goals as goal

pub returns-then-not-valid_points : goal.returns-then-not-valid_points
returns-then-not-valid_points c = let l = c.args.layout in
    let done = own_other l _ _ _ _ (λ own. refuses _ _ (unpack_outside l own _ _ (sym c.valid_points.ensures ∙ c.if-not-valid_points.true))) in
    record { answer = done.0; memory = done.1 }

pub nonzero_div-n : goal.nonzero_div-n
nonzero_div-n c = omega (arith, (own_layout c.args.layout c.valid_points.ensures c.if-not-valid_points.false).facts)

pub nonzero_rem-packed : goal.nonzero_rem-packed
nonzero_rem-packed c = omega (arith, (own_layout c.args.layout c.valid_points.ensures c.if-not-valid_points.false).facts)

pub overflow_mul-n : goal.overflow_mul-n
overflow_mul-n c = let a = c.args in
    let k = own_layout a.layout c.valid_points.ensures c.if-not-valid_points.false in
    omega (arith, triple_le (length a.packed.now) a.layout.bytes k.facts.bytes_least)

pub returns-then-not-packed-size : goal.returns-then-not-packed-size
returns-then-not-packed-size c = let l = c.args.layout in
    let k = own_layout l c.valid_points.ensures c.if-not-valid_points.false in
    let done = own_answer l _ _ _ _ k.ok (refuses _ _ (unpack_unfit l k.own _ _ k.ok c.if-not-packed-size.true)) in
    record { answer = done.0; memory = done.1 }

pub returns : goal.returns
returns c = let l = c.args.layout in
    let k = own_layout l c.valid_points.ensures c.if-not-valid_points.false in
    let done = own_answer l _ _ _ _ k.ok (counts _ (unpack_points_lem l k.own _ _ k.ok c.if-not-packed-size.false) (c.all.ensures ∙ sym (own_codes l k.own _))) in
    record { answer = done.0; memory = done.1 }
