-- `point_packing::pack_points` meets its contract, row by row. Assumes nothing.
use mathlib.Core.Path.{◌≡◌, sym, ap, ◌∙◌}
use mathlib.Core.Bool.{true, false, true≢false}
use mathlib.Core.List.{List}
use Prim.Native.Nat.{ℕ, ◌/◌}
use native.Mathlib.Nat.{mul-le-mul_right}
use native.Mathlib.Omega.{arith}
use lib.Dec.{leb}
use lib.ListN.{length}
use Rattle.lists.specs.Lists.{every}
use Rattle.parameters.specs.declared.depth.Depth.{Depth}
use Rattle.parameters.specs.Parameters.{top_of, bits_of, known_depth}
use Rattle.std.specs.Prelude.{Some}
use Rattle.parameters.proofs.Known.{depth-bits, depth_unknown}
use Rattle.line.proofs.Own.{own_packed, own_answer, own_other, own_layout}
use Rattle.line.proofs.Answers.{refuses, counts, pack_outside, pack_unfit, pack_too_high, pack_points_lem}
use Rattle.point_packing.proofs.pack_points.Goals as goal

-- the top that the codes were compared with is the layout's
within_top : (cs : List ℕ) (depth : ℕ) {t : ℕ} {d : Depth} → t ≡ top_of (bits_of d) → known_depth depth ≡ Some d → every (λ x. leb x t) cs ≡ every (λ x. leb x (top_of depth)) cs
within_top cs depth e f = ap (λ (t : ℕ). every (λ x. leb x t) cs) (e ∙ ap top_of (depth-bits depth f))

pub returns-then-not-valid_points : goal.returns-then-not-valid_points
returns-then-not-valid_points c =
    let l = c.args.layout in
    let done =
    own_other l _ _ _ _ (λ own. refuses _ _ (pack_outside l own _ _ (sym c.valid_points.ensures ∙ c.if-not-valid_points.true))) in
    record { answer = done.0; memory = done.1 }

pub returns-in_default : goal.returns-in_default
returns-in_default c =
    let k = own_layout c.args.layout c.valid_points.ensures c.if-not-valid_points.false in
    let e : true ≡ false = sym k.facts.depth ∙ depth_unknown c.args.layout.depth (sym c.of.ensures ∙ c.in_default.is) in
    absurd (true≢false e)

pub overflow_mul-size : goal.overflow_mul-size
overflow_mul-size c =
    let k = own_layout c.args.layout c.valid_points.ensures c.if-not-valid_points.false in
    omega (arith, mul-le-mul_right (length c.args.codes.now / 3) k.facts.bytes_most)

pub returns-then-not-codes-n : goal.returns-then-not-codes-n
returns-then-not-codes-n c =
    let k = own_layout c.args.layout c.valid_points.ensures c.if-not-valid_points.false in
    let done =
    own_answer _ _ _ _ _ k.ok (refuses _ _ (pack_unfit _ k.own _ _ k.ok (c.if-not-codes-n.true))) in
    record { answer = done.0; memory = done.1 }

pub returns-then-not-all_within : goal.returns-then-not-all_within
returns-then-not-all_within c =
    let k = own_layout c.args.layout c.valid_points.ensures c.if-not-valid_points.false in
    let seen = c.all_within.ensures ∙ within_top c.args.codes.now c.args.layout.depth c.top.ensures (sym c.of.ensures ∙ c.in-Some.is) in
    let done =
    own_answer _ _ _ _ _ k.ok (refuses _ _ (pack_too_high _ k.own _ _ k.ok (c.if-not-codes-n.false) (sym seen ∙ c.if-not-all_within.true))) in
    record { answer = done.0; memory = done.1 }

pub returns : goal.returns
returns c =
    let k = own_layout c.args.layout c.valid_points.ensures c.if-not-valid_points.false in
    let seen = c.all_within.ensures ∙ within_top c.args.codes.now c.args.layout.depth c.top.ensures (sym c.of.ensures ∙ c.in-Some.is) in
    let done =
    own_answer _ _ _ _ _ k.ok (counts _ (pack_points_lem _ k.own _ _ k.ok (c.if-not-codes-n.false) (sym seen ∙ c.if-not-all_within.false)) (c.points.ensures ∙ sym (own_packed _ k.own _))) in
    record { answer = done.0; memory = done.1 }
