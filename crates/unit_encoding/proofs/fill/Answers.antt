-- `unit_encoding::fill` meets its contract: each turn fills in eight units, and then one, and counts their cuts. Assumes nothing.
use mathlib.Core.Path.{◌≡◌, refl, ap, ap₂, ◌∙◌, subst}
use mathlib.Core.List.{List}
use Prim.Native.Nat.{ℕ, ◌+◌, ◌*◌, ◌≤◌}
use native.Mathlib.Nat.{add-zero}
use native.Mathlib.Omega.{arith}
use lib.ListN.{length, get_or}
use Rattle.lists.specs.Bytes.{byte_of}
use Rattle.lists.proofs.Lists.{get_or-tabulate}
use Rattle.lists.proofs.Filled.{Filled, filled_all}
use Rattle.point_packing.proofs.Bytes.{bytes_as}
use Rattle.point_packing.proofs.Fills.{counted_fills, one_fills}
use Rattle.unit_encoding.specs.Units.{UnitFacts}
use Rattle.unit_encoding.proofs.fill.Goals as goal

pub loop-i-preserved : goal.loop-i-preserved
loop-i-preserved g c =
    let u = g.U.Units in
    let a = c.args.units in
    let l = c.loop-i in
    let e = c.eight-turn in
    let here : l.i + 8 ≤ c.count-n.result = omega arith in
    let b : ℕ = c.size-size.result in
    let known : UnitFacts b c.count-n.result (u.number a) (u.byte a) (u.cuts a) = rw (c.size-size.ensures, c.count-n.ensures) (u.known a) in
    let more : l.all + e.result.cuts ≡ u.cuts a (l.i + 8) = ap (λ (k : ℕ). k + e.result.cuts) l.invariant.2 ∙ e.ensures.cuts in
    let few : l.all + e.result.cuts ≤ 12288 = omega (arith, more, known.5 (l.i + 8) here) in (
      omega arith,
      λ long.
          let fits : length c.args.out.now ≡ b * c.count-n.result = rw (c.size-size.ensures, c.count-n.ensures) long in
          bytes_as (u.byte a) b refl c.store_counted.ensures.memory
          (counted_fills (u.byte a) b known.0 known.1 c.args.out.now c.count-n.result known.2 fits e.result.numbers l.out l.i _ here few
          (λ k h j q. ap (λ (v : List ℕ). byte_of (get_or v k 0) j) e.ensures.numbers ∙ ap (λ (v : ℕ). byte_of v j) (get_or-tabulate 8 (λ k. u.number a (l.i + k)) k 0 h) ∙ known.3 (l.i + k) j (omega arith) q) (l.invariant.1 long)),
      more,
    )

pub loop-i-2-preserved : goal.loop-i-2-preserved
loop-i-2-preserved g c =
    let u = g.U.Units in
    let a = c.args.units in
    let l = c.loop-i-2 in
    let p = c.joined-last in
    let b : ℕ = c.size-size.result in
    let number : p.result.number ≡ u.number a l.i = rw add-zero at p.ensures.number in
    let cuts : u.cuts a l.i + p.result.cuts ≡ u.cuts a (l.i + 1) = rw add-zero at p.ensures.cuts in
    let known : UnitFacts b c.count-n.result (u.number a) (u.byte a) (u.cuts a) = rw (c.size-size.ensures, c.count-n.ensures) (u.known a) in (
      omega arith,
      λ long.
          let fits : length c.args.out.now ≡ b * c.count-n.result = rw (c.size-size.ensures, c.count-n.ensures) long in
          bytes_as (u.byte a) b refl c.store_one.ensures.memory
          (one_fills (u.byte a) b known.0 known.1 c.args.out.now c.count-n.result known.2 fits p.result.number l.out l.i c.loop-i-2-test.true
          (λ j q. ap (λ (v : ℕ). byte_of v j) number ∙ known.3 l.i j c.loop-i-2-test.true q) (l.invariant.1 long)),
      ap (λ (k : ℕ). k + p.result.cuts) l.invariant.2 ∙ cuts,
    )

pub returns-clause-memory : goal.returns-clause-memory
returns-clause-memory g c =
    let u = g.U.Units in
    let a = c.args.units in
    let l = c.loop-i-2 in
    λ long.
    let done : l.i ≡ c.count-n.result = omega arith in
    let filled : Filled c.args.out.now (u.byte a) (u.size a * u.count a) l.out = subst (λ (k : ℕ). Filled c.args.out.now (u.byte a) k l.out) (ap₂ ◌*◌ c.size-size.ensures (done ∙ c.count-n.ensures)) (l.invariant.1 long) in
    filled_all 0 long filled
