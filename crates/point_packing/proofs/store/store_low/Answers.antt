-- `point_packing::store_low` meets its contract: each turn stores one byte more. Assumes nothing.
use mathlib.Core.Path.{◌≡◌, ap, ◌∙◌, sym}
use Prim.Native.Nat.{ℕ, ◌+◌, ◌/◌, ◌%◌, ◌^◌}
use native.Mathlib.Nat.{div-div-eq-div-mul, pow-suc}
use native.Mathlib.Numerals.{add-one}
use native.Mathlib.Omega.{arith}
use Rattle.lists.specs.Bytes.{byte_of}
use Rattle.lists.proofs.Lists.{written_none, written_more}
use Rattle.point_packing.proofs.store.store_low.Goals as goal

shorter : (v rest j : ℕ) → rest ≡ v / 256 ^ j → rest / 256 ≡ v / 256 ^ (j + 1)
shorter v rest j e = ap (λ (x : ℕ). x / 256) e ∙ div-div-eq-div-mul v (256 ^ j) 256 ∙ ap (λ (x : ℕ). v / x) (sym (ap (λ (k : ℕ). 256 ^ k) (add-one j) ∙ pow-suc 256 j))

pub loop-j-init : goal.loop-j-init
loop-j-init c = (omega arith, written_none _ _ _)

pub loop-j-preserved : goal.loop-j-preserved
loop-j-preserved c = let a = c.args in
    let l = c.loop-j in
    (shorter a.v l.rest l.j l.invariant.0, written_more a.out.now l.out a.at (byte_of a.v) l.j (l.rest % 256) l.invariant.1 (ap (λ (x : ℕ). x % 256) l.invariant.0))
