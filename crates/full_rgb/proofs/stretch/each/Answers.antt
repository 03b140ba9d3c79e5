-- `full_rgb::stretch::each` meets its contract: each turn fills in one code. Assumes nothing.
use Prim.Native.Nat.{◌%◌}
use mathlib.Core.Path.{◌≡◌, sym, ◌∙◌}
use native.Mathlib.Omega.{arith}
use borrow.Author.Tests.{eqb-true}
use lib.Dec.{eqb}
use lib.ListN.{length}
use Rattle.lists.proofs.Tests.{stop, and_right}
use Rattle.color_line.specs.inner.Rows.{alike}
use Rattle.full_rgb.proofs.Stretches.{each_all}
use Rattle.full_rgb.proofs.stretch.each.Goals as goal

pub returns : goal.returns
returns c =
    let long : length c.args.out.now ≡ length c.args.codes.now = let a = c.args in
    let n = length a.codes.now in
    eqb-true (length a.out.now) n (and_right (eqb (n % 3) 0) (eqb (length a.out.now) n) (c.if-not-n-out.false)) in
    let a = c.args in
    each_all a.stretch a.codes.now long (omega arith) c.loop-i.invariant ∙ sym (stop {t = alike (length a.codes.now) (length a.out.now)} _ (c.if-not-n-out.false))
