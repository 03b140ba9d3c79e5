-- `group_encoding::encode::Groups::number` meets its contract: what is looked at of a line is a number. Assumes nothing.
use Prim.Native.Nat.{◌+◌, ◌*◌}
use native.Mathlib.Omega.{arith}
use mathlib.Core.Path.{◌≡◌, refl, sym, ap, subst}
use mathlib.Core.Bool.{false, not}
use lib.Dec.{T}
use lib.Ieee.{nan, is_nan}
use lib.ListN.{get_or}
use Rattle.std.proofs.Common.{rules}
use Rattle.group_encoding.proofs.Groups.{looked-number}
use Rattle.group_encoding.proofs.encode.Groups.number.Goals as goal

pub float_to_float-result : goal.float_to_float-result
float_to_float-result c =
    let s = c.args.self in
    let is : is_nan (get_or s.values.now (6 * c.args.i + c.args.j) nan) ≡ false = looked-number s.layout s.values.now s.valid (6 * c.args.i + c.args.j) c.args.i c.args.j refl c.requires.1 (omega (arith, s.fits)) s.numbers in
    let number : T (not (is_nan (get_or s.values.now (6 * c.args.i + c.args.j) nan))) = subst T (sym (ap not is)) tt in
    search rules

pub returns-clause-number : goal.returns-clause-number
returns-clause-number c =
    let s = c.args.self in
    (search rules, looked-number s.layout s.values.now s.valid (6 * c.args.i + c.args.j) c.args.i c.args.j refl c.requires.1 (omega (arith, s.fits)) s.numbers)
