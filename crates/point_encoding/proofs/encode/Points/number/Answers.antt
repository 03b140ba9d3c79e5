-- `point_encoding::encode::Points::number` meets its contract: a line of numbers has a number at each place. Assumes nothing.
use mathlib.Core.Path.{sym, ap, subst}
use mathlib.Core.Bool.{not}
use lib.Dec.{T}
use lib.Ieee.{nan, is_nan}
use lib.ListN.{get_or}
use Rattle.std.proofs.Common.{rules}
use Rattle.line_values.proofs.Encodes.{number_at}
use Rattle.point_encoding.proofs.encode.Points.number.Goals as goal

pub float_to_float-result : goal.float_to_float-result
float_to_float-result c =
    let p = c.args.self in
    let number : T (not (is_nan (get_or p.values.now c.args.k nan))) = subst T (sym (ap not (number_at p.values.now c.args.k p.numbers c.requires))) tt in
    search rules

pub returns-clause-number : goal.returns-clause-number
returns-clause-number c = let p = c.args.self in (search rules, number_at p.values.now c.args.k p.numbers c.requires)
