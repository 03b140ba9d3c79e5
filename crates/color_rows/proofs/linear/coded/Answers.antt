-- `color_rows::coded` meets its contract: the row is small, and so is every product of it. Assumes nothing.
use native.Mathlib.Omega.{arith}
use Rattle.color_rows.specs.inner.Rows.{coded_of}
use Rattle.color_rows.proofs.linear.coded.Goals as goal

pub overflow_mul-result : goal.overflow_mul-result
unfolding coded_of
overflow_mul-result c = omega (arith, c.requires.all)

pub overflow_mul-result-2 : goal.overflow_mul-result-2
unfolding coded_of
overflow_mul-result-2 c = omega (arith, c.requires.all)

pub overflow_mul-result-3 : goal.overflow_mul-result-3
unfolding coded_of
overflow_mul-result-3 c = omega (arith, c.requires.all)

pub overflow_mul-result-4 : goal.overflow_mul-result-4
unfolding coded_of
overflow_mul-result-4 c = omega (arith, c.requires.all)

pub overflow_mul-result-6 : goal.overflow_mul-result-6
unfolding coded_of
overflow_mul-result-6 c = omega (arith, c.requires.all)

pub overflow_add-result-2 : goal.overflow_add-result-2
unfolding coded_of
overflow_add-result-2 c = omega (arith, c.requires.all)

pub overflow_mul-result-7 : goal.overflow_mul-result-7
unfolding coded_of
overflow_mul-result-7 c = omega (arith, c.requires.all)

pub overflow_mul-result-8 : goal.overflow_mul-result-8
unfolding coded_of
overflow_mul-result-8 c = omega (arith, c.requires.all)

pub overflow_mul-result-9 : goal.overflow_mul-result-9
unfolding coded_of
overflow_mul-result-9 c = omega (arith, c.requires.all)

pub overflow_mul-result-10 : goal.overflow_mul-result-10
unfolding coded_of
overflow_mul-result-10 c = omega (arith, c.requires.all)

pub overflow_mul-result-11 : goal.overflow_mul-result-11
unfolding coded_of
overflow_mul-result-11 c = omega (arith, c.requires.all)

pub returns : goal.returns
unfolding coded_of
returns c = rw c.ends-ends.ensures
