-- `descriptor_reader::header::all_zero` meets its contract: `all` tests each byte. Assumes nothing.
use mathlib.Core.Path.{◌≡◌}
use mathlib.Core.Logic.{◌≢◌}
use Prim.Native.Nat.{ℕ}
use borrow.Author.Rules.{rules}
use borrow.Author.Tests.{tests}
use Rattle.std.proofs.lemmas.Iterator.{cases_from_all, YieldsList-from_slice}
use Rattle.descriptor_reader.proofs.Zeros.{zeros_by_all}
use Rattle.descriptor_reader.proofs.header.all_zero.Goals as goal

pub returns : goal.returns
returns c =
    zeros_by_all c.args.bytes.now c.all.result
    (cases_from_all _ _ _ (λ (x : ℕ). x ≡ 0) (λ (x : ℕ). x ≢ 0) c.all.ensures.ran (YieldsList-from_slice c.args.bytes.now c.iter.ensures.rest)
    (λ x q k. search (rules, tests)) (λ x q k. search (rules, tests)))
