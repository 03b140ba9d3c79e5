-- The answers of packing groups, by the tests that lead to them. Assumes nothing.
use mathlib.Core.Path.{◌≡◌, ap, ap₂, ◌∙◌}
use mathlib.Core.Bool.{Bool, true, false, not}
use mathlib.Core.List.{List}
use Prim.Native.Nat.{ℕ, ◌/◌}
use native.Mathlib.Omega.{arith}
use lib.ListN.{length}
use Rattle.lists.proofs.Tests.{pass, stop}
use Rattle.layout.specs.declared.Layout.{Layout}
use Rattle.layout.specs.Layout.{grouped, valid_groups, valid_layout}
use Rattle.layout.proofs.Facts.{valid_groups_lem, groups_say}
use Rattle.line.specs.Line.{shared, codes_within}
use Rattle.line.specs.Answer.{pack_answer}
use Rattle.line.proofs.Grouped.{group_points, group_shared_lem}
use Rattle.line.proofs.GroupAnswers.{odd_groups, pack_fits, pack_sizes, odd_so, fits-so}
use Rattle.std.specs.Prelude.{Ok, Err}
use Rattle.refusal.specs.declared.Refusal.TheVariants.{CodeTooHigh, OddCount, Outside, WrongLineOrOutput}
use Rattle.group_packing.specs.inner.Within.{groups_within}

module _ (l : Layout) (cs : List ℕ) (bytes : ℕ) where
  pub pack_outside : valid_layout l ≡ false → pack_answer l cs bytes ≡ Err Outside
  unfolding pack_answer
  pack_outside e = stop _ (ap not e)

  module _ (e : valid_layout l ≡ true) (g : grouped l ≡ true) where
    ok : valid_groups l ≡ true
    ok = valid_groups_lem l e g

    -- the layout's highest code is 255
    within-so : {t : Bool} → groups_within cs ≡ t → not (codes_within l.depth (shared l 0 cs)) ≡ not t
    within-so w = ap not (ap₂ codes_within (groups_say l ok).depth (group_shared_lem l ok 0 cs) ∙ w)

    pub pack_odd : odd_groups (length cs) ≡ true → pack_answer l cs bytes ≡ Err OddCount
    unfolding pack_answer
    pack_odd o = pass _ (ap not e) (stop _ (odd_so l ok (length cs) o))

    pub pack_unfit : odd_groups (length cs) ≡ false → pack_fits (length cs) bytes ≡ false → pack_answer l cs bytes ≡ Err WrongLineOrOutput
    unfolding pack_answer
    pack_unfit o f = pass _ (ap not e) (pass _ (odd_so l ok (length cs) o) (stop _ (fits-so l ok (length cs) bytes f)))

    pub pack_too_high : odd_groups (length cs) ≡ false → pack_fits (length cs) bytes ≡ true → groups_within cs ≡ false → pack_answer l cs bytes ≡ Err CodeTooHigh
    unfolding pack_answer
    pack_too_high o f w = pass _ (ap not e) (pass _ (odd_so l ok (length cs) o) (pass _ (fits-so l ok (length cs) bytes f) (stop _ (within-so w))))

    pub pack_points_lem : odd_groups (length cs) ≡ false → pack_fits (length cs) bytes ≡ true → groups_within cs ≡ true → pack_answer l cs bytes ≡ Ok (length cs / 3)
    unfolding pack_answer
    pack_points_lem o f w =
        pass _ (ap not e) (pass _ (odd_so l ok (length cs) o) (pass _ (fits-so l ok (length cs) bytes f) (pass _ (within-so w)
        (ap Ok (omega (arith, group_points l ok bytes, pack_sizes (length cs) bytes o f))))))
