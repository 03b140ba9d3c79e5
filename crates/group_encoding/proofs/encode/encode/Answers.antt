-- `group_encoding::encode::encode` meets its contract: the groups of a line are its units. Assumes nothing.
use mathlib.Core.Path.{◌≡◌, refl, ap, ◌∙◌}
use mathlib.Core.List.{List}
use Prim.Native.Nat.{ℕ, ◌*◌, ◌/◌}
use native.Mathlib.Omega.{arith}
use borrow.Author.Tests.{eq-eqb}
use lib.ListN.{length}
use Rattle.lists.proofs.Tests.{stop}
use Rattle.lists.specs.Lists.{tabulate}
use Rattle.line.specs.Group.{group_byte}
use Rattle.float_scale.specs.inner.Floats.{float_scale}
use Rattle.line_values.specs.Encode.{quantized_of}
use Rattle.line_values.proofs.Encodes.{length-quantized}
use Rattle.group_encoding.proofs.Groups.{cuts_none, cuts_le, cuts_all, quantized-bytes}
use Rattle.group_encoding.proofs.encode.encode.Goals as goal

pub invariant_of-encode : goal.invariant_of-encode
invariant_of-encode c =
    let l = c.args.layout in
    let vs = c.args.values.now in
    let known = c.requires.layout_value in
    let sizes = c.requires.values_len in
    record {
      valid = known.0;
      brightness_fits = c.from-brightness.ensures ∙ ap float_scale known.1.fitted0;
      difference_fits = c.from-difference.ensures ∙ ap float_scale known.1.fitted1;
      numbers = known.2;
      fits = sizes.0;
      known = (omega arith, omega arith, omega (arith, sizes.2), λ i j h q. quantized-bytes l vs known.0 i j _ (omega (arith, sizes.0)) refl q, cuts_none l vs, λ i h. omega (arith, cuts_le l vs i, sizes.2));
    }

pub returns-clause-cuts : goal.returns-clause-cuts
returns-clause-cuts c = let l = c.args.layout in
    c.encode.ensures.cuts ∙ cuts_all l c.args.values.now c.args.n c.args.n refl c.requires.values_len.0

pub returns-clause-memory : goal.returns-clause-memory
returns-clause-memory c =
    let l = c.args.layout in
    let codes : List ℕ = quantized_of l c.args.values.now in
    let groups : c.args.n ≡ length codes / 6 = omega (arith, length-quantized l c.args.values.now, c.requires.values_len.0) in
    c.encode.ensures.memory ∙ stop _ (eq-eqb (length c.args.out.now) (4 * c.args.n) c.requires.values_len.1) ∙ ap (λ (m : ℕ). tabulate (4 * m) (group_byte codes)) groups
