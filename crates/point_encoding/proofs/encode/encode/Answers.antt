-- `point_encoding::encode::encode` meets its contract: the points of a line are its units. Assumes nothing.
use mathlib.Core.Path.{◌≡◌, refl, ap, ◌∙◌}
use mathlib.Core.List.{List}
use Prim.Native.Nat.{ℕ, ◌*◌, ◌/◌}
use native.Mathlib.Omega.{arith}
use borrow.Author.Tests.{eq-eqb}
use lib.ListN.{length}
use Rattle.lists.proofs.Tests.{stop}
use Rattle.lists.specs.Lists.{tabulate}
use Rattle.layout.proofs.Facts.{Points as PointFacts, points_say, not_grouped}
use Rattle.line.specs.Line.{point_byte}
use Rattle.point_packing.proofs.Bytes.{number_at}
use Rattle.line_values.specs.Encode.{quantized_of}
use Rattle.line_values.proofs.Encodes.{length-quantized}
use Rattle.point_encoding.proofs.Encodes.{in_floats_fit, cuts_none, cuts_le, cuts_all}
use Rattle.point_encoding.proofs.encode.encode.Goals as goal

pub invariant_of-encode : goal.invariant_of-encode
invariant_of-encode c =
    let l = c.args.layout in
    let vs = c.args.values.now in
    let known = c.requires.layout_value in
    let sizes = c.requires.values_len in
    let facts : PointFacts l = points_say l known.0 in
    record {
      valid = known.0;
      fitted = in_floats_fit known.1 c.in_floats-scales.ensures;
      numbers = known.2;
      fits = sizes.0;
      known = (facts.bytes_least, facts.bytes_most, sizes.2, λ i j h q. number_at l (quantized_of l vs) i _ j refl q, cuts_none l vs, λ i h. omega (arith, cuts_le l vs i));
    }

pub returns-clause-cuts : goal.returns-clause-cuts
returns-clause-cuts c = let l = c.args.layout in
    c.encode.ensures.cuts ∙ cuts_all l c.args.values.now c.args.n c.args.n refl c.requires.values_len.0 (not_grouped l c.requires.layout_value.0)

pub returns-clause-memory : goal.returns-clause-memory
returns-clause-memory c =
    let l = c.args.layout in
    let codes : List ℕ = quantized_of l c.args.values.now in
    let points : c.args.n ≡ length codes / 3 = omega (arith, length-quantized l c.args.values.now) in
    c.encode.ensures.memory ∙ stop _ (eq-eqb (length c.args.out.now) (l.bytes * c.args.n) c.requires.values_len.1) ∙ ap (λ (m : ℕ). tabulate (l.bytes * m) (point_byte l codes)) points
