-- `ppm_card::import_length` meets its contract. Assumes nothing.
use Prim.Native.Nat.{ℕ, ◌*◌, ◌≤◌}
use mathlib.Core.Path.{◌≡◌, sym, ap, ◌∙◌}
use mathlib.Core.Bool.{true}
use native.Mathlib.Nat.{mul-le-mul}
use native.Mathlib.Omega.{arith}
use Rattle.lists.proofs.Results.{handed_on}
use Rattle.parameters.specs.declared.depth.Depth.{Depth}
use Rattle.parameters.specs.Parameters.{bits_of, top_of}
use Rattle.ppm_header.specs.Header.{header_known, read_header}
use Rattle.ppm_card.specs.Card.{bytes_of_top}
use Rattle.ppm_header.specs.Header.{most_picture_points}
use Rattle.ppm_card.proofs.Depths.{few_bytes, top_back}
use Rattle.ppm_card.proofs.Headers.{few-points, top_known_lem, header_known_lem}
use Rattle.ppm_card.proofs.Lengths.{length-refused, length_read_lem}
use Rattle.std.specs.Prelude.{Ok}
use Rattle.ppm_card.proofs.import_length.Goals as goal

pub returns-in_err-header : goal.returns-in_err-header
returns-in_err-header c =
    record {
      answer = handed_on c.from_residual.result c.in_err-header.field-0.0 c.from_residual.ensures
          ∙ sym (length-refused c.args.ppm.now c.in_err-header.field-0.0 (sym c.read.ensures.answer ∙ c.in_err-header.was));
    }

pub overflow_mul-result : goal.overflow_mul-result
overflow_mul-result c =
    let h = c.in_ok-header.header in
    let read-so : read_header c.args.ppm.now ≡ Ok h = sym c.read.ensures.answer ∙ c.in_ok-header.was in
    let known : header_known h.width h.height h.top ≡ true = header_known_lem c.args.ppm.now h read-so in
    let few : h.width * h.height ≤ most_picture_points = few-points h.width h.height h.top known in
    let five : c.bytes_of.result ≤ 5 = omega (arith, few_bytes c.depth_of_top-depth.result, c.bytes_of.ensures) in
    omega (arith, mul-le-mul {n₂ = 5} {m₂ = most_picture_points} five few)

pub returns : goal.returns
returns c =
    let h = c.in_ok-header.header in
    let read-so : read_header c.args.ppm.now ≡ Ok h = sym c.read.ensures.answer ∙ c.in_ok-header.was in
    let known : header_known h.width h.height h.top ≡ true = header_known_lem c.args.ppm.now h read-so in
    let top = ap (λ (x : Depth). top_of (bits_of x)) c.depth_of_top-depth.ensures ∙ top_back h.top (top_known_lem h.width h.height h.top known) in
    let size = c.bytes_of.ensures ∙ ap bytes_of_top top in
    record { answer = ap (λ (b : ℕ). Ok (b * (h.width * h.height))) size ∙ sym (length_read_lem c.args.ppm.now h read-so) }
