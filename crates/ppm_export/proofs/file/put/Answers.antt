-- `ppm_export::file::put` meets its contract: the header, and then the points. Assumes nothing.
use mathlib.Core.Path.{◌≡◌, sym, ap, ◌∙◌}
use mathlib.Core.List.{List, [], ◌++◌}
use Prim.Native.Nat.{ℕ, ◌+◌, ◌-◌, ◌*◌, ◌≤◌}
use native.Mathlib.Omega.{arith}
use lib.ListN.{length, take, drop}
use Rattle.parameters.specs.Parameters.{top_of}
use Rattle.text_writer.specs.Put.{Put}
use Rattle.text_writer.proofs.Puts.{put_as}
use Rattle.ppm_header.specs.Text.{header_text}
use Rattle.ppm_raster.specs.Raster.{code_bytes}
use Rattle.ppm_pixels.proofs.Outputs.{made}
use Rattle.ppm_export.specs.Export.{points_of, header_of_facts, picture_of}
use Rattle.ppm_export.specs.inner.Picture.{units_of}
use Rattle.ppm_export.proofs.Pictures.{bits_of_lem, fit_say, pixels_fit_lem, rest_long, then_rest}
use Rattle.ppm_export.proofs.file.put.Goals as goal

pub returns : goal.returns
unfolding header_of_facts picture_of
returns c =
    let stored : let a = c.args in Put (header_of_facts a.facts) 0 a.out.now c.put-at.new.out c.put-at.result = put_as (ap (header_text c.args.facts.width c.args.facts.height) (c.top.ensures ∙ ap top_of (bits_of_lem c.args.facts c.requires.0 c.depth_of-depth.ensures))) c.put-at.ensures in
    let sizes : let a = c.args in
    (length a.packed.now ≡ a.facts.layout.bytes * units_of a.facts) × (length a.out.now ≡ length (header_of_facts a.facts) + 3 * code_bytes a.facts.layout.depth * points_of a.facts) = fit_say c.args.facts c.requires.0 (length c.args.packed.now) (length c.args.out.now) c.requires.1 in
    let head-fits : let a = c.args in length (header_of_facts a.facts) ≤ length a.out.now = omega (arith, sizes.1) in
    let rest : let a = c.args in let after = c.put-at.new.out in
    length (take (length after - c.put-at.result) (drop c.put-at.result after)) ≡ length a.out.now - length (header_of_facts a.facts) = let a = c.args in
    rest_long (header_of_facts a.facts) a.out.now c.put-at.new.out [] c.put-at.result head-fits stored in
    let a = c.args in
    let after = c.put-at.new.out in
    let lent = take (length after - c.put-at.result) (drop c.put-at.result after) in
    let points = pixels_fit_lem a.facts c.requires.0 (length a.packed.now) (length lent) sizes.0 (rest ∙ omega (arith, sizes.1)) in
    then_rest (header_of_facts a.facts) a.out.now after c.put.new.out c.put-at.result head-fits stored (c.put.auto.out ∙ rest)
    ∙ ap (λ (x : List ℕ). header_of_facts a.facts ++ x) (c.put.ensures.memory ∙ sym (made a.facts.layout a.packed.now lent points))
