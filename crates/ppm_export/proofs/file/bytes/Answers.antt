-- `ppm_export::file::bytes` meets its contract. Assumes nothing.
use mathlib.Core.Path.{◌≡◌, sym, ap, ap₂, ◌∙◌, subst}
use Prim.Native.Nat.{ℕ, ◌+◌, ◌*◌, ◌^◌, ◌<◌}
use native.Mathlib.Omega.{arith}
use lib.ListN.{length}
use Rattle.parameters.specs.Parameters.{top_of}
use Rattle.ppm_header.specs.Text.{header_text}
use Rattle.ppm_raster.specs.Raster.{code_bytes}
use Rattle.ppm_export.specs.Export.{points_of, header_of_facts, picture_bytes}
use Rattle.ppm_export.proofs.Pictures.{bits_of_lem, head_short, bytes_small, picture_short}
use Rattle.ppm_export.proofs.file.bytes.Goals as goal

pub overflow_add-result : goal.overflow_add-result
unfolding header_of_facts
overflow_add-result c =
    let head-is : c.length-header.result ≡ length (header_of_facts c.args.facts) = c.length-header.ensures.answer ∙ ap (λ (t : ℕ). length (header_text c.args.facts.width c.args.facts.height t)) (c.top.ensures ∙ ap top_of (bits_of_lem c.args.facts c.requires c.depth_of-depth.ensures)) in
    let code_is : c.code_bytes.result ≡ code_bytes c.args.facts.layout.depth = c.code_bytes.ensures ∙ ap code_bytes (bits_of_lem c.args.facts c.requires c.depth_of-depth.ensures) in
    let points-are : let f = c.args.facts in 3 * c.code_bytes.result * (f.width * f.height) ≡ 3 * code_bytes f.layout.depth * points_of f = ap (λ (b : ℕ). 3 * b * points_of c.args.facts) code_is in
    omega (arith, head-is, points-are, head_short c.args.facts c.requires, bytes_small c.args.facts c.requires)

pub returns : goal.returns
unfolding header_of_facts picture_bytes
returns c =
    let head-is : c.length-header.result ≡ length (header_of_facts c.args.facts) = c.length-header.ensures.answer ∙ ap (λ (t : ℕ). length (header_text c.args.facts.width c.args.facts.height t)) (c.top.ensures ∙ ap top_of (bits_of_lem c.args.facts c.requires c.depth_of-depth.ensures)) in
    let code_is : c.code_bytes.result ≡ code_bytes c.args.facts.layout.depth = c.code_bytes.ensures ∙ ap code_bytes (bits_of_lem c.args.facts c.requires c.depth_of-depth.ensures) in
    let points-are : let f = c.args.facts in 3 * c.code_bytes.result * (f.width * f.height) ≡ 3 * code_bytes f.layout.depth * points_of f = ap (λ (b : ℕ). 3 * b * points_of c.args.facts) code_is in
    let e = ap₂ ◌+◌ head-is points-are in
    (e, subst (λ (n : ℕ). n < 2 ^ 32) (sym e) (picture_short c.args.facts c.requires))
