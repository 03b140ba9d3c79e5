-- `ppm_pixels::block` meets its contract, step by step. Assumes nothing.
use mathlib.Core.Path.{ap, ◌∙◌}
use mathlib.Core.List.{List}
use Prim.Native.Nat.{ℕ, ◌<◌}
use lib.ListN.{get_or}
use Rattle.parameters.specs.Parameters.{bits_of}
use Rattle.full_rgb.specs.inner.Way.{full_by}
use Rattle.ppm_raster.specs.Raster.{code_bytes, stored_by}
use Rattle.ppm_pixels.proofs.Pixels.{unpacked, converted, rastered}
use Rattle.ppm_pixels.proofs.block.Goals as goal

pub returns : goal.returns
returns c = let a = c.args in
    let pre = c.requires in
    let s = a.packed.now in
    let bytes : (i : ℕ) → get_or a.packed.now i 0 < 256 = λ i. (c.type_inv.packed i).fits in
    let u = c.unpack_line.ensures.memory ∙ unpacked a.layout a.depth a.way pre.ready.0 s a.n pre.ready.1 pre.packed_len.0 bytes a.codes.now pre.codes_len.0 in
    let f = c.convert.ensures ∙ ap (λ (x : List ℕ). full_by a.way x a.full.now) u ∙ converted a.layout a.depth a.way pre.ready.0 s a.n pre.ready.1 pre.packed_len.0 bytes a.full.now pre.codes_len.1 in
    c.put_codes.ensures.memory ∙ ap (λ (x : List ℕ). stored_by (code_bytes (bits_of a.depth)) x a.out.now) f ∙ rastered a.layout a.depth a.way pre.ready.0 s a.n pre.ready.1 pre.packed_len.0 bytes a.out.now pre.packed_len.1
