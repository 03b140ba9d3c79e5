-- `ppm_pixels::blocks` meets its contract: each turn makes one block. Assumes nothing.
use mathlib.Core.Path.{◌≡◌, refl, sym, ap, ◌∙◌, subst}
use mathlib.Core.List.{List}
use Prim.Native.Nat.{ℕ, ◌+◌, ◌*◌, ◌/◌, ◌≤◌, ◌<◌}
use native.Mathlib.Omega.{arith}
use lib.ListN.{length, take}
use lib.Seq.{length-take-le, length_front}
use Rattle.parts.proofs.Parts.{Parts, lent, made_none, made_long, made_more}
use Rattle.ppm_pixels.specs.Pixels.{pixels_of}
use Rattle.ppm_pixels.specs.inner.Unit.{unit_codes}
use Rattle.ppm_pixels.proofs.Pixels.{unit_small, block_small, pixels_parts}
use Rattle.ppm_pixels.proofs.blocks.Goals as goal

pub loop-i-init : goal.loop-i-init
loop-i-init c =
    let in-long : length c.args.packed.now ≡ c.args.size * c.args.n = c.requires.packed_len.0 ∙ ap (λ (x : ℕ). x * c.args.n) (sym c.requires.size_value.0) in
    let out-long : length c.args.out.now ≡ c.args.wide * c.args.n = c.requires.packed_len.1 ∙ ap (λ (x : ℕ). x * c.args.n) (sym c.requires.size_value.2) in
    let parts : Parts (pixels_of c.args.layout) c.args.size c.args.wide = let l = c.args.layout in
    subst (λ (p : ℕ). Parts (pixels_of l) p c.args.wide) (sym c.requires.size_value.0) (subst (Parts (pixels_of l) l.bytes) (sym c.requires.size_value.2) (pixels_parts l c.requires.ready.valid)) in
    (omega arith, made_none parts c.args.packed.now c.args.out.now c.args.n in-long out-long, refl, refl)

pub block-requires : goal.block-requires
block-requires c =
    let in-long : length c.args.packed.now ≡ c.args.size * c.args.n = c.requires.packed_len.0 ∙ ap (λ (x : ℕ). x * c.args.n) (sym c.requires.size_value.0) in
    let out-long : length c.args.out.now ≡ c.args.wide * c.args.n = c.requires.packed_len.1 ∙ ap (λ (x : ℕ). x * c.args.n) (sym c.requires.size_value.2) in
    let parts : Parts (pixels_of c.args.layout) c.args.size c.args.wide = let l = c.args.layout in
    subst (λ (p : ℕ). Parts (pixels_of l) p c.args.wide) (sym c.requires.size_value.0) (subst (Parts (pixels_of l) l.bytes) (sym c.requires.size_value.2) (pixels_parts l c.requires.ready.valid)) in
    let each-small : (3 ≤ c.args.each) × (0 < 480 / c.args.each) × ((k : ℕ) → k ≤ 480 / c.args.each → (c.args.each * k ≤ 480) × (k ≤ 160)) = let l = c.args.layout in
    subst (λ (m : ℕ). (3 ≤ m) × (0 < 480 / m) × ((k : ℕ) → k ≤ 480 / m → (m * k ≤ 480) × (k ≤ 160))) (sym c.requires.size_value.1) ((unit_small l).0, (block_small l).0, (block_small l).1) in
    let k-fits : (c.loop-i.i + c.min-k.result ≤ c.args.n) × (0 < c.min-k.result) × (c.min-k.result ≤ 480 / c.args.each) = let h = each-small.1 in
    let m = c.min-k.ensures in
    (omega (arith, m), omega (arith, m), omega (arith, m)) in
    let small : (c.args.each * c.min-k.result ≤ 480) × (c.min-k.result ≤ 160) = each-small.2 c.min-k.result k-fits.2 in
    let now-long : length c.loop-i.out ≡ c.args.wide * c.args.n = made_long parts c.args.packed.now c.args.out.now c.args.n in-long out-long c.loop-i.invariant.0 c.loop-i.invariant.1 ∙ out-long in
    let lent-codes : (xs : List ℕ) → length xs ≡ 480 → length (take (c.args.each * c.min-k.result) xs) ≡ unit_codes c.args.layout * c.min-k.result = λ xs e. length-take-le _ xs (omega (arith, small.0, e)) ∙ ap (λ (x : ℕ). x * c.min-k.result) c.requires.size_value.1 in
    let i = c.loop-i.i in
    let k = c.min-k.result in
    record {
      ready = (c.requires.ready, small.1);
      packed_len = (
        lent c.args.size c.args.n i k c.args.packed.now k-fits.0 in-long ∙ ap (λ (x : ℕ). x * k) c.requires.size_value.0,
        lent c.args.wide c.args.n i k c.loop-i.out k-fits.0 now-long ∙ ap (λ (x : ℕ). x * k) c.requires.size_value.2,
      );
      codes_len = (lent-codes c.loop-i.codes c.loop-i.invariant.2, lent-codes c.loop-i.full c.loop-i.invariant.3);
    }

pub loop-i-preserved : goal.loop-i-preserved
loop-i-preserved c =
    let in-long : length c.args.packed.now ≡ c.args.size * c.args.n = c.requires.packed_len.0 ∙ ap (λ (x : ℕ). x * c.args.n) (sym c.requires.size_value.0) in
    let out-long : length c.args.out.now ≡ c.args.wide * c.args.n = c.requires.packed_len.1 ∙ ap (λ (x : ℕ). x * c.args.n) (sym c.requires.size_value.2) in
    let parts : Parts (pixels_of c.args.layout) c.args.size c.args.wide = let l = c.args.layout in
    subst (λ (p : ℕ). Parts (pixels_of l) p c.args.wide) (sym c.requires.size_value.0) (subst (Parts (pixels_of l) l.bytes) (sym c.requires.size_value.2) (pixels_parts l c.requires.ready.valid)) in
    let each-small : (3 ≤ c.args.each) × (0 < 480 / c.args.each) × ((k : ℕ) → k ≤ 480 / c.args.each → (c.args.each * k ≤ 480) × (k ≤ 160)) = let l = c.args.layout in
    subst (λ (m : ℕ). (3 ≤ m) × (0 < 480 / m) × ((k : ℕ) → k ≤ 480 / m → (m * k ≤ 480) × (k ≤ 160))) (sym c.requires.size_value.1) ((unit_small l).0, (block_small l).0, (block_small l).1) in
    let k-fits : (c.loop-i.i + c.min-k.result ≤ c.args.n) × (0 < c.min-k.result) × (c.min-k.result ≤ 480 / c.args.each) = let h = each-small.1 in
    let m = c.min-k.ensures in
    (omega (arith, m), omega (arith, m), omega (arith, m)) in
    let m = c.args.each * c.min-k.result in (
      k-fits.0,
      made_more parts c.args.packed.now c.args.out.now c.args.n in-long out-long c.loop-i.i c.min-k.result k-fits.0 c.block.ensures c.loop-i.invariant.1,
      length_front c.loop-i.codes c.block.new.codes m c.block.auto.codes ∙ c.loop-i.invariant.2,
      length_front c.loop-i.full c.block.new.full m c.block.auto.full ∙ c.loop-i.invariant.3,
    )
