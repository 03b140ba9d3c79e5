-- A field of a number is that of the bytes that hold it. Assumes nothing.
use mathlib.Core.Path.{◌≡◌, sym, ap, ◌∙◌}
use mathlib.Core.Bool.{true}
use mathlib.Core.List.{List}
use Prim.Native.Nat.{ℕ, ◌+◌, ◌-◌, ◌*◌, ◌/◌, ◌%◌, ◌^◌, ◌≤◌}
use native.Mathlib.Omega.{arith}
use lib.Dec.{ltb}
use lib.ListN.{take, drop}
use lib.Pow.{shr-shr, mod-mod-pow, field}
use Rattle.lists.specs.Bytes.{are_bytes, little}
use Rattle.lists.proofs.Bytes.{pow_256, little-take, little-drop}
use Rattle.lists.proofs.Every.{every_drop}
use Rattle.line.specs.Point.{bits}

-- the bits above the field do not count
low_bits : (n r w v : ℕ) → n + r ≤ w → bits n r (v % 2 ^ w) ≡ bits n r v
low_bits n r w v h =
    let k : ℕ = w - (n + r) in
    let e : w ≡ k + (n + r) = omega arith in
    sym (field (v % 2 ^ w) n r)
    ∙ ap (λ (m : ℕ). m / 2 ^ r) (ap (λ (m : ℕ). v % 2 ^ m % 2 ^ (n + r)) e ∙ mod-mod-pow v k (n + r))
    ∙ field v n r

-- n bits at bit 8 f + r, all of them below bit 8 (f + c): bit r of the c bytes from byte f on
pub bits-part : (bs : List ℕ) (n o f c r : ℕ) → are_bytes bs ≡ true → o ≡ 8 * f + r → n + r ≤ 8 * c → bits n r (little (take c (drop f bs))) ≡ bits n o (little bs)
bits-part bs n o f c r e eo h =
    let above = drop f bs in
    ap (bits n r) (sym (little-take above c (every_drop (λ b. ltb b 256) 0 bs f e)) ∙ ap (λ (m : ℕ). little above % m) (pow_256 c))
    ∙ low_bits n r (8 * c) (little above) h
    ∙ ap (bits n r) (sym (little-drop bs f e) ∙ ap (λ (m : ℕ). little bs / m) (pow_256 f))
    ∙ ap (λ (m : ℕ). m % 2 ^ n) (shr-shr (little bs) (8 * f) r ∙ ap (λ (m : ℕ). little bs / 2 ^ m) (sym eo))
