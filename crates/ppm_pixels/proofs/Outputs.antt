-- The lengths that agree, and the output afterwards, row by row. Assumes nothing.
use mathlib.Core.Path.{◌≡◌, refl, sym, ap, ap₂, ◌∙◌}
use mathlib.Core.Bool.{Bool, true, false, ◌&&◌}
use mathlib.Core.List.{List}
use Prim.Native.Nat.{ℕ, ◌+◌, ◌*◌, ◌/◌, ◌%◌, ◌<◌}
use native.Mathlib.Nat.{mul_comm, mul_assoc, add-zero, div-add-mod, mul-div_cancel, mul-mod_right}
use borrow.Author.Tests.{eq-eqb, eqb-true}
use lib.Dec.{eqb}
use lib.ListN.{length}
use Rattle.lists.proofs.Tests.{pass, stop, and_left, and_right}
use Rattle.layout.specs.declared.Layout.{Layout}
use Rattle.layout.specs.Layout.{points_each, valid_layout}
use Rattle.line.specs.Line.{points_in}
use Rattle.ppm_raster.specs.Raster.{code_bytes}
use Rattle.ppm_pixels.specs.Pixels.{pixels_of, pixels_fit, pixels_output}
use Rattle.ppm_pixels.specs.inner.Unit.{unit_bytes}

-- two tests that say the same
both : (a b : Bool) → (a ≡ true → b ≡ true) → (b ≡ true → a ≡ true) → a ≡ b
both true b f g = sym (f refl)
both false true f g = g refl
both false false f g = refl

-- a length is n parts: it has no rest, and so many parts
pub times_is : (length part n : ℕ) → 0 < part → eqb (length % part) 0 && eqb (length / part) n ≡ eqb length (part * n)
times_is length part n some =
    both
    (eqb (length % part) 0 && eqb (length / part) n)
    (eqb length (part * n))
    (λ h.
    let rest = eqb-true (length % part) 0 (and_left (eqb (length % part) 0) (eqb (length / part) n) h) in
    let parts = eqb-true (length / part) n (and_right (eqb (length % part) 0) (eqb (length / part) n) h) in
    eq-eqb length (part * n) (sym (div-add-mod length part) ∙ ap₂ (λ (q r : ℕ). part * q + r) parts rest ∙ add-zero (part * n)))
    (λ h.
    let is = eqb-true length (part * n) h in
    let rest = ap (λ (x : ℕ). x % part) is ∙ mul-mod_right part n in
    let parts = ap (λ (x : ℕ). x / part) (is ∙ mul_comm part n) ∙ mul-div_cancel n some in
    λ i. eq-eqb (length % part) 0 rest i && eq-eqb (length / part) n parts i)

-- the bytes in the file of u points of their own, or groups
pub points-bytes : (l : Layout) (u : ℕ) → unit_bytes l * u ≡ 3 * code_bytes l.depth * (points_each l * u)
points-bytes l u =
    let b = code_bytes l.depth in
    let p = points_each l in
    ap (λ (m : ℕ). m * u) (sym (mul_assoc b 3 p) ∙ ap (λ (m : ℕ). m * p) (mul_comm b 3)) ∙ mul_assoc (3 * b) p u

-- ---- the rows

module _ (l : Layout) (s before : List ℕ) where
  pub outside : valid_layout l ≡ false → before ≡ pixels_output l s before
  outside h = sym (pass (pixels_of l s) (ap (λ (t : Bool). t && eqb (length s % l.bytes) 0 && eqb (length before) (3 * code_bytes l.depth * points_in l (length s))) h) refl)

  pub made : pixels_fit l (length s) (length before) ≡ true → pixels_of l s ≡ pixels_output l s before
  made h = sym (stop before h)

  module _ (wide : ℕ) (w : wide ≡ unit_bytes l) (some : 0 < wide) where
    -- the lengths' tests, as they are made
    abbrev tests : Bool
    tests = eqb (length s % l.bytes) 0 && (eqb (length before % wide) 0 && eqb (length before / wide) (length s / l.bytes))

    same : tests ≡ eqb (length s % l.bytes) 0 && eqb (length before) (3 * code_bytes l.depth * points_in l (length s))
    same = ap (λ (t : Bool). eqb (length s % l.bytes) 0 && t) (times_is (length before) wide (length s / l.bytes) some
        ∙ ap (eqb (length before)) (ap (λ (m : ℕ). m * (length s / l.bytes)) w ∙ points-bytes l (length s / l.bytes)))

    pub unfit : tests ≡ false → before ≡ pixels_output l s before
    unfit h = sym (pass (pixels_of l s) (go (valid_layout l) _ _ (sym same ∙ h)) refl)
      where
        go : (v a b : Bool) → a && b ≡ false → v && a && b ≡ false
        go true a b h = h
        go false a b h = refl

    -- they are the lengths of n points or groups
    pub fit : valid_layout l ≡ true → tests ≡ true → (pixels_fit l (length s) (length before) ≡ true) × (length s ≡ l.bytes * (length s / l.bytes)) × (length before ≡ unit_bytes l * (length s / l.bytes))
    fit v h =
        let n = length s / l.bytes in
        let a = eqb (length s % l.bytes) 0 in
        let b = eqb (length before % wide) 0 && eqb (length before / wide) n in
        let rest = eqb-true (length s % l.bytes) 0 (and_left a b h) in
        let full = and_left a (eqb (length before) (3 * code_bytes l.depth * points_in l (length s))) (sym same ∙ h) in
        let out = and_right a (eqb (length before) (3 * code_bytes l.depth * points_in l (length s))) (sym same ∙ h) in (
          (λ i. v i && full i && out i),
          sym (div-add-mod (length s) l.bytes) ∙ ap (λ (r : ℕ). l.bytes * n + r) rest ∙ add-zero (l.bytes * n),
          eqb-true (length before) (3 * code_bytes l.depth * points_in l (length s)) out ∙ sym (points-bytes l (length s / l.bytes)),
        )
