-- The codes of a raster, part by part. Assumes nothing.
use mathlib.Core.Path.{refl, ap, ap₂, ◌∙◌, ◌≡◌}
use mathlib.Core.Bool.{Bool, true, false, cond}
use mathlib.Core.List.{◌++◌}
use Prim.Native.Nat.{ℕ, ◌+◌, ◌*◌, ◌/◌}
use native.Mathlib.Omega.{arith}
use lib.Dec.{eqb}
use lib.ListN.{length, get_or, get_or-append}
use lib.Seq.{get_or-append-add}
use Rattle.parts.proofs.Parts.{Parts, parts_table}
use Rattle.ppm_raster.specs.Raster.{code_bytes}
use Rattle.ppm_codes.specs.Codes.{code_by, codes_by}

-- b bytes become a code
codes_single : Parts (codes_by 1) 1 1
unfolding codes_by code_by
codes_single = parts_table 1 1 (λ n. n / 1) (code_by 1) refl (λ i n. omega arith)
    (λ s t i k e h. get_or-append s t 0 k (omega (arith, e)))
    (λ s t i k e h. let z : 1 * i + k ≡ length s + k = omega (arith, e) in ap (λ (m : ℕ). get_or (s ++ t) m 0) z ∙ get_or-append-add s t k 0)

codes_double : Parts (codes_by 2) 2 1
unfolding codes_by code_by
codes_double = parts_table 2 1 (λ n. n / 2) (code_by 2) refl (λ i n. omega arith)
    (λ s t i k e h. ap₂ (λ (x y : ℕ). 256 * x + y) (get_or-append s t 0 (2 * k) (omega (arith, e))) (get_or-append s t 0 (2 * k + 1) (omega (arith, e))))
    (λ s t i k e h.
    let z : 2 * (1 * i + k) ≡ length s + 2 * k = omega (arith, e) in
    let w : 2 * (1 * i + k) + 1 ≡ length s + (2 * k + 1) = omega (arith, e) in
    ap₂ (λ (x y : ℕ). 256 * x + y) (ap (λ (m : ℕ). get_or (s ++ t) m 0) z ∙ get_or-append-add s t (2 * k) 0) (ap (λ (m : ℕ). get_or (s ++ t) m 0) w ∙ get_or-append-add s t (2 * k + 1) 0))

pub codes_parts : (n : ℕ) → Parts (codes_by (code_bytes n)) (code_bytes n) 1
codes_parts n = either (eqb n 8)
  where
    either : (t : Bool) → Parts (codes_by (cond t 1 2)) (cond t 1 2) 1
    either true = codes_single
    either false = codes_double
