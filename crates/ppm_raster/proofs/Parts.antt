-- A raster, part by part, and the bytes of a code. Assumes nothing.
use mathlib.Core.Path.{sym, ap, ap₂, ◌∙◌, subst}
use mathlib.Core.Bool.{Bool, true, false, cond}
use mathlib.Core.List.{◌++◌}
use Prim.Native.Nat.{ℕ, ◌+◌, ◌-◌, ◌*◌, ◌/◌, ◌%◌, ◌≤◌, ◌<◌}
use native.Mathlib.Nat.{mul-zero, one-mul, mul-add, mul_comm, mul-add-div, mul-add-mod_self_left, div-lt_iff_lt-mul}
use native.Mathlib.Omega.{arith}
use lib.Dec.{eqb, lit≤, lit<}
use lib.ListN.{get_or, get_or-append}
use lib.Seq.{get_or-append-add}
use Rattle.lists.specs.Bytes.{byte_of}
use Rattle.parts.proofs.Parts.{Parts, parts_table}
use Rattle.ppm_raster.specs.Raster.{code_bytes, raster_byte, raster_by}

-- a code becomes b bytes
pub raster_by_lem : (b : ℕ) → 0 < b → Parts (raster_by b) 1 b
unfolding raster_by raster_byte
raster_by_lem b pos = parts_table 1 b (λ n. b * n) (raster_byte b) (mul-zero b) (λ i n. ap (λ (m : ℕ). b * (m + n)) (one-mul i) ∙ mul-add b i n)
    (λ s t i k e h. ap (λ (v : ℕ). byte_of v (b - 1 - k % b)) (get_or-append s t 0 (k / b) (subst (λ (m : ℕ). k / b < m) (sym (e ∙ one-mul i)) ((div-lt_iff_lt-mul pos).1 (omega (arith, mul_comm b i))))))
    (λ s t i k e h.
    ap₂ (λ (p r : ℕ). byte_of (get_or (s ++ t) p 0) (b - 1 - r)) (mul-add-div pos i k) (mul-add-mod_self_left b i k)
    ∙ ap (λ (v : ℕ). byte_of v (b - 1 - k % b)) (ap (λ (m : ℕ). get_or (s ++ t) (m + k / b) 0) (sym (e ∙ one-mul i)) ∙ get_or-append-add s t (k / b) 0))

-- ---- at n bits

pub some_bytes : (n : ℕ) → 0 < code_bytes n
some_bytes n = either (eqb n 8)
  where
    either : (t : Bool) → 0 < cond t 1 2
    either true = lit< tt
    either false = lit< tt

pub few_code_bytes : (n : ℕ) → code_bytes n ≤ 2
few_code_bytes n = either (eqb n 8)
  where
    either : (t : Bool) → cond t 1 2 ≤ 2
    either true = lit≤ tt
    either false = lit≤ tt

pub raster_parts : (n : ℕ) → Parts (raster_by (code_bytes n)) 1 (code_bytes n)
raster_parts n = raster_by_lem (code_bytes n) (some_bytes n)
