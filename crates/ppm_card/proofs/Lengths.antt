-- The lengths of a file and of the outputs, and the length that is told. Assumes nothing.
use mathlib.Core.Path.{◌≡◌, refl, sym, ap, ◌∙◌}
use mathlib.Core.Bool.{Bool, true, false, ◌&&◌, true≢false}
use mathlib.Core.List.{List}
use Prim.Native.Nat.{ℕ, ◌+◌, ◌-◌, ◌*◌, ◌≤◌, ◌<◌}
use native.Mathlib.Omega.{arith}
use borrow.Author.Tests.{eq-eqb, eqb-true, ne_eqb}
use lib.Dec.{eqb}
use Rattle.refusal.specs.declared.Refusal.{Refusal}
use Rattle.ppm_header.specs.declared.Header.{Header}
use Rattle.ppm_header.specs.Header.{read_header}
use Rattle.ppm_raster.specs.Raster.{code_bytes}
use Rattle.std.specs.Prelude.{Ok, Err}
use Rattle.ppm_card.specs.Card.{depth_of_top, bytes_of_top, import_fits, length_read, import_length}

-- ---- what fits

-- no file is shorter than its header
pub too_short : (top points head ppm card packed : ℕ) → ppm < head → import_fits top points head ppm card packed ≡ false
too_short top points head ppm card packed h =
    let whole = head + 3 * code_bytes (depth_of_top top) * points in
    ap (λ (t : Bool). t && eqb card 32 && eqb packed (bytes_of_top top * points)) (ne_eqb ppm whole (λ e. omega (arith, h, e)))

-- what follows the header is so long exactly if the file is so much longer
pub rest_long : (ppm head n : ℕ) → head ≤ ppm → eqb (ppm - head) n ≡ eqb ppm (head + n)
rest_long ppm head n h = by (eqb ppm (head + n)) refl
  where
    by : (t : Bool) → eqb ppm (head + n) ≡ t → eqb (ppm - head) n ≡ t
    by true e = eq-eqb (ppm - head) n (omega (arith, h, eqb-true ppm (head + n) e))
    by false e = ne_eqb (ppm - head) n (λ z. true≢false (sym (eq-eqb ppm (head + n) (omega (arith, h, z))) ∙ e))

-- ---- what is told

pub length-refused : (ppm : List ℕ) (k : Refusal) → read_header ppm ≡ Err k → import_length ppm ≡ Err k
unfolding import_length
length-refused ppm k h = ap length_read h

pub length_read_lem : (ppm : List ℕ) (header : Header) → read_header ppm ≡ Ok header → import_length ppm ≡ Ok (bytes_of_top header.top * (header.width * header.height))
unfolding import_length
length_read_lem ppm header h = ap length_read h
