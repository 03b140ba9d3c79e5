-- The bytes of a raster, filled in one code a turn, and how many codes they hold. Assumes nothing.
use mathlib.Core.Path.{◌≡◌, refl, sym, ap, ap₂, ◌∙◌}
use mathlib.Core.Bool.{true, false, ◌&&◌}
use mathlib.Core.List.{List}
use Prim.Native.Nat.{ℕ, zero, suc, ◌+◌, ◌-◌, ◌*◌, ◌/◌, ◌%◌, ◌≤◌, ◌<◌}
use native.Mathlib.Nat.{add-zero, mul_comm, mul-one, mul-add, mul-le-mul, mul-div_cancel, mul-mod_left, mul-add-div, mul-add-mod_self_left, div-add-mod, div-eq_of_lt, mod-eq_of_lt}
use native.Mathlib.Omega.{arith}
use borrow.Author.Tests.{eq-eqb, eqb-true}
use borrow.Rule.Slice.PartMut.{put_mid}
use lib.Dec.{eqb}
use lib.ListN.{length, get_or, set, take, drop}
use lib.Seq.{sets}
use Rattle.std.specs.Int.{w16, to_be_bytes, bytes_high_first}
use Rattle.lists.specs.Lists.{tabulate}
use Rattle.lists.specs.inner.Stores.{written}
use Rattle.lists.specs.Bytes.{byte_of}
use Rattle.lists.proofs.Copies.{copied}
use Rattle.lists.proofs.Filled.{Filled, filled_more, filled_all}
use Rattle.lists.proofs.Tests.{pass, stop, and_left, and_right}
use Rattle.ppm_raster.specs.Raster.{raster_byte, raster_by, holds, stored_by}

-- the low bytes of a code, which are what the library makes of it
module _ (code : ℕ) where
  pub low_bytes : (b : ℕ) → 1 ≤ b → b ≤ 2 → take (2 - (2 - b)) (drop (2 - b) (to_be_bytes w16 code)) ≡ bytes_high_first b code
  low_bytes zero h l = absurd (omega arith)
  low_bytes (suc zero) h l = refl
  low_bytes (suc (suc zero)) h l = refl
  low_bytes (suc (suc (suc b))) h l = absurd (omega arith)

  pub long_bytes : (b : ℕ) → length (bytes_high_first b code) ≡ b
  long_bytes zero = refl
  long_bytes (suc b) = ap suc (long_bytes b)

  pub bytes_stored : (b : ℕ) → 1 ≤ b → b ≤ 2 → (xs : List ℕ) (at : ℕ) → sets xs at (bytes_high_first b code) ≡ written xs at (λ j. byte_of code (b - 1 - j)) b
  unfolding written
  bytes_stored zero h l xs at = absurd (omega arith)
  bytes_stored (suc zero) h l xs at =
      let z : at ≡ at + 0 = sym (add-zero at) in
      let q : code % 256 ≡ byte_of code 0 = omega arith in
      λ i. set xs (z i) (q i)
  bytes_stored (suc (suc zero)) h l xs at =
      let z : at ≡ at + 0 = sym (add-zero at) in
      let o : suc at ≡ at + 1 = omega arith in
      let p : code / 256 % 256 ≡ byte_of code 1 = omega arith in
      let q : code % 256 ≡ byte_of code 0 = omega arith in
      λ i. set (set xs (z i) (p i)) (o i) (q i)
  bytes_stored (suc (suc (suc b))) h l xs at = absurd (omega arith)

module _ (b : ℕ) (least : 1 ≤ b) (most : b ≤ 2) (cs : List ℕ) where
  -- byte j of code i
  byte_is : (i j : ℕ) → j < b → byte_of (get_or cs i 0) (b - 1 - j) ≡ raster_byte b cs (b * i + j)
  unfolding raster_byte
  byte_is i j h =
      let q : i ≡ (b * i + j) / b = sym (mul-add-div least i j ∙ ap (λ (k : ℕ). i + k) (div-eq_of_lt h) ∙ add-zero i) in
      let p : j ≡ (b * i + j) % b = sym (mul-add-mod_self_left b i j ∙ mod-eq_of_lt h) in
      ap₂ (λ (k m : ℕ). byte_of (get_or cs k 0) (b - 1 - m)) q p

  -- a turn
  pub code_more : (i : ℕ) {out xs ys bytes part : List ℕ} → length out ≡ b * length cs → i < length cs → Filled out (raster_byte b cs) (b * i) xs
      → bytes ≡ to_be_bytes w16 (get_or cs i 0) → part ≡ take (2 - (2 - b)) (drop (2 - b) bytes) → ys ≡ put_mid (b * i) (b * i + b - b * i) xs part → Filled out (raster_byte b cs) (b * (i + 1)) ys
  code_more i {out} {xs} {part = part} long below f e p made =
      let turn : b * (i + 1) ≤ b * length cs = mul-le-mul {n₂ = b} {m₂ = length cs} (omega arith) (omega arith) in
      let code = get_or cs i 0 in
      let q = bytes_high_first b code in
      let is : part ≡ q = p ∙ ap (λ (s : List ℕ). take (2 - (2 - b)) (drop (2 - b) s)) e ∙ low_bytes code b least most in
      let n : b * i + b ≡ b * i + length q = ap (λ (k : ℕ). b * i + k) (sym (long_bytes code b)) in
      let next : b * i + b ≡ b * (i + 1) = sym (mul-add b i 1 ∙ ap (λ (k : ℕ). b * i + k) (mul-one b)) in
      let inside : b * i + length q ≤ length xs = omega (arith, n, f.long) in
      let stored = ap (λ (k : ℕ). put_mid (b * i) (k - b * i) xs part) n ∙ copied xs q part (b * i) inside is ∙ bytes_stored code b least most xs (b * i) in
      filled_more (λ j. byte_of code (b - 1 - j)) b next (omega arith) (byte_is i) f (made ∙ stored)

module _ (cs : List ℕ) where
  pub byte_single : (i : ℕ) → get_or cs i 0 % 256 ≡ raster_byte 1 cs i
  unfolding raster_byte
  byte_single i =
      let q : i / 1 ≡ i = omega arith in
      let p : 1 - 1 - i % 1 ≡ 0 = omega arith in
      let d : (v : ℕ) → byte_of v 0 ≡ v % 256 = λ v. ap (λ (x : ℕ). x % 256) (omega arith) in
      sym (ap₂ (λ (k j : ℕ). byte_of (get_or cs k 0) j) q p ∙ d (get_or cs i 0))

  pub byte_double : (i j : ℕ) → j < 2 → byte_of (get_or cs i 0) (1 - j) ≡ raster_byte 2 cs (2 * i + j)
  byte_double i j h = byte_is 2 (omega arith) (omega arith) cs i j h

  pub raster_all : (b : ℕ) {out xs : List ℕ} {n : ℕ} → length out ≡ b * length cs → n ≡ b * length cs → Filled out (raster_byte b cs) n xs → xs ≡ raster_by b cs
  unfolding raster_by
  raster_all b {out} {xs} {n} e m f = filled_all 0 (e ∙ sym m) f ∙ ap (λ (k : ℕ). tabulate k (raster_byte b cs)) m

-- ---- the output

module _ (b : ℕ) (cs before : List ℕ) where
  pub stored_not : holds b (length before) (length cs) ≡ false → before ≡ stored_by b cs before
  unfolding stored_by
  stored_not e = sym (pass _ e refl)

  pub stored : holds b (length before) (length cs) ≡ true → raster_by b cs ≡ stored_by b cs before
  unfolding stored_by
  stored e = sym (stop _ e)

-- so many bytes hold so many codes
pub holds-so : (b bytes codes : ℕ) → 0 < b → bytes ≡ b * codes → holds b bytes codes ≡ true
holds-so b bytes codes pos e =
    let f : bytes ≡ codes * b = e ∙ mul_comm b codes in
    ap₂ ◌&&◌ (eq-eqb (bytes % b) 0 (ap (λ (x : ℕ). x % b) f ∙ mul-mod_left codes b)) (eq-eqb (bytes / b) codes (ap (λ (x : ℕ). x / b) f ∙ mul-div_cancel codes pos))

-- and the other way round
pub holds_many : (b bytes codes : ℕ) → holds b bytes codes ≡ true → codes ≡ bytes / b
holds_many b bytes codes e = sym (eqb-true (bytes / b) codes (and_right (eqb (bytes % b) 0) (eqb (bytes / b) codes) e))

pub holds_says : (b bytes codes : ℕ) → holds b bytes codes ≡ true → bytes ≡ b * codes
holds_says b bytes codes e =
    let r : bytes % b ≡ 0 = eqb-true (bytes % b) 0 (and_left (eqb (bytes % b) 0) (eqb (bytes / b) codes) e) in
    let q : bytes / b ≡ codes = eqb-true (bytes / b) codes (and_right (eqb (bytes % b) 0) (eqb (bytes / b) codes) e) in
    sym (div-add-mod bytes b) ∙ ap₂ (λ (k m : ℕ). b * k + m) q r ∙ add-zero (b * codes)
