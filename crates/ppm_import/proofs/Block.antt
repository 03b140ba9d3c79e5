-- Blocks of points: what one is lent, what it leaves, and the loop over all of them. Assumes nothing.
use mathlib.Core.Path.{◌≡◌, sym, ap, ◌∙◌, subst}
use mathlib.Core.Bool.{Bool, true}
use mathlib.Core.List.{List, ◌++◌}
use Prim.Native.Nat.{ℕ, ◌+◌, ◌-◌, ◌*◌, ◌≤◌}
use native.Mathlib.Nat.{mul_comm, mul_assoc}
use native.Mathlib.Omega.{arith}
use borrow.Rule.Slice.PartMut.{put_mid}
use lib.Dec.{leb, lit<}
use lib.ListN.{length, take, drop, take-append-drop, length-drop}
use lib.Seq.{length-take-le, take_at, drop_at}
use Rattle.lists.specs.Lists.{every, new_or_kept}
use Rattle.lists.proofs.Every.{every_take, every_drop}
use Rattle.layout.specs.declared.Layout.{Layout}
use Rattle.parameters.specs.declared.depth.Depth.{Depth}
use Rattle.parameters.specs.Parameters.{bits_of, top_of}
use Rattle.layout.specs.Layout.{valid_points}
use Rattle.layout.proofs.Facts.{not_grouped}
use Rattle.line.specs.Line.{packed_of, codes_within}
use Rattle.line.specs.Answer.{most_points, pack_output}
use Rattle.line.proofs.Answers.{fit, pack_points_lem}
use Rattle.parts.proofs.Parts.{Parts, parts_many, parts_then, Made, made_none, made_more, made_long, made_all, span, lent}
use Rattle.parts.proofs.Lines.{packed_parts}
use Rattle.ppm_raster.specs.Raster.{code_bytes}
use Rattle.ppm_raster.proofs.Parts.{some_bytes}
use Rattle.ppm_raster.proofs.Rasters.{holds-so}
use Rattle.ppm_codes.specs.Codes.{raster_codes, codes_output}
use Rattle.ppm_codes.proofs.Parts.{codes_parts}
use Rattle.ppm_codes.proofs.Codes.{taken}
use Rattle.std.specs.Prelude.{Result, is_ok}
use Rattle.refusal.specs.declared.Refusal.{Refusal}
use Rattle.ppm_import.specs.inner.Picture.{Ready}

-- a test that all elements of a list pass is passed by those that are made of a part
module _ {make : List ℕ → List ℕ} {p q : ℕ} (parts : Parts make p q) (test : ℕ → Bool) where
  module _ (s : List ℕ) (i : ℕ) (h : p * i ≤ length s) (e : every test (make s) ≡ true) where
    abbrev front : List ℕ
    front = take (p * i) s

    abbrev back : List ℕ
    back = drop (p * i) s

    front_long : length front ≡ p * i
    front_long = length-take-le (p * i) s h

    both : make s ≡ make front ++ make back
    both = ap make (sym (take-append-drop (p * i) s)) ∙ parts.joins front back i front_long

    every_front : every test (make front) ≡ true
    every_front = ap (every test) (sym (ap (take (q * i)) both ∙ take_at (make front) (make back) (q * i) (parts.long front i front_long))) ∙ every_take test 0 (make s) (q * i) e

    every_back : every test (make back) ≡ true
    every_back = ap (every test) (sym (ap (drop (q * i)) both ∙ drop_at (make front) (make back) (q * i) (parts.long front i front_long))) ∙ every_drop test 0 (make s) (q * i) e

  every-part : (s : List ℕ) (n i k : ℕ) → i + k ≤ n → length s ≡ p * n → every test (make s) ≡ true → every test (make (take (p * (i + k) - p * i) (drop (p * i) s))) ≡ true
  every-part s n i k h e t =
      let w = span p n i k h in
      ap (λ (m : ℕ). every test (make (take m (drop (p * i) s)))) w.2
      ∙ every_front (drop (p * i) s) k (omega (arith, w, length-drop (p * i) s)) (every_back s i (omega (arith, w)) t)

-- ---- one block, whose points have `each` bytes in the file

module _ (n each : ℕ) (e : each ≡ 3 * code_bytes n) where
  abbrev b : ℕ
  b = code_bytes n

  -- a point's bytes become three codes
  point_codes_lem : Parts (raster_codes n) each 3
  point_codes_lem = subst (λ (p : ℕ). Parts (raster_codes n) p 3) (mul_comm b 3 ∙ sym e) (parts_many 3 (codes_parts n))

  module _ (l : Layout) (v : valid_points l ≡ true) where
    -- and then the bytes of a packed point
    point_packed : Parts (λ s. packed_of l (raster_codes n s)) each l.bytes
    point_packed = parts_then point_codes_lem (packed_parts l v)

    module _ (k : ℕ) (raster codes packed : List ℕ) (raster_long : length raster ≡ each * k) (codes-long : length codes ≡ 3 * k) where
      block_codes : codes_output n raster codes ≡ raster_codes n raster
      block_codes =
          let whole : length raster ≡ b * length codes =
          raster_long ∙ ap (λ (m : ℕ). m * k) (e ∙ mul_comm 3 b) ∙ mul_assoc b 3 k ∙ ap (λ (m : ℕ). b * m) (sym codes-long) in
          sym (taken b raster codes (holds-so b (length raster) (length codes) (some_bytes n) whole))

      block_packed : length packed ≡ l.bytes * k → k ≤ most_points → l.depth ≡ n → codes_within n (raster_codes n raster) ≡ true
          → pack_output l (codes_output n raster codes) packed ≡ packed_of l (raster_codes n raster)
      block_packed packed-long few d within =
          let cs = raster_codes n raster in
          let f = fit (length cs) 3 (length packed) l.bytes k (lit< tt) (point_codes_lem.long raster k raster_long) packed-long few in
          ap (λ (x : List ℕ). pack_output l x packed) block_codes
          ∙ ap (λ (a : Result ℕ Refusal). new_or_kept (is_ok a) (packed_of l cs) packed)
          (pack_points_lem l (not_grouped l v) cs (length packed) v f.0 (ap (λ (m : ℕ). codes_within m cs) d ∙ within))

-- ---- all blocks

module _ {l : Layout} {d : Depth} {raster packed : List ℕ} {n size : ℕ} (r : Ready l d raster packed n) (e : size ≡ code_bytes (bits_of d)) where
  abbrev each : ℕ
  each = 3 * size

  same : each ≡ 3 * code_bytes (bits_of d)
  same = ap (λ (m : ℕ). 3 * m) e

  raster_long : length raster ≡ each * n
  raster_long = r.raster_long ∙ ap (λ (m : ℕ). m * n) (sym same)

  abbrev make : List ℕ → List ℕ
  make s = packed_of l (raster_codes (bits_of d) s)

  parts : Parts make each l.bytes
  parts = point_packed (bits_of d) each same l r.valid

  -- the first i points are packed
  abbrev pub Packed : ℕ → List ℕ → Type 0
  Packed i xs = Made make each l.bytes raster packed i xs

  pub packed_none : Packed 0 packed
  packed_none = made_none parts raster packed n raster_long r.packed-long

  pub packed_same : {i : ℕ} {xs : List ℕ} → i ≤ n → Packed i xs → length xs ≡ length packed
  packed_same h m = made_long parts raster packed n raster_long r.packed-long h m

  pub packed_all : {i : ℕ} {xs : List ℕ} → i ≡ n → Packed i xs → xs ≡ packed_of l (raster_codes (bits_of d) raster)
  packed_all h m = made_all parts raster packed n raster_long r.packed-long h m

  -- where the next k points lie, in the file and packed
  pub places : (i k : ℕ) {xs : List ℕ} → i + k ≤ n → Packed i xs
      → (each * i ≤ each * (i + k)) × (each * (i + k) ≤ length raster) × (l.bytes * i ≤ l.bytes * (i + k)) × (l.bytes * (i + k) ≤ length packed) × (length xs ≡ length packed)
  places i k h m =
      let a = span each n i k h in
      let b = span l.bytes n i k h in
      (a.0, omega (arith, a.1, raster_long), b.0, omega (arith, b.1, r.packed-long), packed_same (omega arith) m)

  -- a turn packs them
  pub packed_more : (i k : ℕ) (codes : List ℕ) {xs ys : List ℕ} → i + k ≤ n → k ≤ most_points → length codes ≡ 3 * k
      → ys ≡ pack_output l (codes_output (bits_of d) (take (each * (i + k) - each * i) (drop (each * i) raster)) codes) (take (l.bytes * (i + k) - l.bytes * i) (drop (l.bytes * i) xs))
      → Packed i xs → Packed (i + k) (put_mid (l.bytes * i) (l.bytes * (i + k) - l.bytes * i) xs ys)
  packed_more i k codes {xs} h few codes-long new m =
      let part = take (each * (i + k) - each * i) (drop (each * i) raster) in
      let out = take (l.bytes * (i + k) - l.bytes * i) (drop (l.bytes * i) xs) in
      let within = every-part (point_codes_lem (bits_of d) each same) (λ c. leb c (top_of (bits_of d))) raster n i k h raster_long r.within in
      made_more parts raster packed n raster_long r.packed-long i k h
      (new ∙ block_packed (bits_of d) each same l r.valid k part codes out (lent each n i k raster h raster_long) codes-long
      (lent l.bytes n i k xs h (packed_same (omega arith) m ∙ r.packed-long)) few r.depth within)
      m
