-- A line of values, quantized and packed group by group, and its cuts counted. Assumes nothing.
use mathlib.Core.Path.{◌≡◌, refl, sym, ap, ap₂, ◌∙◌}
use mathlib.Core.Bool.{Bool, true, false, not, ◌&&◌}
use mathlib.Core.List.{List}
use Prim.Native.Nat.{ℕ, zero, suc, ◌+◌, ◌*◌, ◌/◌, ◌%◌, ◌^◌, ◌≤◌, ◌<◌}
use native.Mathlib.Nat.{add-zero}
use native.Mathlib.Omega.{arith}
use lib.Ieee.{Float, nan, is_nan}
use lib.ListN.{length, get_or, get_or-eq_default}
use mir.Val.{bool_byte}
use Rattle.lists.specs.Lists.{one_if, count}
use Rattle.lists.specs.Bytes.{byte_of}
use Rattle.lists.proofs.Counts.{count_le, count_next}
use Rattle.fractions.specs.declared.Clamped.{Clamped}
use Rattle.layout.specs.declared.Layout.{Layout}
use Rattle.parameters.specs.Parameters.{range_of, kind_of}
use Rattle.layout.specs.Layout.{valid_groups}
use Rattle.layout.proofs.Facts.{groups_valid, groups_say}
use Rattle.scale.specs.declared.Scale.{Scale}
use Rattle.scale.specs.Scale.{scale_of}
use Rattle.scales.specs.Channel.{scale_at}
use Rattle.quantization.specs.Code.{code_of, is_cut_code}
use Rattle.line.specs.Group.{code_of_byte, group_byte}
use Rattle.line.specs.inner.Groups.{group_shared}
use Rattle.line.proofs.Grouped.{group_looked}
use Rattle.line.proofs.Points.{code_lt}
use Rattle.line_values.specs.Encode.{quantized_of, value_cut, cuts_of, all_numbers}
use Rattle.line_values.proofs.Encodes.{number_at, length-quantized, quantized-within, placed}
use Rattle.group_encoding.specs.inner.Groups.{group_number, counted_cut}
use Rattle.std.specs.Prelude.{Some}
use Rattle.group_encoding.proofs.Looked.{first_four, last_two, length-shared, shared-first}

-- and its Cb and Cr are differences, on one scale
pub one-difference : (l : Layout) → valid_groups l ≡ true → scale_at l 1 ≡ scale_at l 2
one-difference l ok =
    let on : (j : ℕ) → scale_at l j ≡ scale_of (range_of l.range) l.depth (kind_of 2 j) = λ j. ap (λ (m : ℕ). scale_of (range_of l.range) l.depth (kind_of m j)) (groups_say l ok).model in
    on 1 ∙ sym (on 2)

module _ (l : Layout) (vs : List Float) where
  -- r is the code of value k, and says whether it was cut
  abbrev pub IsCode : ℕ → Clamped → Type 0
  IsCode k r = (r.code ≡ get_or (quantized_of l vs) k 0) × (bool_byte r.cut ≡ one_if (value_cut l vs k))

  -- ---- cuts

  abbrev cut : ℕ → Bool
  cut = counted_cut l vs

  -- none before the first group
  pub cuts_none : 0 ≡ count (6 * 0) cut
  unfolding count
  cuts_none = refl

  pub cuts_le : (i : ℕ) → count (6 * i) cut ≤ 6 * i
  cuts_le i = count_le (6 * i) cut

  -- and of all
  pub cuts_all : (i n : ℕ) → i ≡ n → length vs ≡ 6 * n → count (6 * i) cut ≡ cuts_of l vs
  unfolding cuts_of
  cuts_all i n e f = ap (λ (k : ℕ). count k cut) (omega arith)

  next : (n m : ℕ) (b : Bool) → n ≡ m + 1 → cut m ≡ b → count n cut ≡ count m cut + one_if b
  next n m b e f = ap (λ (x : ℕ). count x cut) e ∙ count_next cut m ∙ ap (λ (t : Bool). count m cut + one_if t) f

  -- ---- of a layout of groups
  module _ (ok : valid_groups l ≡ true) where
    cut-first : (k i j : ℕ) → k ≡ 6 * i + j → j < 4 → cut k ≡ value_cut l vs k
    cut-first k i j e h = ap (λ (t : Bool). t && value_cut l vs k) (group_looked l ok k ∙ ap not (first_four k i j e h))

    cut_second : (k i j : ℕ) → k ≡ 6 * i + j → 4 ≤ j → j < 6 → cut k ≡ false
    cut_second k i j e h f = ap (λ (t : Bool). t && value_cut l vs k) (group_looked l ok k ∙ ap not (last_two k i j e h f))

    -- the cuts of a group, beside those before it
    pub cuts_more : (i : ℕ) → count (6 * (i + 1)) cut ≡ count (6 * i) cut + (one_if (value_cut l vs (6 * i)) + one_if (value_cut l vs (6 * i + 1)) + one_if (value_cut l vs (6 * i + 2)) + one_if (value_cut l vs (6 * i + 3)))
    cuts_more i =
        let k = 6 * i in
        omega (
          arith,
          next (k + 1) k _ refl (cut-first k i 0 (omega arith) (omega arith)),
          next (k + 2) (k + 1) _ (omega arith) (cut-first (k + 1) i 1 refl (omega arith)),
          next (k + 3) (k + 2) _ (omega arith) (cut-first (k + 2) i 2 refl (omega arith)),
          next (k + 4) (k + 3) _ (omega arith) (cut-first (k + 3) i 3 refl (omega arith)),
          next (k + 5) (k + 4) _ (omega arith) (cut_second (k + 4) i 4 refl (omega arith) (omega arith)),
          next (6 * (i + 1)) (k + 5) _ (omega arith) (cut_second (k + 5) i 5 refl (omega arith) (omega arith)),
        )

    -- a value that is looked at is a number
    pub looked-number : (k i j : ℕ) → k ≡ 6 * i + j → j < 4 → k < length vs → all_numbers (group_shared nan vs) ≡ true → is_nan (get_or vs k nan) ≡ false
    looked-number k i j e h f n = ap is_nan (sym (shared-first nan vs k i j e h f)) ∙ number_at (group_shared nan vs) k n (omega (arith, length-shared nan vs))

    -- what was worked out of it on the scale of its channel, j, is its code
    pub coded : (k j : ℕ) (sc : Scale) (r : Clamped) → k % 3 ≡ j → sc ≡ scale_at l j → k < length vs → Some r ≡ code_of sc (get_or vs k nan) → IsCode k r
    coded k j sc r m f h e =
        let p : 3 * (k / 3) + j ≡ k = omega arith in
        let q = placed l vs (groups_valid l ok) (k / 3) j sc r f (omega arith) (omega arith) (e ∙ ap (λ (n : ℕ). code_of sc (get_or vs n nan)) (sym p)) in
        (q.1 ∙ ap (λ (n : ℕ). get_or (quantized_of l vs) n 0) p, q.2 ∙ ap (λ (n : ℕ). one_if (value_cut l vs n)) p)

-- ---- bytes

module _ (cs : List ℕ) where
  -- a group's number, by its codes
  pub number_is : (i : ℕ) → group_number cs i ≡ get_or cs (6 * i + 1) 0 + 256 * get_or cs (6 * i) 0 + 65536 * get_or cs (6 * i + 2) 0 + 16777216 * get_or cs (6 * i + 3) 0
  unfolding group_number
  number_is i = refl

  -- and its bytes are the line's
  pub number-bytes : (i j : ℕ) → ((k : ℕ) → k < length cs → get_or cs k 0 < 256) → 6 * i + 6 ≤ length cs → j < 4 → byte_of (group_number cs i) j ≡ group_byte cs (4 * i + j)
  unfolding group_number group_byte
  number-bytes i j small fits h =
      let q : i ≡ (4 * i + j) / 4 = omega arith in
      let r : j ≡ (4 * i + j) % 4 = omega arith in
      go j h ∙ ap₂ (λ (x y : ℕ). get_or cs (6 * x + code_of_byte y) 0) q r
    where
      bytes : (a b c d x : ℕ) → a < 256 → b < 256 → c < 256 → d < 256 → x ≡ a + 256 * b + 65536 * c + 16777216 * d
          → (byte_of x 0 ≡ a) × (byte_of x 1 ≡ b) × (byte_of x 2 ≡ c) × (byte_of x 3 ≡ d)
      bytes a b c d x ha hb hc hd e = (omega arith, omega arith, omega arith, omega arith)

      all : (byte_of (group_number cs i) 0 ≡ get_or cs (6 * i + 1) 0) × (byte_of (group_number cs i) 1 ≡ get_or cs (6 * i) 0) × (byte_of (group_number cs i) 2 ≡ get_or cs (6 * i + 2) 0) × (byte_of (group_number cs i) 3 ≡ get_or cs (6 * i + 3) 0)
      all = bytes _ _ _ _ _ (small (6 * i + 1) (omega arith)) (small (6 * i) (omega arith)) (small (6 * i + 2) (omega arith)) (small (6 * i + 3) (omega arith)) refl

      go : (j : ℕ) → j < 4 → byte_of (group_number cs i) j ≡ get_or cs (6 * i + code_of_byte j) 0
      go zero h = all.0
      go (suc zero) h = all.1 ∙ ap (λ (k : ℕ). get_or cs k 0) (sym (add-zero (6 * i)))
      go (suc (suc zero)) h = all.2
      go (suc (suc (suc zero))) h = all.3
      go (suc (suc (suc (suc j)))) h = absurd (omega arith)

-- of the codes of a line of values: each fits a byte
pub quantized-bytes : (l : Layout) (vs : List Float) → valid_groups l ≡ true → (i j v : ℕ) → 6 * i + 6 ≤ length vs → v ≡ group_number (quantized_of l vs) i → j < 4
    → byte_of v j ≡ group_byte (quantized_of l vs) (4 * i + j)
quantized-bytes l vs ok i j v fits e h =
    let d : 2 ^ l.depth ≡ 256 = ap (λ (n : ℕ). 2 ^ n) (groups_say l ok).depth in
    ap (λ (x : ℕ). byte_of x j) e
    ∙ number-bytes (quantized_of l vs) i j (λ k q. omega (arith, d, code_lt l (quantized_of l vs) k (quantized-within l vs (groups_valid l ok)) q)) (omega (arith, length-quantized l vs)) h

-- a group beyond the line has number 0, and no cut
module _ (l : Layout) (vs : List Float) (ok : valid_groups l ≡ true) (i : ℕ) (h : length vs ≤ 6 * i) where
  no_code : (k : ℕ) → 6 * i ≤ k → get_or (quantized_of l vs) k 0 ≡ 0
  no_code k g = get_or-eq_default (quantized_of l vs) 0 (omega (arith, length-quantized l vs))

  no_cut : (k : ℕ) → 6 * i ≤ k → one_if (value_cut l vs k) ≡ 0
  unfolding value_cut code_of
  no_cut k g = ap (λ (v : Float). one_if (is_cut_code (code_of (scale_at l (k % 3)) v))) (get_or-eq_default vs nan (omega arith))

  pub beyond_number : 0 ≡ group_number (quantized_of l vs) i
  beyond_number = omega (arith, number_is (quantized_of l vs) i, no_code (6 * i) (omega arith), no_code (6 * i + 1) (omega arith), no_code (6 * i + 2) (omega arith), no_code (6 * i + 3) (omega arith))

  pub beyond_cuts : count (6 * i) (counted_cut l vs) + 0 ≡ count (6 * (i + 1)) (counted_cut l vs)
  beyond_cuts = omega (arith, cuts_more l vs ok i, no_cut (6 * i) (omega arith), no_cut (6 * i + 1) (omega arith), no_cut (6 * i + 2) (omega arith), no_cut (6 * i + 3) (omega arith))
