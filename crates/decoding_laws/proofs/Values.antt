-- The values of a packed line, one by one. Assumes nothing.
use mathlib.Core.Path.{◌≡◌, refl, sym, ap, ap₂, ◌∙◌}
use mathlib.Core.Bool.{Bool, true, false, not, ◌&&◌}
use mathlib.Core.Logic.{inl, inr}
use mathlib.Core.List.{List, [], ◌∷◌, map}
use Prim.Native.Nat.{ℕ, zero, suc, ◌+◌, ◌*◌, ◌/◌, ◌%◌, ◌^◌, ◌≤◌, ◌<◌}
use native.Mathlib.Nat.{mod-lt}
use native.Mathlib.Omega.{arith}
use borrow.Author.Tests.{le-ltb, ltb-true, ltb-false, not-true}
use lib.Dec.{ltb}
use lib.Ieee.{Float, nan, inf, fin, is_nan}
use lib.ListN.{length, get_or}
use lib.Pow.{pow_pos}
use Rattle.lists.specs.Lists.{tabulate, count}
use Rattle.lists.specs.Bytes.{are_bytes}
use Rattle.lists.proofs.Every.{every_of, every_at}
use Rattle.lists.proofs.Lists.{length-tabulate, get_or-tabulate, tabulate_same}
use Rattle.lists.proofs.Counts.{count_same}
use Rattle.lists.proofs.Tests.{pass}
use lib.IntN.{pos}
use Rattle.fractions.specs.declared.Clamped.{Clamped}
use Rattle.fractions.specs.Fraction.{is_cut, clamped}
use Rattle.layout.specs.declared.Layout.{Layout}
use Rattle.parameters.specs.declared.range.Range.{Range}
use Rattle.parameters.specs.Parameters.{depth_known, top_of, range_of, kind_of}
use Rattle.layout.specs.Layout.{offset_of, valid_layout}
use Rattle.layout.proofs.Facts.{one_of_two, not_grouped, groups_say, valid_says}
use Rattle.scale.specs.declared.Scale.{Scale}
use Rattle.scale.specs.Value.{value_of}
use Rattle.quantization.specs.Code.{code_of, code_or, is_cut_code}
use Rattle.scales.specs.Channel.{scale_at}
use Rattle.quantization.specs.Answer.{named, dequantized}
use Rattle.scales.proofs.Known.{channel_known_lem}
use Rattle.quantization_laws.specs.Printed.{printed_low, printed_high, excluded}
use Rattle.quantization_laws.proofs.Printed.{ends_printed, within-ends, included_code, excluded_code}
use Rattle.quantization_laws.proofs.Return.{code_returns}
use Rattle.line.specs.Point.{point_of}
use Rattle.line.specs.Group.{byte_of_code, group_code}
use Rattle.line.specs.Line.{point_code, code_at, points_in, codes_of, looked, PackedLine}
use Rattle.line.proofs.Own.{own_code}
use Rattle.line.proofs.Grouped.{group_code_lem}
use Rattle.scanline_laws.proofs.Accepted.{points_in_lem}
use Rattle.scanline_laws.proofs.Looked.{beyond}
use Rattle.line_values.specs.Encode.{value_code, quantized_of, value_cut, cuts_of, all_numbers}
use Rattle.line_values.specs.Decode.{value_at, values_of}
use Rattle.refusal.specs.declared.Refusal.TheVariants.{NotANumber}
use Rattle.std.specs.Prelude.{Ok, Some, ok_or}
use Rattle.decoding_laws.specs.Claims.{clamped_to, none_excluded}

-- what has a code is a number
has_code : (sc : Scale) (v : Float) (c : Clamped) → code_of sc v ≡ Some c → not (is_nan v) ≡ true
unfolding code_of is_nan
has_code sc nan c e = let z : ◌≡◌ {A = ℕ} 0 1 = cc in absurd (omega arith)
has_code sc (inf s) c e = refl
has_code sc (fin s m x) c e = refl

-- f along a table
map-tabulate : (f : ℕ → ℕ) (n : ℕ) (g : ℕ → ℕ) → map f (tabulate n g) ≡ tabulate n (λ k. f (g k))
unfolding tabulate
map-tabulate f zero g = refl
map-tabulate f (suc n) g = ap (λ (xs : List ℕ). f (g 0) ∷ xs) (map-tabulate f n (λ k. g (suc k)))

-- a number has a code, which quantizing answers, with its cut
pub number_coded : (sc : Scale) (v : Float) → not (is_nan v) ≡ true → ok_or (code_of sc v) NotANumber ≡ Ok (record { code = code_or 0 (code_of sc v); cut = is_cut_code (code_of sc v) })
unfolding code_of is_nan
number_coded sc nan e = let z : ◌≡◌ {A = ℕ} 0 1 = cc in absurd (omega arith)
number_coded sc (inf false) e = refl
number_coded sc (inf true) e = refl
number_coded sc (fin s m x) e = refl

-- a code is cut exactly if it is left out of the return
cut-excluded : (n : ℕ) → depth_known n ≡ true → (r : Range) (c : ℕ) → c ≤ top_of n → is_cut (printed_low r n) (printed_high r n) (pos c) ≡ excluded r n c
cut-excluded n d r c h = go (excluded r n c) refl
  where
    go : (t : Bool) → excluded r n c ≡ t → is_cut (printed_low r n) (printed_high r n) (pos c) ≡ t
    go true e = ap (λ (x : Clamped). x.cut) (excluded_code n d r c e)
    go false e = ap (λ (x : Clamped). x.cut) (included_code n d r c h e)

-- a byte, wherever it stands
byte_lt : (s : List ℕ) (k : ℕ) → are_bytes s ≡ true → get_or s k 0 < 256
byte_lt s k are = go (ltb k (length s)) refl
  where
    go : (t : Bool) → ltb k (length s) ≡ t → get_or s k 0 < 256
    go true e = ltb-true (get_or s k 0) 256 (every_at (λ x. ltb x 256) 0 s k are (ltb-true k (length s) e))
    go false e = omega (arith, beyond s k 0 (ltb-false k (length s) e))

module _ (l : Layout) (s : List ℕ) where
  pub length-values : length (values_of l s) ≡ 3 * points_in l (length s)
  unfolding values_of
  length-values = length-tabulate (3 * points_in l (length s)) (value_at l s)

  pub value_at_lem : (k : ℕ) → k < length (values_of l s) → get_or (values_of l s) k nan ≡ value_of (scale_at l (k % 3)) (code_at l s k)
  unfolding values_of value_at
  value_at_lem k h = get_or-tabulate (3 * points_in l (length s)) (value_at l s) k nan (omega (arith, length-values))

  module _ (ok : valid_layout l ≡ true) (are : are_bytes s ≡ true) where
    -- a code of a packed line is one of the depth
    code_le : (k : ℕ) → code_at l s k ≤ top_of l.depth
    unfolding point_code group_code
    code_le k = elim (one_of_two l ok) [
      | inl p ↦ let pos = pow_pos l.depth in omega (arith, own_code l (not_grouped l p) s k, pos, mod-lt (point_of l s (k / 3) / 2 ^ offset_of l (k % 3)) pos)
      | inr g ↦ let top : top_of l.depth ≡ 255 = ap top_of (groups_say l g).depth in omega (arith, group_code_lem l g s k, top, byte_lt s (4 * (k / 6) + byte_of_code (k % 6)) are)
    ]

    -- the code of value k is code k, clamped
    code_back : (k : ℕ) → k < length (values_of l s) → code_of (scale_at l (k % 3)) (get_or (values_of l s) k nan) ≡ Some (clamped (printed_low (range_of l.range) l.depth) (printed_high (range_of l.range) l.depth) (pos (code_at l s k)))
    code_back k h =
        let r = valid_says l ok in
        let range = range_of l.range in
        let f = ends_printed l.depth r.depth range in
        ap (code_of (scale_at l (k % 3))) (value_at_lem k h)
        ∙ code_returns range (kind_of l.model (k % 3)) l.depth (code_at l s k) r.depth_least r.depth_most (code_le k)
        ∙ ap₂ (λ (low high : ℕ). Some (clamped low high (pos (code_at l s k)))) f.0 f.1

    pub codes_back : quantized_of l (values_of l s) ≡ map (clamped_to l) (codes_of l s)
    unfolding quantized_of value_code codes_of
    codes_back =
        tabulate_same 0 (length (values_of l s)) (value_code l (values_of l s)) (λ k. clamped_to l (code_at l s k)) (λ k h. ap (code_or 0) (code_back k h))
        ∙ ap (λ (m : ℕ). tabulate m (λ k. clamped_to l (code_at l s k))) length-values
        ∙ sym (map-tabulate (clamped_to l) (3 * points_in l (length s)) (code_at l s))

    pub all-numbers : all_numbers (values_of l s) ≡ true
    all-numbers = every_of (λ v. not (is_nan v)) nan (values_of l s) (λ k h. has_code (scale_at l (k % 3)) (get_or (values_of l s) k nan) _ (code_back k h))

    -- and it is cut exactly if it is left out of the return
    pub cuts_back : cuts_of l (values_of l s) ≡ count (3 * points_in l (length s)) (λ k. looked l k && excluded (range_of l.range) l.depth (code_at l s k))
    unfolding cuts_of value_cut
    cuts_back =
        count_same (length (values_of l s)) (λ k. looked l k && value_cut l (values_of l s) k) (λ k. looked l k && excluded (range_of l.range) l.depth (code_at l s k))
        (λ k h. ap (λ (t : Bool). looked l k && t) (ap is_cut_code (code_back k h) ∙ cut-excluded l.depth (valid_says l ok).depth (range_of l.range) (code_at l s k) (code_le k)))
        ∙ ap (λ (m : ℕ). count m (λ k. looked l k && excluded (range_of l.range) l.depth (code_at l s k))) length-values

    -- codes that are not left out are as they were
    pub none-clamped : none_excluded l (codes_of l s) ≡ true → map (clamped_to l) (codes_of l s) ≡ codes_of l s
    unfolding codes_of
    none-clamped none =
        let m = 3 * points_in l (length s) in
        map-tabulate (clamped_to l) m (code_at l s)
        ∙ tabulate_same 0 m (λ k. clamped_to l (code_at l s k)) (code_at l s) (λ k h.
        let r = range_of l.range in
        let c = code_at l s k in
        let e : get_or (codes_of l s) k 0 ≡ c = get_or-tabulate m (code_at l s) k 0 h in
        let x = not-true (excluded r l.depth (get_or (codes_of l s) k 0)) (every_at (λ c. not (excluded r l.depth c)) 0 (codes_of l s) k none (omega (arith, length-tabulate m (code_at l s)))) in
        omega (arith, within-ends l.depth (valid_says l ok).depth r c (code_le k) (ap (excluded r l.depth) (sym e) ∙ x)))

    pub as_dequantized : (k : ℕ) → k < length (values_of l s) → dequantized l.model l.range l.depth (k % 3) (code_at l s k) ≡ named (kind_of l.model (k % 3)) (get_or (values_of l s) k nan)
    unfolding dequantized
    as_dequantized k h =
        pass _ (ap not (channel_known_lem l (k % 3) ok (omega arith))) (pass _ (le-ltb (top_of l.depth) (code_at l s k) (code_le k)) (ap (named (kind_of l.model (k % 3))) (sym (value_at_lem k h))))

-- of n points
pub values_of_lem : (l : Layout) (n : ℕ) (s : List ℕ) → PackedLine l n s → length (values_of l s) ≡ 3 * n
values_of_lem l n s p = length-values l s ∙ ap (λ (m : ℕ). 3 * m) (points_in_lem l p.valid n p.whole (length s) p.points)

-- three values by their places
pub three : (vs : List Float) → length vs ≡ 3 → get_or vs 0 nan ∷ get_or vs 1 nan ∷ get_or vs 2 nan ∷ [] ≡ vs
three [] e = absurd (omega arith)
three (a ∷ []) e = absurd (omega arith)
three (a ∷ b ∷ []) e = absurd (omega arith)
three (a ∷ b ∷ c ∷ []) e = refl
three (a ∷ b ∷ c ∷ d ∷ vs) e = absurd (omega arith)
