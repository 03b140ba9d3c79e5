-- The claims of specs/Claims.antt. Assumes nothing.
use mathlib.Core.Path.{◌≡◌, refl, sym, ap, ◌∙◌, subst}
use mathlib.Core.Bool.{Bool, true, false, not, cond, ◌&&◌}
use mathlib.Core.List.{List, [], map}
use Prim.Native.Nat.{ℕ, ◌*◌, ◌/◌, ◌%◌, ◌≤◌, ◌<◌}
use native.Mathlib.Omega.{arith}
use borrow.Author.Tests.{eqb-true}
use lib.Dec.{eqb}
use lib.Ieee.{Float, nan, is_nan}
use lib.ListN.{length, get_or}
use Rattle.lists.specs.Lists.{tabulate, every, count, new_or_kept}
use Rattle.lists.proofs.Counts.{count_same}
use Rattle.lists.proofs.Every.{every_at}
use Rattle.lists.proofs.Lists.{length-tabulate, get_or-tabulate}
use Rattle.lists.proofs.Tests.{and_right, pass, stop}
use Rattle.layout.specs.declared.Layout.{Layout}
use Rattle.parameters.specs.Parameters.{range_of}
use Rattle.layout.specs.Layout.{grouped, valid_layout}
use Rattle.layout.proofs.Facts.{two_each, groups_valid}
use Rattle.quantization.specs.Code.{code_of, code_or, is_cut_code}
use Rattle.scales.specs.Channel.{scale_at}
use Rattle.quantization.specs.Answer.{quantized}
use Rattle.scales.proofs.Known.{channel_known_lem}
use Rattle.quantization_laws.specs.Printed.{WithinEnds, excluded}
use Rattle.quantization_laws.proofs.Claims.{quantizes_within-ends}
use Rattle.line.specs.Line.{code_at, points_in, codes_of, bytes_for, packed_of, looked, stands_for, shared, PackedLine, CodeLine}
use Rattle.line.specs.Answer.{most_points, whole_bytes, unpackable, odd_points, packable, unpack_answer}
use Rattle.line_values.specs.Encode.{value_code, quantized_of, value_cut, cuts_of, all_numbers, encode_answer, encode_output, encode_point_answer}
use Rattle.line_values.proofs.Encodes.{length-quantized}
use Rattle.line_values.specs.Decode.{values_of, decode_answer, decode_output}
use Rattle.decoding.proofs.One.{first_of, shown, as_line, no_point}
use Rattle.scanline_laws.proofs.Accepted.{points_in_lem, even_points, odd_points_lem, part-points, too_many, can_pack, unpacking_accepted}
use Rattle.scanline_laws.proofs.Looked.{stands_looked, stands_before, itself, length-shared, shared_at, every-shared, shared_alike, packed_alike}
use Rattle.scanline_laws.proofs.Claims.{packs_what_was_unpacked, packs_back_whole, unpacks_what_was_packed, packs_to_bytes, packs_unused_bits_as_zero, encodes_to_codes, length-codes, no_points, counts_empty_lines as empty-lines}
use Rattle.decoding_laws.specs.Claims.{clamped_to, quantized_at, says_cut, ValueLine, DecodesLines, LeavesValues, RefusesOtherOutputs, DecodesEachCode, QuantizesWhatWasDecoded, EncodesEachValue, CountsEachCut, EncodesWithinEnds, EncodesWhatWasDecoded, AnyLineComesBack, AnyLineReturns, WholeLinesReturn, RefusesOddCounts, RefusesTooMany, RefusesPartsOfPoints, CountsEmptyLines, DecodesPointAsLine, RefusesPointAsLine, RefusesPointsOfGroups, EncodesWithoutLooking}
use Rattle.std.specs.Prelude.{Result, Ok, Err, is_ok}
use Rattle.refusal.specs.declared.Refusal.{Refusal}
use Rattle.refusal.specs.declared.Refusal.TheVariants.{NotANumber, OddCount, Outside, WrongLineOrOutput}
use Rattle.decoding_laws.proofs.Values.{number_coded, length-values, codes_back, cuts_back, none-clamped, all-numbers, as_dequantized, values_of_lem, three}

pub decodes_lines : DecodesLines
decodes_lines l n s p h = unpacking_accepted l n s (3 * n) p (omega arith) h

pub leaves_values : LeavesValues
leaves_values l n s p h before e = ap (λ (a : Result ℕ Refusal). new_or_kept (is_ok a) (values_of l s) before) (unpacking_accepted l n s (length before) p e h)

pub refuses_other_outputs : RefusesOtherOutputs
unfolding unpack_answer
refuses_other_outputs l n s p floats e =
    let m = points_in_lem l p.valid n p.whole (length s) p.points in
    let other : eqb floats (3 * points_in l (length s)) ≡ false = ap (λ (x : ℕ). eqb floats (3 * x)) m ∙ e in
    pass _ (ap not p.valid) (stop _ (ap not (ap (λ (t : Bool). whole_bytes l (length s) && t) other ∙ and_false (whole_bytes l (length s)))))
  where
    and_false : (t : Bool) → t && false ≡ false
    and_false true = refl
    and_false false = refl

pub decodes_each_code : DecodesEachCode
decodes_each_code l n s p = let e = values_of_lem l n s p in (e, λ k h. as_dequantized l s p.valid p.bytes k (omega arith))

-- ---- a line of values

-- it is accepted
encoded : (l : Layout) (n : ℕ) (vs : List Float) (bytes : ℕ) → ValueLine l n vs → bytes ≡ bytes_for l n → n ≤ most_points → encode_answer l vs bytes ≡ Ok (n, cuts_of l vs)
unfolding encode_answer
encoded l n vs bytes p e h =
    pass _ (ap not p.valid)
    (pass _ (even_points l p.valid n p.whole (length vs) p.points)
    (pass _ (ap not (can_pack l p.valid n p.whole (length vs) bytes p.points e h))
    (pass _ (ap not p.numbers) (ap (λ (m : ℕ). Ok (m, cuts_of l vs)) (points_in_lem l p.valid n p.whole bytes e)))))

module _ (l : Layout) (n : ℕ) (vs : List Float) (p : ValueLine l n vs) where
  -- what is looked at is a number
  number_at : (k : ℕ) → k < length vs → looked l k ≡ true → not (is_nan (get_or vs k nan)) ≡ true
  number_at k h e =
      ap (λ (v : Float). not (is_nan v)) (sym (shared_at l nan vs k h ∙ ap (λ (m : ℕ). get_or vs m nan) (itself l k e)))
      ∙ every_at (λ v. not (is_nan v)) nan (shared l nan vs) k p.numbers (omega (arith, h, length-shared l nan vs))

  -- quantizing it answers its code
  answered : (k : ℕ) → k < length vs → looked l k ≡ true → quantized_at l vs k ≡ Ok (record { code = value_code l vs k; cut = value_cut l vs k })
  unfolding quantized value_code value_cut
  answered k h e = pass _ (ap not (channel_known_lem l (k % 3) p.valid (omega arith))) (number_coded (scale_at l (k % 3)) (get_or vs k nan) (number_at k h e))

  cut_said : (k : ℕ) → k < length vs → looked l k && value_cut l vs k ≡ looked l k && says_cut (quantized_at l vs k)
  cut_said k h = go (looked l k) refl
    where
      go : (t : Bool) → looked l k ≡ t → t && value_cut l vs k ≡ t && says_cut (quantized_at l vs k)
      go true e = sym (ap says_cut (answered k h e))
      go false e = refl

  abbrev cs : List ℕ
  cs = quantized_of l vs

  abbrev s : List ℕ
  s = packed_of l cs

  line : CodeLine l n cs
  line = encodes_to_codes l n vs p.valid p.whole p.points

  bytes : PackedLine l n s
  bytes = packs_to_bytes l n cs line

  -- the code of its bytes is that of the value that stands for it
  code_of_lem : (k : ℕ) → k < 3 * n → code_at l s k ≡ value_code l vs (stands_for l k)
  unfolding codes_of quantized_of
  code_of_lem k h =
      let m = 3 * points_in l (length s) in
      let own : ℕ = stands_for l k in
      let inside : k < length vs = omega (arith, p.points) in
      let there : own < length vs = omega (arith, stands_before l k) in
      sym (get_or-tabulate m (code_at l s) k 0 (omega (arith, length-codes l n s bytes, length-tabulate m (code_at l s))))
      ∙ ap (λ (xs : List ℕ). get_or xs k 0) (unpacks_what_was_packed l n cs line)
      ∙ shared_at l 0 cs k (omega (arith, inside, length-tabulate (length vs) (value_code l vs)))
      ∙ get_or-tabulate (length vs) (value_code l vs) own 0 there

  each_value : (k : ℕ) → k < 3 * n → looked l k ≡ true → quantized_at l vs k ≡ Ok (record { code = code_at l s k; cut = value_cut l vs k })
  each_value k h e =
      let code = code_of_lem k h ∙ ap (value_code l vs) (itself l k e) in
      answered k (omega (arith, p.points)) e ∙ (λ i. Ok (record { code = sym code i; cut = value_cut l vs k }))

pub encodes_each_value : EncodesEachValue
encodes_each_value l n vs p = (bytes l n vs p, each_value l n vs p)

pub counts_each-cut : CountsEachCut
unfolding cuts_of
counts_each-cut l n vs p h =
    encoded l n vs (bytes_for l n) p refl h
    ∙ ap (λ (x : ℕ). Ok (n, x)) (count_same (length vs) (λ k. looked l k && value_cut l vs k) (λ k. looked l k && says_cut (quantized_at l vs k)) (cut_said l n vs p) ∙ ap (λ (m : ℕ). count m (λ k. looked l k && says_cut (quantized_at l vs k))) p.points)

pub encodes_within-ends : EncodesWithinEnds
encodes_within-ends l n vs p k h =
    let m = stands_for l k in
    let lm : m < 3 * n = omega (arith, stands_before l k) in
    let e = stands_looked l k in
    let same : code_at l (packed_of l (quantized_of l vs)) m ≡ code_at l (packed_of l (quantized_of l vs)) k = code_of_lem l n vs p m lm ∙ ap (value_code l vs) (itself l m e) ∙ sym (code_of_lem l n vs p k h) in
    subst (WithinEnds (range_of l.range) l.depth) same (quantizes_within-ends l.model l.range l.depth (m % 3) (get_or vs m nan) _ (each_value l n vs p m lm e))

pub quantizes_what_was_decoded : QuantizesWhatWasDecoded
quantizes_what_was_decoded l n s p = codes_back l s p.valid p.bytes

-- the values of a packed line are such a line
value_line : (l : Layout) (n : ℕ) (s : List ℕ) → PackedLine l n s → ValueLine l n (values_of l s)
value_line l n s p =
    record { valid = p.valid; whole = p.whole; numbers = every-shared l nan (values_of l s) (λ v. not (is_nan v)) (all-numbers l s p.valid p.bytes); points = values_of_lem l n s p }

pub encodes_what_was_decoded : EncodesWhatWasDecoded
encodes_what_was_decoded l n s p =
    let e = codes_back l s p.valid p.bytes in
    let line = encodes_to_codes l n (values_of l s) p.valid p.whole (values_of_lem l n s p) in
    (ap (packed_of l) e, packs_unused_bits_as_zero l n (map (clamped_to l) (codes_of l s)) (subst (CodeLine l n) e line))

pub any_line_comes_back : AnyLineComesBack
any_line_comes_back l n s p h floats bytes ef eb =
    let vs = values_of l s in
    let left : decode_output l s floats ≡ vs = leaves_values l n s p h floats ef in
    let none : ℕ → Bool = λ k. looked l k && excluded (range_of l.range) l.depth (code_at l s k) in
    let taken : encode_answer l vs (length bytes) ≡ Ok (n, count (3 * n) none) =
    encoded l n vs (length bytes) (value_line l n s p) (eb ∙ p.points) h
    ∙ ap (λ (x : ℕ). Ok (n, x)) (cuts_back l s p.valid p.bytes ∙ ap (λ (m : ℕ). count m none) (sym (length-values l s) ∙ values_of_lem l n s p)) in (
      unpacking_accepted l n s (length floats) p ef h,
      ap (λ (xs : List Float). encode_answer l xs (length bytes)) left ∙ taken,
      ap (λ (xs : List Float). encode_output l xs bytes) left
          ∙ ap (λ (a : Result (ℕ × ℕ) Refusal). new_or_kept (is_ok a) (packed_of l (quantized_of l vs)) bytes) taken
          ∙ ap (packed_of l) (codes_back l s p.valid p.bytes),
    )

pub any_line_returns : AnyLineReturns
any_line_returns l n s p h x floats bytes ef eb =
    (any_line_comes_back l n s p h floats bytes ef eb).2
    ∙ ap (packed_of l) (none-clamped l s p.valid p.bytes x)
    ∙ packs_what_was_unpacked l n s p

pub whole_lines_return : WholeLinesReturn
whole_lines_return l n s p h every x floats bytes ef eb = any_line_returns l n s p h x floats bytes ef eb ∙ sym (packs_what_was_unpacked l n s p) ∙ packs_back_whole l n s p every

pub refuses_odd_counts : RefusesOddCounts
unfolding encode_answer
refuses_odd_counts l g bytes vs ok e = pass _ (ap not (groups_valid l ok)) (stop _ (odd_points_lem l ok g (length vs) e))

pub refuses_too_many : RefusesTooMany
unfolding encode_answer
refuses_too_many l n bytes vs ok w h e = pass _ (ap not ok) (pass _ (even_points l ok n w (length vs) e) (stop _ (ap not (too_many l n (length vs) bytes h e))))

pub refuses_parts_of_points : RefusesPartsOfPoints
unfolding encode_answer
refuses_parts_of_points l bytes vs ok e = let p = part-points l (length vs) bytes e in pass _ (ap not ok) (pass _ p.0 (stop _ (ap not p.1)))

pub counts_empty_lines : CountsEmptyLines
unfolding every cuts_of count shared tabulate
counts_empty_lines l ok =
    let none = no_points l ok in
    ((empty-lines l ok).0, encoded l 0 [] 0 (record { valid = ok; whole = none.0; numbers = refl; points = refl }) none.1 (omega arith))

-- ---- one point

-- three floats are those of one point, which is one of its own
one_point : (l : Layout) (bytes n : ℕ) → decode_answer l bytes 3 ≡ Ok n → (n ≡ 1) × (points_in l bytes ≡ 1) × (grouped l ≡ false)
unfolding unpack_answer
one_point l bytes n e = go (valid_layout l) (unpackable l bytes 3) refl refl
  where
    not_two : (t : Bool) → grouped l ≡ t → points_in l bytes ≡ 1 → grouped l ≡ false
    not_two false g one = g
    not_two true g one = let two : 2 * (bytes / l.bytes) ≡ 1 = sym (ap (λ (x : ℕ). x * (bytes / l.bytes)) (two_each l g)) ∙ one in absurd (omega arith)

    go : (v t : Bool) → valid_layout l ≡ v → unpackable l bytes 3 ≡ t → (n ≡ 1) × (points_in l bytes ≡ 1) × (grouped l ≡ false)
    go false t p q = let r = sym (stop _ (ap not p)) ∙ e in let z : ◌≡◌ {A = ℕ} 0 1 = cc in absurd (omega arith)
    go true false p q = let r = sym (pass _ (ap not p) (stop _ (ap not q))) ∙ e in let z : ◌≡◌ {A = ℕ} 0 1 = cc in absurd (omega arith)
    go true true p q =
        let three : 3 ≡ 3 * points_in l bytes = eqb-true 3 (3 * points_in l bytes) (and_right (whole_bytes l bytes) (eqb 3 (3 * points_in l bytes)) q) in
        let one : points_in l bytes ≡ 1 = omega (arith, three) in
        let r = sym (pass _ (ap not p) (pass _ (ap not q) refl)) ∙ e in
        let d : points_in l bytes ≡ n = cc in
        (omega (arith, d, one), one, not_two (grouped l) refl one)

pub decodes_point_as_line : DecodesPointAsLine
decodes_point_as_line l s n e =
    let h = one_point l (length s) n e in
    let vs = values_of l s in
    (h.0, first_of vs, as_line l h.2 s ∙ ap (λ (a : Result ℕ Refusal). shown a vs) e, three vs (length-values l s ∙ ap (λ (m : ℕ). 3 * m) h.1))

pub refuses_point_as_line : RefusesPointAsLine
refuses_point_as_line l s k own e = as_line l own s ∙ ap (λ (a : Result ℕ Refusal). shown a (values_of l s)) e

pub refuses_points_of_groups : RefusesPointsOfGroups
unfolding encode_point_answer
refuses_points_of_groups l s p bytes e = (sym (no_point l s e), stop _ e)

-- ---- what is not looked at

pub encodes_without_looking : EncodesWithoutLooking
unfolding quantized_of value_code encode_answer cuts_of value_cut
encodes_without_looking l vs ws long agree = (
  packed_alike l (quantized_of l vs) (quantized_of l ws) (length-quantized l vs ∙ long ∙ sym (length-quantized l ws)) (λ k h e.
      let inside : k < length vs = omega (arith, h, length-quantized l vs) in
      get_or-tabulate (length vs) (value_code l vs) k 0 inside ∙ ap (λ (v : Float). code_or 0 (code_of (scale_at l (k % 3)) v)) (agree k inside e)
      ∙ sym (get_or-tabulate (length ws) (value_code l ws) k 0 (omega (arith, inside, long)))),
  λ bytes. λ i.
      cond (not (valid_layout l)) (Err Outside) (cond (odd_points l (long i)) (Err OddCount) (cond (not (packable l (long i) bytes)) (Err WrongLineOrOutput)
      (cond (not (all_numbers (shared_alike l nan vs ws long agree i))) (Err NotANumber) (Ok (points_in l bytes, cuts i))))),
)
  where
    cut : (k : ℕ) → k < length vs → looked l k && value_cut l vs k ≡ looked l k && value_cut l ws k
    cut k h = go (looked l k) refl
      where
        go : (t : Bool) → looked l k ≡ t → t && value_cut l vs k ≡ t && value_cut l ws k
        go true e = ap (λ (v : Float). is_cut_code (code_of (scale_at l (k % 3)) v)) (agree k h e)
        go false e = refl

    cuts : cuts_of l vs ≡ cuts_of l ws
    cuts = count_same (length vs) (λ k. looked l k && value_cut l vs k) (λ k. looked l k && value_cut l ws k) cut ∙ ap (λ (m : ℕ). count m (λ k. looked l k && value_cut l ws k)) long
