-- Document 01, "Codes and floats" and "Numbers on the refusal slip", with requests A4 and A6: a line of floats, three a point in channel order, encoded. Assumes nothing.
use Rattle.std.specs.Prelude.{ℕ, ◌%◌, Bool, not, cond, ◌&&◌, List, Float, length, get_or, Result, Ok, Err, is_ok}
use Rattle.std.specs.Float.{nan}
use Rattle.std.specs.Float.Ieee.{is_nan}
use Rattle.lists.specs.Lists.{tabulate, every, count, new_or_kept}
use Rattle.layout.specs.declared.Layout.{Layout}
use Rattle.layout.specs.Layout.{grouped, valid_layout}
use Rattle.quantization.specs.Code.{code_of, code_or, is_cut_code}
use Rattle.scales.specs.Channel.{scale_at}
use Rattle.line.specs.Line.{points_in, packed_of, looked, shared, point_values}
use Rattle.refusal.specs.declared.Refusal.TheVariants.{NotANumber, OddCount, Outside, WrongLineOrOutput}
use Rattle.refusal.specs.declared.Refusal.{Refusal}
use Rattle.parameters.specs.declared.channels.Channels.{Channels}
use Rattle.line.specs.Answer.{odd_points, packable}

-- code k of a line of values: that of value k on the scale of channel k % 3 (0 for a NaN, which is refused before or not looked at)
unfoldable pub value_code : Layout → List Float → ℕ → ℕ
value_code l vs k = code_or 0 (code_of (scale_at l (k % 3)) (get_or vs k nan))

-- the codes of a line of values
unfoldable pub quantized_of : Layout → List Float → List ℕ
unfolding value_code
quantized_of l vs = tabulate (length vs) (value_code l vs)

-- whether value k was cut, and how many of the line's that are looked at were (A4)
unfoldable pub value_cut : Layout → List Float → ℕ → Bool
value_cut l vs k = is_cut_code (code_of (scale_at l (k % 3)) (get_or vs k nan))

unfoldable pub cuts_of : Layout → List Float → ℕ
unfolding value_cut
cuts_of l vs = count (length vs) (λ k. looked l k && value_cut l vs k)

-- no value is a NaN
abbrev pub all_numbers : List Float → Bool
all_numbers vs = every (λ v. not (is_nan v)) vs

-- encoding a line of values into so many bytes
unfoldable pub encode_answer : Layout → List Float → ℕ → Result (ℕ × ℕ) Refusal
unfolding cuts_of
encode_answer l vs bytes =
    cond (not (valid_layout l)) (Err Outside)
    (cond (odd_points l (length vs)) (Err OddCount)
    (cond (not (packable l (length vs) bytes)) (Err WrongLineOrOutput)
    (cond (not (all_numbers (shared l nan vs))) (Err NotANumber)
    (Ok (points_in l bytes, cuts_of l vs)))))

-- the bytes after encoding
abbrev pub encode_output : Layout → List Float → List ℕ → List ℕ
encode_output l vs before = new_or_kept (is_ok (encode_answer l vs (length before))) (packed_of l (quantized_of l vs)) before

-- encoding one point, a line of exactly one; a group has no single point (A6)
unfoldable pub encode_point_answer : Layout → Channels Float → ℕ → Result (ℕ × ℕ) Refusal
unfolding encode_answer
encode_point_answer l p bytes = cond (grouped l) (Err Outside) (encode_answer l (point_values p) bytes)

-- the bytes after encoding it
abbrev pub encode_point_output : Layout → Channels Float → List ℕ → List ℕ
encode_point_output l p before = new_or_kept (is_ok (encode_point_answer l p (length before))) (packed_of l (quantized_of l (point_values p))) before
