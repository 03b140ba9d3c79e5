-- Document 01, "Codes and floats" and "Numbers on the refusal slip", with request A6: a packed line decoded to floats, three a point in channel order. Assumes nothing.
use Rattle.std.specs.Prelude.{ℕ, ◌*◌, ◌%◌, List, Float, length, Result, is_ok}
use Rattle.lists.specs.Lists.{tabulate, new_or_kept}
use Rattle.layout.specs.declared.Layout.{Layout}
use Rattle.scale.specs.Value.{value_of}
use Rattle.scales.specs.Channel.{scale_at}
use Rattle.line.specs.Line.{code_at, points_in}
use Rattle.refusal.specs.declared.Refusal.{Refusal}
use Rattle.line.specs.Answer.{unpack_answer}

-- value k of a packed line: the float nearest to the fraction of code k, on the scale of channel k % 3
unfoldable pub value_at : Layout → List ℕ → ℕ → Float
value_at l s k = value_of (scale_at l (k % 3)) (code_at l s k)

-- the values of a packed line
unfoldable pub values_of : Layout → List ℕ → List Float
unfolding value_at
values_of l s = tabulate (3 * points_in l (length s)) (value_at l s)

-- decoding a line of so many bytes into so many floats: the rows of unpacking it into so many codes
abbrev pub decode_answer : Layout → ℕ → ℕ → Result ℕ Refusal
decode_answer l bytes floats = unpack_answer l bytes floats

-- the floats after decoding
abbrev pub decode_output : Layout → List ℕ → List Float → List Float
decode_output l s before = new_or_kept (is_ok (decode_answer l (length s) (length before))) (values_of l s) before
