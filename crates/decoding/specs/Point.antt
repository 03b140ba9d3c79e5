-- Document 01, "Codes and floats" and "Numbers on the refusal slip", with request A6: one point decoded. Assumes nothing.
use Rattle.std.specs.Prelude.{ℕ, not, cond, List, eqb, length, Result, Ok, Err, Float}
use Rattle.layout.specs.declared.Layout.{Layout}
use Rattle.layout.specs.Layout.{valid_points}
use Rattle.refusal.specs.declared.Refusal.TheVariants.{Outside, WrongLineOrOutput}
use Rattle.refusal.specs.declared.Refusal.{Refusal}
use Rattle.parameters.specs.declared.channels.Channels.{Channels}
use Rattle.line_values.specs.Decode.{value_at}

-- the first point of a packed line: its values in channel order
unfoldable pub first_point : Layout → List ℕ → Channels Float
unfolding value_at
first_point l s = record { channel0 = value_at l s 0; channel1 = value_at l s 1; channel2 = value_at l s 2 }

-- decoding the bytes of one point, a line of exactly one; a group has no single point (A6)
unfoldable pub decode_point : Layout → List ℕ → Result (Channels Float) Refusal
unfolding first_point
decode_point l s =
    cond (not (valid_points l)) (Err Outside)
    (cond (not (eqb (length s) l.bytes)) (Err WrongLineOrOutput)
    (Ok (first_point l s)))
