-- Request A3: the code in just the bytes of a field, and which bytes these are. Refused: 9, then 13. Assumes nothing.
use Rattle.std.specs.Prelude.{ℕ, Bool, not, cond, ◌&&◌, List, eqb, length, Result, Ok, Err}
use Rattle.layout.specs.declared.Layout.{Layout}
use Rattle.parameters.specs.Parameters.{channel_known}
use Rattle.layout.specs.Layout.{valid_points}
use Rattle.refusal.specs.declared.Refusal.TheVariants.{Outside, WrongLineOrOutput}
use Rattle.refusal.specs.declared.Refusal.{Refusal}
use Rattle.field.specs.declared.field.Field.{Field}
use Rattle.field.specs.Field.{field_of, field_code}

-- the paper has the layout, of points of their own (a group has no field of one point: A6), and a layout such a channel
abbrev pub field_known : Layout → ℕ → Bool
field_known l channel = valid_points l && channel_known channel

-- the code of a channel in just the bytes of its field
unfoldable pub code_answer : Layout → ℕ → List ℕ → Result ℕ Refusal
code_answer l channel bytes =
    cond (not (field_known l channel)) (Err Outside)
    (cond (not (eqb (length bytes) (field_of l channel).count)) (Err WrongLineOrOutput)
    (Ok (field_code (field_of l channel) bytes)))

-- the bytes of a point that hold the field of a channel
unfoldable pub bytes_answer : Layout → ℕ → Result Field Refusal
bytes_answer l channel = cond (not (field_known l channel)) (Err Outside) (Ok (field_of l channel))
