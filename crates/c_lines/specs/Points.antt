-- One point as C sees it: three floats, and an answer of 0 or more or minus a refusal's number (include/imurraqi.h). Assumes nothing.
use Rattle.std.specs.Prelude.{List, ℤ, pos, neg_ℤ, Float, Result, Ok, Err}
use Rattle.refusal.specs.declared.Refusal.{Refusal}
use Rattle.refusal.specs.Refusal.{number_of}
use Rattle.parameters.specs.declared.channels.Channels.{Channels}
use Rattle.line.specs.Line.{point_values}

-- the point of three values
abbrev pub point_of : Float → Float → Float → Channels Float
point_of c0 c1 c2 = record { channel0 = c0; channel1 = c1; channel2 = c2 }

-- 1 for a point
abbrev pub decoded_number : Result (Channels Float) Refusal → ℤ
decoded_number (Ok p) = pos 1
decoded_number (Err k) = neg_ℤ (pos (number_of k))

-- the three floats behind the pointer: the point's, or what stood there before where it is refused
abbrev pub decoded_values : Result (Channels Float) Refusal → List Float → List Float
decoded_values (Ok p) before = point_values p
decoded_values (Err k) before = before
