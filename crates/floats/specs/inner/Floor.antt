-- The whole part of an f64 as the code takes it, and whether it lay outside two ends. A reader need not believe it: proofs/Floors.antt shows what both are of a fraction that was rounded. Assumes nothing.
use Rattle.std.specs.Prelude.{ℕ, ◌+◌, ◌*◌, ◌/◌, ◌%◌, false, cond, negsuc, Float}
use Rattle.std.specs.Float.{fin, binary64}
use Rattle.std.specs.Float.Ieee.{round, mul, sub, lt, ne, to_bits}
use Rattle.fractions.specs.declared.Clamped.{Clamped}
use Rattle.floats.specs.declared.Ends.{Ends}
use Rattle.floats.specs.declared.FloatEnds.{FloatEnds}

-- the lower end in units of 2 ^ -40, with 4096 more: the first number whose whole part is low, or, where the end is strict, the one after it
abbrev pub first_of : Ends → ℕ
first_of e = (e.low % 4096 + 4096) * 1099511627776 + cond e.strict 1 0

-- one unit, and k units, as an f64
abbrev pub unit : Float
unit = fin false 1 (negsuc 39)

abbrev pub in_units : ℕ → Float
in_units k = mul binary64 (round binary64 false k 1) unit

-- t, brought to low .. high by two comparisons, a NaN to low
unfoldable pub within : Float → Float → Float → Float
unfolding lt
within low high t = cond (lt (cond (lt low t) t low) high) (cond (lt low t) t low) high

-- the ends in f64
abbrev pub in_floats : Ends → FloatEnds
in_floats e = record { first = in_units (first_of e); high = e.high }

-- the last number whose whole part, less 4096, is high
abbrev pub last_of : ℕ → Float
last_of high = sub binary64 (round binary64 false (high + 4097) 1) unit

unfoldable pub brought : FloatEnds → Float → Float
unfolding within
brought f t = within f.first (last_of f.high) t

-- bits 40 to 51 of the pattern: of a number from 4096 to below 8192, the whole part less 4096
unfoldable pub whole_of : Float → ℕ
unfolding to_bits
whole_of t = to_bits binary64 t / 1099511627776 % 4096

-- the whole part of t - 4096 within the ends, and whether t - 4096 lies outside them
unfoldable pub clamped_by : FloatEnds → Float → Clamped
unfolding brought whole_of ne
clamped_by f t = record { code = whole_of (brought f t); cut = ne (brought f t) t }

abbrev pub clamped_within : Ends → Float → Clamped
clamped_within e t = clamped_by (in_floats e) t
