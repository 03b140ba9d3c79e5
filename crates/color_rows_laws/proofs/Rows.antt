-- What a row gives at three codes, in natural numbers: the whole part of its fraction within its ends, and whether that lay outside them. Assumes nothing.
use Prim.Native.Nat.{ℕ, ◌+◌, ◌-◌, ◌*◌, ◌/◌}
use Rattle.fractions.specs.declared.Clamped.{Clamped}
use Rattle.fractions.specs.Fraction.{bounded}
use Rattle.fractions.proofs.Cuts.{outside}
use Rattle.floats.specs.declared.Ends.{Ends}
use Rattle.color_rows.specs.declared.linear.Linear.{Linear}
use Rattle.color_rows.specs.declared.linear.Row.{Row}

-- the two sums of a linear sum at the codes x, y, z
abbrev pub plus_at : Linear → ℕ → ℕ → ℕ → ℕ
plus_at v x y z = v.plus0 * x + v.plus1 * y + v.plus2 * z + v.plus

abbrev pub minus_at : Linear → ℕ → ℕ → ℕ → ℕ
minus_at v x y z = v.minus0 * x + v.minus1 * y + v.minus2 * z + v.minus

-- (p - m) / over within the ends; whether it lay outside them is told 4096 above, where no difference is cut at 0
abbrev pub clamped_by : Ends → (over p m : ℕ) → Clamped
clamped_by e over p m = record { code = bounded e.low e.high ((p - m) / over); cut = outside e.strict e.low e.high (p + 4096 * over - m) over }

abbrev pub clamped_at : Row → ℕ → ℕ → ℕ → Clamped
clamped_at r x y z = clamped_by r.ends r.over (plus_at r.sum x y z) (minus_at r.sum x y z)
