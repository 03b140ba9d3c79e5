-- Claims about codes made full-range R'G'B' (request A7), each proved in proofs/Claims.antt. Assumes nothing.
use Rattle.std.specs.Prelude.{ℕ, true, ◌≡◌, List}
use Rattle.layout.specs.declared.Layout.{Layout}
use Rattle.parameters.specs.Parameters.{depth_of}
use Rattle.layout.specs.Layout.{valid_layout}
use Rattle.line.specs.Line.{codes_within}
use Rattle.color_equations.specs.Line.{converted_of, to_rgb}
use Rattle.full_rgb.specs.Full.{full_codes}
use Rattle.full_rgb.specs.inner.Way.{way_code, way_of}

-- the way of a layout makes every line of its codes what the definition has
abbrev pub WayIsFull : Type 0
WayIsFull = (l : Layout) (cs : List ℕ) → valid_layout l ≡ true → codes_within l.depth cs ≡ true → converted_of (way_code (way_of l (depth_of l.depth))) cs ≡ full_codes l cs

-- Y'CbCr is converted as a line of it is, into full range
abbrev pub ConvertsAsALine : Type 0
ConvertsAsALine = (l : Layout) (cs : List ℕ) → l.model ≡ 2 → full_codes l cs ≡ converted_of (to_rgb l.primaries l.depth l.range 2) cs

-- what comes out is a code of the depth
abbrev pub StaysWithin : Type 0
StaysWithin = (l : Layout) (cs : List ℕ) → valid_layout l ≡ true → codes_within l.depth cs ≡ true → codes_within l.depth (full_codes l cs) ≡ true

-- full-range R'G'B' stays as it is
abbrev pub FullAsItIs : Type 0
FullAsItIs = (l : Layout) (cs : List ℕ) → l.model ≡ 1 → l.range ≡ 2 → full_codes l cs ≡ cs
