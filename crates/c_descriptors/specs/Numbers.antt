-- A descriptor's answers as C sees them: a number of 0 or more is the answer, and a refusal is minus its number (include/imurraqi.h). Assumes nothing.
use Rattle.std.specs.Prelude.{ℕ, List, ℤ, pos, neg_ℤ, Result, Ok, Err}
use Rattle.refusal.specs.declared.Refusal.{Refusal}
use Rattle.refusal.specs.Refusal.{number_of}
use Rattle.layout.specs.declared.Layout.{Layout}
use Rattle.c_types.specs.Layouts.{layout_bytes}

-- 0 for a layout
abbrev pub read_number : Result Layout Refusal → ℤ
read_number (Ok l) = pos 0
read_number (Err k) = neg_ℤ (pos (number_of k))

-- the nine bytes behind the pointer: the layout's, or what stood there before where it is refused
abbrev pub read_layout : Result Layout Refusal → List ℕ → List ℕ
read_layout (Ok l) before = layout_bytes l
read_layout (Err k) before = before
