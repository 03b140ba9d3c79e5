-- Lines of points of their own, beside which proofs/Groups.antt has those of groups. Assumes nothing.
use mathlib.Core.Path.{◌≡◌, sym, ap, ◌∙◌}
use mathlib.Core.Bool.{Bool, true, cond}
use mathlib.Core.List.{List}
use Prim.Native.Nat.{ℕ, ◌*◌}
use lib.ListN.{length}
use Rattle.lists.specs.Bytes.{are_bytes}
use Rattle.layout.specs.declared.Layout.{Layout}
use Rattle.parameters.specs.Parameters.{top_of}
use Rattle.layout.specs.Layout.{valid_points}
use Rattle.layout.proofs.Facts.{not_grouped}
use Rattle.line.specs.Line.{codes_within, PackedLine, CodeLine}
use Rattle.line.proofs.Own.{own_bytes, own_shared}
use Rattle.scanline_laws.specs.Cleared.{field_bits, used_bits}

-- a packed line of n points, and one as codes
pub record PackedPoints (l : Layout) (n : ℕ) (s : List ℕ) : Type 0 where
  pub valid : valid_points l ≡ true
  pub bytes : are_bytes s ≡ true
  pub points : length s ≡ l.bytes * n

pub record CodePoints (l : Layout) (n : ℕ) (cs : List ℕ) : Type 0 where
  pub valid : valid_points l ≡ true
  pub codes : codes_within l.depth cs ≡ true
  pub points : length cs ≡ 3 * n

pub packed-points : {l : Layout} {n : ℕ} {s : List ℕ} → valid_points l ≡ true → PackedLine l n s → PackedPoints l n s
packed-points {l} {n} {s} ok p = record { valid = ok; bytes = p.bytes; points = p.points ∙ own_bytes l (not_grouped l ok) n }

pub code_points : {l : Layout} {n : ℕ} {cs : List ℕ} → valid_points l ≡ true → CodeLine l n cs → CodePoints l n cs
code_points {l} {n} {cs} ok p = record { valid = ok; codes = ap (codes_within l.depth) (sym (own_shared l (not_grouped l ok) 0 cs)) ∙ p.codes; points = p.points }

-- their used bits are the fields'
pub used_fields : (l : Layout) → valid_points l ≡ true → used_bits l ≡ field_bits l
unfolding used_bits
used_fields l ok = ap (λ (t : Bool). cond t (top_of 32) (field_bits l)) (not_grouped l ok)
