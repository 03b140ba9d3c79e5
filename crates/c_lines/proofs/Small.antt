-- The answers of lines have few points and small refusals. Assumes nothing.
use mathlib.Core.Path.{◌≡◌, refl, sym, ap, ◌∙◌}
use mathlib.Core.Bool.{Bool, true, false, not, ◌&&◌}
use mathlib.Core.List.{List}
use Prim.Native.Nat.{ℕ, ◌*◌, ◌/◌, ◌%◌}
use borrow.Author.Tests.{eqb-true, not-false}
use lib.Dec.{eqb, leb}
use lib.Ieee.{Float, nan}
use lib.ListN.{length}
use Rattle.lists.proofs.Tests.{and3}
use Rattle.layout.specs.declared.Layout.{Layout}
use Rattle.layout.specs.Layout.{grouped, whole_groups, valid_layout}
use Rattle.line.specs.Line.{points_in, bytes_for, shared, codes_within, point_values}
use Rattle.line.specs.Answer.{most_points, unpackable, odd_points, packable, unpack_answer, pack_answer}
use Rattle.line_values.specs.Encode.{all_numbers, encode_answer, encode_point_answer}
use Rattle.scanline_laws.proofs.Accepted.{points_in_lem}
use Rattle.c_types.specs.Numbers.{without_cuts, counted}
use Rattle.parameters.specs.declared.channels.Channels.{Channels}
use Rattle.c_types.proofs.Lines.{row, clamped_row}

pub unpack_small : (l : Layout) (bytes codes : ℕ) → counted (unpack_answer l bytes codes) ≡ true
unfolding unpack_answer
unpack_small l bytes codes =
    row (not (valid_layout l)) _ _ (λ _.
    row (not (unpackable l bytes codes)) _ _ (λ e.
    (and3 (eqb (bytes % l.bytes) 0) (leb (points_in l bytes) most_points) (eqb codes (3 * points_in l bytes)) (not-false (unpackable l bytes codes) e)).1))

-- a line that fits its packed bytes
packed_small : (l : Layout) (size bytes : ℕ) → valid_layout l ≡ true → odd_points l size ≡ false → packable l size bytes ≡ true → leb (points_in l bytes) most_points ≡ true
packed_small l size bytes ok even f =
    let n = size / 3 in
    let h = and3 (eqb (size % 3) 0) (leb n most_points) (eqb bytes (bytes_for l n)) f in
    let whole : whole_groups l n ≡ true = not-false (whole_groups l n) (sym (ap (λ (t : Bool). t && not (whole_groups l n)) h.0) ∙ even) in
    ap (λ (m : ℕ). leb m most_points) (points_in_lem l ok n whole bytes (eqb-true bytes (bytes_for l n) h.2)) ∙ h.1

pub pack_small : (l : Layout) (cs : List ℕ) (bytes : ℕ) → counted (pack_answer l cs bytes) ≡ true
unfolding pack_answer
pack_small l cs bytes =
    row (not (valid_layout l)) _ _ (λ v.
    row (odd_points l (length cs)) _ _ (λ even.
    row (not (packable l (length cs) bytes)) _ _ (λ f.
    row (not (codes_within l.depth (shared l 0 cs))) _ _ (λ _. packed_small l (length cs) bytes (not-false (valid_layout l) v) even (not-false (packable l (length cs) bytes) f)))))

pub encode_small : (l : Layout) (vs : List Float) (bytes : ℕ) → counted (without_cuts (encode_answer l vs bytes)) ≡ true
unfolding encode_answer
encode_small l vs bytes =
    clamped_row (not (valid_layout l)) _ _ (λ v.
    clamped_row (odd_points l (length vs)) _ _ (λ even.
    clamped_row (not (packable l (length vs) bytes)) _ _ (λ f.
    clamped_row (not (all_numbers (shared l nan vs))) _ _ (λ _. packed_small l (length vs) bytes (not-false (valid_layout l) v) even (not-false (packable l (length vs) bytes) f)))))

pub point_small : (l : Layout) (p : Channels Float) (bytes : ℕ) → counted (without_cuts (encode_point_answer l p bytes)) ≡ true
unfolding encode_point_answer
point_small l p bytes = clamped_row (grouped l) _ _ (λ _. encode_small l (point_values p) bytes)
