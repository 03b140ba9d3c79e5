-- The claims of specs/Claims.antt. Assumes nothing.
use mathlib.Core.Path.{◌≡◌, refl, sym, ap, ap₂, ◌∙◌, subst}
use mathlib.Core.Bool.{Bool, true, false, not, ◌&&◌, true≢false}
use mathlib.Core.List.{List}
use Prim.Native.Nat.{ℕ, ◌+◌, ◌*◌, min, ◌≤◌}
use native.Mathlib.Nat.{mod-lt, mul_comm}
use native.Mathlib.Omega.{arith}
use borrow.Author.Tests.{eq-eqb, lt-ltb}
use lib.Dec.{eqb, ltb}
use lib.ListN.{length, take, drop, length-take, length-drop}
use lib.Pow.{pow_pos, le_ones}
use Rattle.lists.proofs.Every.{every_drop, every_take}
use Rattle.lists.proofs.Tests.{and_left, stop, pass}
use Rattle.layout.specs.declared.Layout.{Layout}
use Rattle.parameters.specs.Parameters.{top_of, channel_known}
use Rattle.layout.specs.Layout.{valid_points}
use Rattle.line.specs.Point.{point_of}
use Rattle.layout.proofs.Facts.{valid-points, not_grouped}
use Rattle.line.proofs.Points.{point_inside, code_at_lem}
use Rattle.line.proofs.Own.{own_bytes, own_code}
use Rattle.field.specs.Field.{field_of, field_bytes}
use Rattle.field.specs.Answer.{field_known, code_answer, bytes_answer}
use Rattle.field.specs.Claims.{HoldsInOneToThreeBytes, HoldsAllAndOnlyTheField, ReadsTheFieldOfThePoint, ReadsEachCodeOfALine, RefusesOtherLengths, ReadsCodesOfTheDepth, RefusesGroups}
use Rattle.field.proofs.Bits.{bits-part}
use Rattle.std.specs.Prelude.{Result, Ok, Err}
use Rattle.refusal.specs.declared.Refusal.{Refusal}
use Rattle.field.proofs.Facts.{Placed, placed}

placed_by : (l : Layout) (channel : ℕ) → field_known l channel ≡ true → Placed l channel
placed_by l channel k = placed l channel (and_left (valid_points l) (channel_known channel) k)

pub holds_in_one_to_three-bytes : HoldsInOneToThreeBytes
holds_in_one_to_three-bytes l channel k =
    let p = placed_by l channel k in
    (omega (arith, p), omega (arith, p), p.inside)

pub holds-all_and_only_the_field : HoldsAllAndOnlyTheField
holds-all_and_only_the_field l channel k =
    let p = placed_by l channel k in
    (omega (arith, p), omega (arith, p), omega (arith, p), omega (arith, p))

pub reads_the_field_of_the_point : ReadsTheFieldOfThePoint
unfolding code_answer
reads_the_field_of_the_point l channel point k bytes long =
    let p = placed_by l channel k in
    let f = field_of l channel in
    let count : length (field_bytes f point) ≡ f.count = length-take f.count (drop f.first point) ∙ ap (min f.count) (length-drop f.first point) ∙ omega (arith, p.inside, long) in
    pass _ (ap not k) (pass _ (ap not (eq-eqb _ _ count)) (ap Ok (bits-part point _ _ _ _ _ bytes p.begins p.ends)))

pub reads_each_code_of_a_line : ReadsEachCodeOfALine
unfolding point_of
reads_each_code_of_a_line l n s line own i channel hi hc =
    let b = l.bytes in
    let points = line.points ∙ own_bytes l own n in
    let rest = drop (i * b) s in
    let known : field_known l channel ≡ true = ap₂ ◌&&◌ (valid-points l line.valid own) (lt-ltb channel 3 hc) in
    let are = every_take (λ x. ltb x 256) 0 rest b (every_drop (λ x. ltb x 256) 0 s (i * b) line.bytes) in
    let long : length (take b rest) ≡ b = length-take b rest ∙ ap (min b) (length-drop (i * b) s) ∙ omega (arith, point_inside i n b hi, points, mul_comm b n) in
    reads_the_field_of_the_point l channel (take b rest) known are long ∙ ap Ok (code_at_lem l s i channel hc ∙ sym (own_code l own s (3 * i + channel)))

pub refuses_other_lengths : RefusesOtherLengths
unfolding code_answer
refuses_other_lengths l channel bytes k e = pass _ (ap not k) (stop _ (ap not e))

-- the code of an answer, if it is one
abbrev Within : ℕ → Result ℕ Refusal → Type 0
Within top (Ok c) = c ≤ top
Within top (Err k) = Unit

within : (l : Layout) (channel : ℕ) (bytes : List ℕ) → Within (top_of l.depth) (code_answer l channel bytes)
unfolding code_answer
within l channel bytes = go (not (field_known l channel)) (not (eqb (length bytes) (field_of l channel).count)) refl refl
  where
    go : (s t : Bool) → not (field_known l channel) ≡ s → not (eqb (length bytes) (field_of l channel).count) ≡ t → Within (top_of l.depth) (code_answer l channel bytes)
    go true t p q = subst (Within (top_of l.depth)) (sym (stop _ p)) tt
    go false true p q = subst (Within (top_of l.depth)) (sym (pass _ p (stop _ q))) tt
    go false false p q = subst (Within (top_of l.depth)) (sym (pass _ p (pass _ q refl))) (le_ones l.depth (mod-lt _ (pow_pos l.depth)))

pub reads_codes_of_the_depth : ReadsCodesOfTheDepth
reads_codes_of_the_depth l channel c bytes e = subst (Within (top_of l.depth)) e (within l channel bytes)

pub refuses_groups : RefusesGroups
unfolding code_answer bytes_answer
refuses_groups l channel bytes g = (stop _ (ap not unknown), stop _ (ap not unknown))
  where
    unknown : field_known l channel ≡ false
    unknown = ap (λ (t : Bool). t && channel_known channel) (go (valid_points l) refl)
      where
        go : (t : Bool) → valid_points l ≡ t → valid_points l ≡ false
        go true v = let z : true ≡ false = sym g ∙ not_grouped l v in absurd (true≢false z)
        go false v = v
