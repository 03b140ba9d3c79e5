-- Bytes that are accepted are the descriptor of the layout that they tell. Assumes nothing.
use mathlib.Core.Path.{◌≡◌, refl, sym, ap, ap₂, ◌∙◌, subst}
use mathlib.Core.Bool.{Bool, true, false, not, cond, ◌&&◌}
use mathlib.Core.List.{List, [], ◌∷◌, ◌++◌}
use Prim.Native.Nat.{ℕ, zero, suc, ◌+◌, ◌*◌, ◌/◌, ◌%◌, ◌<◌}
use native.Mathlib.Omega.{arith}
use borrow.Author.Tests.{eqb-true, ltb-true, ltb-false, not-false}
use lib.Dec.{eqb, ltb, lit<}
use lib.ListN.{length, get_or, get_or-eq_default}
use Rattle.lists.specs.Lists.{tabulate}
use Rattle.lists.specs.Bytes.{bytes_of, number_at}
use Rattle.lists.proofs.Every.{every_at}
use Rattle.lists.proofs.Lists.{is_tabulate}
use Rattle.lists.proofs.Tests.{and_left, and_right, and3}
use Rattle.layout.specs.declared.Layout.{Layout}
use Rattle.parameters.specs.declared.range.Range.{Range}
use Rattle.parameters.specs.Parameters.{model_known, primaries_known, range_number, range_known, range_of, depth_known, kind_of}
use Rattle.layout.specs.Layout.{bytes_known, valid_points}
use Rattle.descriptor_samples.specs.declared.sample.Sample.{Sample}
use Rattle.descriptor_samples.specs.declared.samples.Samples.{Samples}
use Rattle.descriptor_samples.specs.Limits.{lower_of, upper_of}
use Rattle.descriptor_samples.specs.Samples.{states, all_state, samples_right}
use Rattle.descriptor_reader.specs.Sample.{sample_in, samples_in}
use Rattle.descriptor_writer.specs.Sample.{sample_bytes}
use Rattle.descriptor_reader.specs.Header.{zeros, header_right, color_right, planes_right}
use Rattle.descriptor_layout.specs.Told.{layout_from, ranged, read_samples}
use Rattle.descriptor_reader.specs.Reading.{read_descriptor}
use Rattle.descriptor_writer.specs.Writing.{front_bytes, samples_bytes, descriptor_bytes}
use Rattle.descriptor_layout.proofs.Right.{Right, right_says}
use Rattle.descriptor_reader.proofs.Answers.{planes_bytes}
use Rattle.descriptor_reader.proofs.Zeros.{zero_at}
use Rattle.descriptor_laws.proofs.Samples.{range_from, layout_in, Of}
use Rattle.descriptor_laws.proofs.Named.{range_stated, number_known, number_own, Told, told_by}
use Rattle.std.specs.Prelude.{Option, Some, None, Result, Ok, Err}
use Rattle.refusal.specs.declared.Refusal.{Refusal}
use Rattle.refusal.specs.declared.Refusal.TheVariants.{WrongColor, WrongHeader, WrongLength, WrongPlanes, WrongSample}
use Rattle.descriptor_laws.specs.Claims.{Bytes, AcceptsNoOther}

-- ---- no row applied

passed : (t : Bool) (k : Refusal) (y : Result Layout Refusal) (l : Layout) → cond t (Err k) y ≡ Ok l → (t ≡ false) × (y ≡ Ok l)
passed true k y l e = let z : ◌≡◌ {A = ℕ} 0 1 = cc in absurd (omega arith)
passed false k y l e = (refl, e)

-- the layout that is accepted is one
pub same_ok : (x y : Layout) → ◌≡◌ {A = Result Layout Refusal} (Ok x) (Ok y) → x ≡ y
same_ok x y e = cc

record Passed (b : List ℕ) (l : Layout) (range : Range) : Type 0 where
  long : length b ≡ 76
  header : header_right b ≡ true
  color : color_right b ≡ true
  planes : planes_right b ≡ true
  samples : samples_right (get_or b 20 0) (samples_in b) ≡ true
  stated : range_from (get_or b 12 0) (samples_in b) ≡ Some range
  is : layout_in b range ≡ l

-- the range that the samples state, where the layout is told
range_passed : (b : List ℕ) (l : Layout) (o : Option Range) → ranged (get_or b 12 0) (get_or b 13 0) (get_or b 20 0) (samples_in b) o ≡ Ok l
    → (range : Range) × (o ≡ Some range) × (layout_in b range ≡ l)
range_passed b l None e = let z : ◌≡◌ {A = ℕ} 0 1 = cc in absurd (omega arith)
range_passed b l (Some range) e = (range, refl, same_ok (layout_in b range) l e)

all_passed : (b : List ℕ) (l : Layout) → read_descriptor b ≡ Ok l → (range : Range) × Passed b l range
unfolding read_descriptor read_samples
all_passed b l e =
    let s = samples_right (get_or b 20 0) (samples_in b) in
    let x6 : Result Layout Refusal = ranged (get_or b 12 0) (get_or b 13 0) (get_or b 20 0) (samples_in b) (range_from (get_or b 12 0) (samples_in b)) in
    let x5 : Result Layout Refusal = cond (not s) (Err WrongSample) x6 in
    let x4 : Result Layout Refusal = cond (not (planes_right b)) (Err WrongPlanes) x5 in
    let x3 : Result Layout Refusal = cond (not (color_right b)) (Err WrongColor) x4 in
    let x2 : Result Layout Refusal = cond (not (header_right b)) (Err WrongHeader) x3 in
    let p1 = passed (not (eqb (length b) 76)) WrongLength x2 l e in
    let p2 = passed (not (header_right b)) WrongHeader x3 l p1.1 in
    let p3 = passed (not (color_right b)) WrongColor x4 l p2.1 in
    let p4 = passed (not (planes_right b)) WrongPlanes x5 l p3.1 in
    let p5 = passed (not s) WrongSample x6 l p4.1 in
    let p6 = range_passed b l (range_from (get_or b 12 0) (samples_in b)) p5.1 in (
      p6.0,
      record {
        long = eqb-true (length b) 76 (not-false (eqb (length b) 76) p1.0);
        header = not-false (header_right b) p2.0;
        color = not-false (color_right b) p3.0;
        planes = not-false (planes_right b) p4.0;
        samples = not-false s p5.0;
        stated = p6.1;
        is = p6.2;
      },
    )

-- ---- bytes and numbers

byte_lt : (b : List ℕ) → Bytes b → (i : ℕ) → get_or b i 0 < 256
byte_lt b e i = go (ltb i (length b)) refl
  where
    go : (t : Bool) → ltb i (length b) ≡ t → get_or b i 0 < 256
    go true h = ltb-true (get_or b i 0) 256 (every_at (λ (x : ℕ). ltb x 256) 0 b i e (ltb-true i (length b) h))
    go false h = subst (λ (x : ℕ). x < 256) (sym (get_or-eq_default b 0 (ltb-false i (length b) h))) (lit< tt)

-- the k bytes from place i on
abbrev slots : List ℕ → ℕ → ℕ → List ℕ
slots b i zero = []
slots b i (suc k) = get_or b i 0 ∷ slots b (i + 1) k

slots_of_number : (b : List ℕ) → Bytes b → (i k : ℕ) → bytes_of (number_at b i k) k ≡ slots b i k
unfolding bytes_of
slots_of_number b e i zero = refl
slots_of_number b e i (suc k) =
    let x = get_or b i 0 in
    let y = number_at b (i + 1) k in
    let h : x < 256 = byte_lt b e i in
    let q : (x + 256 * y) / 256 ≡ y = omega arith in
    let r : (x + 256 * y) % 256 ≡ x = omega arith in
    ap₂ (λ (z : ℕ) (zs : List ℕ). z ∷ zs) r (ap (λ (v : ℕ). bytes_of v k) q ∙ slots_of_number b e (i + 1) k)

-- the bytes of a number that is known
slots_of : (b : List ℕ) → Bytes b → (i k v : ℕ) → eqb (number_at b i k) v ≡ true → bytes_of v k ≡ slots b i k
slots_of b e i k v h = ap (λ (x : ℕ). bytes_of x k) (sym (eqb-true (number_at b i k) v h)) ∙ slots_of_number b e i k

-- a sample's 16 bytes
abbrev sample_slots : List ℕ → ℕ → List ℕ
sample_slots b i = slots b i 2 ++ (get_or b (i + 2) 0 ∷ get_or b (i + 3) 0 ∷ (slots b (i + 4) 4 ++ (slots b (i + 8) 4 ++ slots b (i + 12) 4)))

sample_slots_lem : (b : List ℕ) → Bytes b → (i : ℕ) → sample_bytes (sample_in b i) ≡ sample_slots b i
unfolding sample_bytes sample_in
sample_slots_lem b e i = λ j.
    slots_of_number b e i 2 j
    ++ (get_or b (i + 2) 0 ∷ get_or b (i + 3) 0 ∷ (slots_of_number b e (i + 4) 4 j ++ (slots_of_number b e (i + 8) 4 j ++ slots_of_number b e (i + 12) 4 j)))

-- bytes 0 to 27
abbrev header_slots : List ℕ → List ℕ
header_slots b =
    slots b 0 4
    ++ (slots b 4 4
    ++ (slots b 8 2
    ++ (slots b 10 2
    ++ (get_or b 12 0 ∷ get_or b 13 0 ∷ get_or b 14 0 ∷ get_or b 15 0 ∷ (slots b 16 4 ++ (get_or b 20 0 ∷ slots b 21 7))))))

-- all of them
all_slots : (b : List ℕ) → length b ≡ 76 → b ≡ header_slots b ++ (sample_slots b 28 ++ (sample_slots b 44 ++ sample_slots b 60))
unfolding tabulate
all_slots b e = is_tabulate 0 b 76 (λ k. get_or b k 0) e (λ k h. refl)

header_slots_lem : (b : List ℕ) (range : Range) → Bytes b → header_right b ≡ true → color_right b ≡ true → planes_right b ≡ true → front_bytes (layout_in b range) ≡ header_slots b
unfolding front_bytes layout_from header_right color_right planes_right
header_slots_lem b range e h c p =
    let sizes = and3 (eqb (number_at b 0 4) 76 && eqb (number_at b 4 4) 0) (eqb (number_at b 8 2) 1) (eqb (number_at b 10 2) 72) h in
    let colors = and3 (model_known (get_or b 12 0) && primaries_known (get_or b 13 0)) (eqb (get_or b 14 0) 3) (eqb (get_or b 15 0) 0) c in
    let planes = and3 (zeros b 16 4) (bytes_known (get_or b 20 0)) (zeros b 21 7) p in
    λ j.
    slots_of b e 0 4 76 (and_left (eqb (number_at b 0 4) 76) (eqb (number_at b 4 4) 0) sizes.0) j
    ++ (slots_of b e 4 4 0 (and_right (eqb (number_at b 0 4) 76) (eqb (number_at b 4 4) 0) sizes.0) j
    ++ (slots_of b e 8 2 1 sizes.1 j
    ++ (slots_of b e 10 2 72 sizes.2 j
    ++ (get_or b 12 0 ∷ get_or b 13 0 ∷ sym (eqb-true (get_or b 14 0) 3 colors.1) j ∷ sym (eqb-true (get_or b 15 0) 0 colors.2) j
    ∷ zero_at b 16 4 0 planes.0 (lit< tt) j
    ∷ zero_at b 16 4 1 planes.0 (lit< tt) j
    ∷ zero_at b 16 4 2 planes.0 (lit< tt) j
    ∷ zero_at b 16 4 3 planes.0 (lit< tt) j
    ∷ get_or b 20 0
    ∷ zero_at b 21 7 0 planes.2 (lit< tt) j
    ∷ zero_at b 21 7 1 planes.2 (lit< tt) j
    ∷ zero_at b 21 7 2 planes.2 (lit< tt) j
    ∷ zero_at b 21 7 3 planes.2 (lit< tt) j
    ∷ zero_at b 21 7 4 planes.2 (lit< tt) j
    ∷ zero_at b 21 7 5 planes.2 (lit< tt) j
    ∷ zero_at b 21 7 6 planes.2 (lit< tt) j
    ∷ []))))

-- ---- the layout

-- a sample that states a range has its numbers
states_say : (model : ℕ) (r : Range) (n : ℕ) (s : Sample) → states model r n s ≡ true → (s.lower ≡ lower_of r n) × (s.upper ≡ upper_of r n (kind_of model s.channel))
unfolding states
states_say model r n s e =
    let lower = eqb s.lower (lower_of r n) in
    let upper = eqb s.upper (upper_of r n (kind_of model s.channel)) in
    (eqb-true s.lower (lower_of r n) (and_left lower upper e), eqb-true s.upper (upper_of r n (kind_of model s.channel)) (and_right lower upper e))

all_say : (model : ℕ) (r : Range) (n : ℕ) (s : Samples) → all_state model r n s ≡ true
    → (states model r n s.first ≡ true) × (states model r n s.second ≡ true) × (states model r n s.third ≡ true)
unfolding all_state
all_say model r n s e = and3 (states model r n s.first) (states model r n s.second) (states model r n s.third) e

-- the tests of a valid layout, together
says_valid : (l : Layout) (s : Samples) → model_known l.model ≡ true → primaries_known l.primaries ≡ true → range_known l.range ≡ true
    → depth_known l.depth ≡ true → bytes_known l.bytes ≡ true → Told l s → l.sampling ≡ 0 → valid_points l ≡ true
unfolding valid_points
says_valid l s m p r d b t o = rw (m, p, r, d, b, t.inside0, t.inside1, t.inside2, t.apart01, t.apart02, t.apart12, o)

module _ (b : List ℕ) (l : Layout) (range : Range) (p : Passed b l range) where
  right : Right (get_or b 20 0) (samples_in b)
  right = right_says (get_or b 20 0) (samples_in b) p.samples

  -- the range of the layout that is told
  abbrev told_range : Range
  told_range = range_of (range_number range)

  stated : all_state (get_or b 12 0) told_range ((samples_in b).first.length + 1) (samples_in b) ≡ true
  stated =
      subst (λ (r : Range). all_state (get_or b 12 0) r ((samples_in b).first.length + 1) (samples_in b) ≡ true) (sym (number_own range))
      (range_stated (get_or b 12 0) (samples_in b) range p.stated)

  -- each sample is the layout's
  of_read : (s : Sample) → s.length ≡ (samples_in b).first.length → s.position ≡ 0
      → states (get_or b 12 0) told_range ((samples_in b).first.length + 1) s ≡ true → Of (layout_in b range) s
  unfolding layout_from
  of_read s n z e =
      let q = states_say (get_or b 12 0) told_range ((samples_in b).first.length + 1) s e in
      record { length = omega arith; position = z; lower = q.0; upper = q.1 }

  told_read : Told (layout_in b range) (samples_in b)
  unfolding layout_from
  told_read =
      let r = right in
      let q = all_say (get_or b 12 0) told_range ((samples_in b).first.length + 1) (samples_in b) stated in
      told_by (layout_in b range) (samples_in b) r refl
      (of_read (samples_in b).first refl r.first_position q.0)
      (of_read (samples_in b).second r.second_length r.second_position q.1)
      (of_read (samples_in b).third r.third_length r.third_position q.2)
      refl refl refl

  valid_read : valid_points (layout_in b range) ≡ true
  unfolding layout_from color_right
  valid_read =
      let colors = and3 (model_known (get_or b 12 0) && primaries_known (get_or b 13 0)) (eqb (get_or b 14 0) 3) (eqb (get_or b 15 0) 0) p.color in
      says_valid (layout_in b range) (samples_in b)
      (and_left (model_known (get_or b 12 0)) (primaries_known (get_or b 13 0)) colors.0)
      (and_right (model_known (get_or b 12 0)) (primaries_known (get_or b 13 0)) colors.0)
      (number_known range) right.depth (planes_bytes b p.planes) told_read refl

  bytes_read : Bytes b → b ≡ descriptor_bytes (layout_in b range)
  unfolding descriptor_bytes samples_bytes samples_in
  bytes_read e =
      all_slots b p.long
      ∙ sym ((λ j. header_slots_lem b range e p.header p.color p.planes j ++ (sample_slots_lem b e 28 j ++ (sample_slots_lem b e 44 j ++ sample_slots_lem b e 60 j))))
      ∙ sym (ap (λ (s : Samples). front_bytes (layout_in b range) ++ (sample_bytes s.first ++ (sample_bytes s.second ++ sample_bytes s.third))) told_read.samples)

pub accepts_no_other : AcceptsNoOther
accepts_no_other b l e h =
    let passed_all = all_passed b l h in
    let range = passed_all.0 in
    let p = passed_all.1 in
    (subst (λ (m : Layout). valid_points m ≡ true) p.is (valid_read b l range p), subst (λ (m : Layout). b ≡ descriptor_bytes m) p.is (bytes_read b l range p e))
