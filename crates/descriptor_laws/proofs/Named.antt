-- Right samples that state a range are the samples of the layout that they tell, and the layout is valid. Assumes nothing.
use mathlib.Core.Path.{◌≡◌, refl, sym, ap, ◌∙◌, subst}
use mathlib.Core.Bool.{Bool, true, false, not, cond, ◌&&◌, ◌||◌, false≢true}
use mathlib.Core.Logic.{◌⊎◌, inl, inr}
use Prim.Native.Nat.{ℕ, zero, suc, ◌+◌, ◌*◌, ◌≤◌, ◌<◌}
use native.Mathlib.Omega.{arith}
use borrow.Author.Tests.{eq-eqb, ltb-true, lt-ltb, le-ltb, le-leb}
use lib.Dec.{eqb, leb}
use Rattle.std.specs.Prelude.{Some, None}
use Rattle.std.proofs.lemmas.Option.{none-some, same_Some}
use Rattle.lists.proofs.Tests.{and_left, and_right, and3, pass, stop}
use Rattle.layout.specs.declared.Layout.{Layout}
use Rattle.parameters.specs.declared.range.Range.{Range}
use Rattle.parameters.specs.declared.range.Range.TheVariants.{Narrow, Full, LegacyFull}
use Rattle.parameters.specs.Parameters.{range_number, range_known, range_of, channel_known, kind_of}
use Rattle.layout.specs.Layout.{inside, apart}
use Rattle.descriptor_samples.specs.declared.sample.Sample.{Sample}
use Rattle.descriptor_samples.specs.declared.samples.Samples.{Samples}
use Rattle.descriptor_writer.specs.declared.field.Field.{Field}
use Rattle.descriptor_writer.specs.Field.{rising, fields_of}
use Rattle.descriptor_samples.specs.Limits.{upper_of}
use Rattle.descriptor_samples.specs.Samples.{all_state, range_in, each_once}
use Rattle.descriptor_layout.specs.Told.{offset_in}
use Rattle.descriptor_writer.specs.Sample.{sample_of, samples_of}
use Rattle.descriptor_layout.proofs.Right.{Right}
use Rattle.descriptor_laws.proofs.Order.{three}
use Rattle.descriptor_laws.proofs.Samples.{field, sample_for, samples_for, range_from, Of}

-- ---- the range that all three state

pub range_stated : (model : ℕ) (s : Samples) (range : Range) → range_from model s ≡ Some range → all_state model range (s.first.length + 1) s ≡ true
unfolding range_in
range_stated model s range = go (all_state model Narrow n s) (all_state model Full n s) (all_state model LegacyFull n s) refl refl refl
  where
    n : ℕ
    n = s.first.length + 1

    states : (r : Range) → all_state model r n s ≡ true → Some r ≡ Some range → all_state model range n s ≡ true
    states r e h = subst (λ (q : Range). all_state model q n s ≡ true) (same_Some r range h) e

    go : (t u w : Bool) → all_state model Narrow n s ≡ t → all_state model Full n s ≡ u → all_state model LegacyFull n s ≡ w
        → cond t (Some Narrow) (cond u (Some Full) (cond w (Some LegacyFull) None)) ≡ Some range → all_state model range n s ≡ true
    go true u w e f g h = states Narrow e h
    go false true w e f g h = states Full f h
    go false false true e f g h = states LegacyFull g h
    go false false false e f g h = absurd (none-some range h)

-- a range's number is known, and is that range's
pub number_known : (range : Range) → range_known (range_number range) ≡ true
number_known Narrow = refl
number_known Full = refl
number_known LegacyFull = refl

pub number_own : (range : Range) → range_of (range_number range) ≡ range
number_own Narrow = refl
number_own Full = refl
number_own LegacyFull = refl

-- ---- each channel once

three_channels : (a : ℕ) → a < 3 → (a ≡ 0) ⊎ ((a ≡ 1) ⊎ (a ≡ 2))
three_channels zero h = inl refl
three_channels (suc zero) h = inr (inl refl)
three_channels (suc (suc zero)) h = inr (inr refl)
three_channels (suc (suc (suc a))) h = absurd (omega arith)

-- which channel stands where
data Named (a b c : ℕ) : Type 0 where
  n012 : a ≡ 0 → b ≡ 1 → c ≡ 2 → Named a b c
  n021 : a ≡ 0 → b ≡ 2 → c ≡ 1 → Named a b c
  n102 : a ≡ 1 → b ≡ 0 → c ≡ 2 → Named a b c
  n120 : a ≡ 1 → b ≡ 2 → c ≡ 0 → Named a b c
  n201 : a ≡ 2 → b ≡ 0 → c ≡ 1 → Named a b c
  n210 : a ≡ 2 → b ≡ 1 → c ≡ 0 → Named a b c

-- two that differ are not one number
differ : (a b k : ℕ) → not (eqb a b) ≡ true → a ≡ k → b ≡ k → ⊥
differ a b k e p q = false≢true (sym (ap not (eq-eqb a b (p ∙ sym q))) ∙ e)

named : (a b c : ℕ) → each_once a b c ≡ true → Named a b c
named a b c e =
    let ka = channel_known a in
    let kb = channel_known b in
    let kc = channel_known c in
    let x = and3 (ka && kb && kc && not (eqb a b)) (not (eqb a c)) (not (eqb b c)) e in
    let y = and3 (ka && kb) kc (not (eqb a b)) x.0 in
    go (three_channels a (ltb-true a 3 (and_left ka kb y.0))) (three_channels b (ltb-true b 3 (and_right ka kb y.0))) (three_channels c (ltb-true c 3 y.1)) y.2 x.1 x.2
  where
    go : (a ≡ 0) ⊎ ((a ≡ 1) ⊎ (a ≡ 2)) → (b ≡ 0) ⊎ ((b ≡ 1) ⊎ (b ≡ 2)) → (c ≡ 0) ⊎ ((c ≡ 1) ⊎ (c ≡ 2))
        → not (eqb a b) ≡ true → not (eqb a c) ≡ true → not (eqb b c) ≡ true → Named a b c
    go (inl p) (inl q) r x y z = absurd (differ a b 0 x p q)
    go (inl p) (inr (inl q)) (inl r) x y z = absurd (differ a c 0 y p r)
    go (inl p) (inr (inl q)) (inr (inl r)) x y z = absurd (differ b c 1 z q r)
    go (inl p) (inr (inl q)) (inr (inr r)) x y z = n012 p q r
    go (inl p) (inr (inr q)) (inl r) x y z = absurd (differ a c 0 y p r)
    go (inl p) (inr (inr q)) (inr (inl r)) x y z = n021 p q r
    go (inl p) (inr (inr q)) (inr (inr r)) x y z = absurd (differ b c 2 z q r)
    go (inr (inl p)) (inl q) (inl r) x y z = absurd (differ b c 0 z q r)
    go (inr (inl p)) (inl q) (inr (inl r)) x y z = absurd (differ a c 1 y p r)
    go (inr (inl p)) (inl q) (inr (inr r)) x y z = n102 p q r
    go (inr (inl p)) (inr (inl q)) r x y z = absurd (differ a b 1 x p q)
    go (inr (inl p)) (inr (inr q)) (inl r) x y z = n120 p q r
    go (inr (inl p)) (inr (inr q)) (inr (inl r)) x y z = absurd (differ a c 1 y p r)
    go (inr (inl p)) (inr (inr q)) (inr (inr r)) x y z = absurd (differ b c 2 z q r)
    go (inr (inr p)) (inl q) (inl r) x y z = absurd (differ b c 0 z q r)
    go (inr (inr p)) (inl q) (inr (inl r)) x y z = n201 p q r
    go (inr (inr p)) (inl q) (inr (inr r)) x y z = absurd (differ a c 2 y p r)
    go (inr (inr p)) (inr (inl q)) (inl r) x y z = n210 p q r
    go (inr (inr p)) (inr (inl q)) (inr (inl r)) x y z = absurd (differ b c 1 z q r)
    go (inr (inr p)) (inr (inl q)) (inr (inr r)) x y z = absurd (differ a c 2 y p r)
    go (inr (inr p)) (inr (inr q)) r x y z = absurd (differ a b 2 x p q)

-- ---- the offset of a channel, by the sample that names it

module _ (s : Samples) (k : ℕ) where
  in_first : s.first.channel ≡ k → offset_in s k ≡ s.first.offset
  unfolding offset_in
  in_first e = stop _ (eq-eqb s.first.channel k e)

  in_second : eqb s.first.channel k ≡ false → s.second.channel ≡ k → offset_in s k ≡ s.second.offset
  unfolding offset_in
  in_second h e = pass _ h (stop _ (eq-eqb s.second.channel k e))

  in_third : eqb s.first.channel k ≡ false → eqb s.second.channel k ≡ false → offset_in s k ≡ s.third.offset
  unfolding offset_in
  in_third h h' = pass _ h (pass _ h' refl)

-- the sample of a layout's channel
own : (l : Layout) (x : Sample) (k o : ℕ) → Of l x → x.channel ≡ k → o ≡ x.offset → sample_for l (field k o) ≡ x
unfolding sample_of
own l x k o f c e = λ i. record {
  offset = e i;
  length = sym f.length i;
  channel = sym c i;
  position = sym f.position i;
  lower = sym f.lower i;
  upper = sym (f.upper ∙ ap (λ (j : ℕ). upper_of (range_of l.range) l.depth (kind_of l.model j)) c) i;
}

-- ---- the rising order, by the offsets

module _ (a b c : Field) where
  abc : a.offset < b.offset → b.offset < c.offset → rising a b c ≡ three a b c
  unfolding rising
  abc h i = stop _ (lt-ltb a.offset b.offset h) ∙ stop _ (lt-ltb b.offset c.offset i)

  acb : a.offset < c.offset → c.offset < b.offset → rising a b c ≡ three a c b
  unfolding rising
  acb h i =
      stop _ (lt-ltb a.offset b.offset (omega arith))
      ∙ pass _ (le-ltb b.offset c.offset (omega arith)) (stop _ (lt-ltb a.offset c.offset h))

  cab : c.offset < a.offset → a.offset < b.offset → rising a b c ≡ three c a b
  unfolding rising
  cab h i =
      stop _ (lt-ltb a.offset b.offset i)
      ∙ pass _ (le-ltb b.offset c.offset (omega arith)) (pass _ (le-ltb a.offset c.offset (omega arith)) refl)

  bac : b.offset < a.offset → a.offset < c.offset → rising a b c ≡ three b a c
  unfolding rising
  bac h i = pass _ (le-ltb a.offset b.offset (omega arith)) (stop _ (lt-ltb a.offset c.offset i))

  bca : b.offset < c.offset → c.offset < a.offset → rising a b c ≡ three b c a
  unfolding rising
  bca h i =
      pass _ (le-ltb a.offset b.offset (omega arith))
      (pass _ (le-ltb a.offset c.offset (omega arith)) (stop _ (lt-ltb b.offset c.offset h)))

  cba : c.offset < b.offset → b.offset < a.offset → rising a b c ≡ three c b a
  unfolding rising
  cba h i =
      pass _ (le-ltb a.offset b.offset (omega arith))
      (pass _ (le-ltb a.offset c.offset (omega arith)) (pass _ (le-ltb b.offset c.offset (omega arith)) refl))

-- ---- all at once

or_true : (a b : Bool) → b ≡ true → a || b ≡ true
or_true true b e = refl
or_true false b e = e

apart_of : (x y n : ℕ) → (x + n ≤ y) ⊎ (y + n ≤ x) → apart x y n ≡ true
apart_of x y n (inl h) = ap (λ (t : Bool). t || leb (y + n) x) (le-leb (x + n) y h)
apart_of x y n (inr h) = or_true (leb (x + n) y) (leb (y + n) x) (le-leb (y + n) x h)

-- three fields of a layout that lie within the point and do not overlap, the samples being the layout's
pub record Told (l : Layout) (s : Samples) : Type 0 where
  pub samples : samples_of l ≡ s
  pub inside0 : inside l.offset0 l.depth l.bytes ≡ true
  pub inside1 : inside l.offset1 l.depth l.bytes ≡ true
  pub inside2 : inside l.offset2 l.depth l.bytes ≡ true
  pub apart01 : apart l.offset0 l.offset1 l.depth ≡ true
  pub apart02 : apart l.offset0 l.offset2 l.depth ≡ true
  pub apart12 : apart l.offset1 l.offset2 l.depth ≡ true

told : (l : Layout) (s : Samples) → samples_of l ≡ s
    → l.offset0 + l.depth ≤ 8 * l.bytes → l.offset1 + l.depth ≤ 8 * l.bytes → l.offset2 + l.depth ≤ 8 * l.bytes
    → (l.offset0 + l.depth ≤ l.offset1) ⊎ (l.offset1 + l.depth ≤ l.offset0)
    → (l.offset0 + l.depth ≤ l.offset2) ⊎ (l.offset2 + l.depth ≤ l.offset0)
    → (l.offset1 + l.depth ≤ l.offset2) ⊎ (l.offset2 + l.depth ≤ l.offset1)
    → Told l s
told l s e i j k x y z =
    record {
      samples = e;
      inside0 = le-leb (l.offset0 + l.depth) (8 * l.bytes) i;
      inside1 = le-leb (l.offset1 + l.depth) (8 * l.bytes) j;
      inside2 = le-leb (l.offset2 + l.depth) (8 * l.bytes) k;
      apart01 = apart_of l.offset0 l.offset1 l.depth x;
      apart02 = apart_of l.offset0 l.offset2 l.depth y;
      apart12 = apart_of l.offset1 l.offset2 l.depth z;
    }

-- a layout with the samples' depth and bytes a point, of which each sample is one, and whose offsets are those that the samples name
module _ (l : Layout) (s : Samples) (r : Right l.bytes s) (d : s.first.length + 1 ≡ l.depth)
    (f : Of l s.first) (g : Of l s.second) (h : Of l s.third)
    (e0 : l.offset0 ≡ offset_in s 0) (e1 : l.offset1 ≡ offset_in s 1) (e2 : l.offset2 ≡ offset_in s 2) where
  by_names : Named s.first.channel s.second.channel s.third.channel → Told l s
  unfolding samples_of fields_of
  by_names (n012 p q t) =
      let o0 = e0 ∙ in_first s 0 p in
      let o1 = e1 ∙ in_second s 1 (ap (λ (k : ℕ). eqb k 1) p) q in
      let o2 = e2 ∙ in_third s 2 (ap (λ (k : ℕ). eqb k 2) p) (ap (λ (k : ℕ). eqb k 2) q) in
      told l s
      (ap (samples_for l) (abc (field 0 l.offset0) (field 1 l.offset1) (field 2 l.offset2) (omega arith) (omega arith))
      ∙ (λ i. record { first = own l s.first 0 l.offset0 f p o0 i; second = own l s.second 1 l.offset1 g q o1 i; third = own l s.third 2 l.offset2 h t o2 i }))
      (omega arith) (omega arith) (omega arith) (inl (omega arith)) (inl (omega arith)) (inl (omega arith))
  by_names (n021 p q t) =
      let o0 = e0 ∙ in_first s 0 p in
      let o1 = e1 ∙ in_third s 1 (ap (λ (k : ℕ). eqb k 1) p) (ap (λ (k : ℕ). eqb k 1) q) in
      let o2 = e2 ∙ in_second s 2 (ap (λ (k : ℕ). eqb k 2) p) q in
      told l s
      (ap (samples_for l) (acb (field 0 l.offset0) (field 1 l.offset1) (field 2 l.offset2) (omega arith) (omega arith))
      ∙ (λ i. record { first = own l s.first 0 l.offset0 f p o0 i; second = own l s.second 2 l.offset2 g q o2 i; third = own l s.third 1 l.offset1 h t o1 i }))
      (omega arith) (omega arith) (omega arith) (inl (omega arith)) (inl (omega arith)) (inr (omega arith))
  by_names (n102 p q t) =
      let o0 = e0 ∙ in_second s 0 (ap (λ (k : ℕ). eqb k 0) p) q in
      let o1 = e1 ∙ in_first s 1 p in
      let o2 = e2 ∙ in_third s 2 (ap (λ (k : ℕ). eqb k 2) p) (ap (λ (k : ℕ). eqb k 2) q) in
      told l s
      (ap (samples_for l) (bac (field 0 l.offset0) (field 1 l.offset1) (field 2 l.offset2) (omega arith) (omega arith))
      ∙ (λ i. record { first = own l s.first 1 l.offset1 f p o1 i; second = own l s.second 0 l.offset0 g q o0 i; third = own l s.third 2 l.offset2 h t o2 i }))
      (omega arith) (omega arith) (omega arith) (inr (omega arith)) (inl (omega arith)) (inl (omega arith))
  by_names (n120 p q t) =
      let o0 = e0 ∙ in_third s 0 (ap (λ (k : ℕ). eqb k 0) p) (ap (λ (k : ℕ). eqb k 0) q) in
      let o1 = e1 ∙ in_first s 1 p in
      let o2 = e2 ∙ in_second s 2 (ap (λ (k : ℕ). eqb k 2) p) q in
      told l s
      (ap (samples_for l) (bca (field 0 l.offset0) (field 1 l.offset1) (field 2 l.offset2) (omega arith) (omega arith))
      ∙ (λ i. record { first = own l s.first 1 l.offset1 f p o1 i; second = own l s.second 2 l.offset2 g q o2 i; third = own l s.third 0 l.offset0 h t o0 i }))
      (omega arith) (omega arith) (omega arith) (inr (omega arith)) (inr (omega arith)) (inl (omega arith))
  by_names (n201 p q t) =
      let o0 = e0 ∙ in_second s 0 (ap (λ (k : ℕ). eqb k 0) p) q in
      let o1 = e1 ∙ in_third s 1 (ap (λ (k : ℕ). eqb k 1) p) (ap (λ (k : ℕ). eqb k 1) q) in
      let o2 = e2 ∙ in_first s 2 p in
      told l s
      (ap (samples_for l) (cab (field 0 l.offset0) (field 1 l.offset1) (field 2 l.offset2) (omega arith) (omega arith))
      ∙ (λ i. record { first = own l s.first 2 l.offset2 f p o2 i; second = own l s.second 0 l.offset0 g q o0 i; third = own l s.third 1 l.offset1 h t o1 i }))
      (omega arith) (omega arith) (omega arith) (inl (omega arith)) (inr (omega arith)) (inr (omega arith))
  by_names (n210 p q t) =
      let o0 = e0 ∙ in_third s 0 (ap (λ (k : ℕ). eqb k 0) p) (ap (λ (k : ℕ). eqb k 0) q) in
      let o1 = e1 ∙ in_second s 1 (ap (λ (k : ℕ). eqb k 1) p) q in
      let o2 = e2 ∙ in_first s 2 p in
      told l s
      (ap (samples_for l) (cba (field 0 l.offset0) (field 1 l.offset1) (field 2 l.offset2) (omega arith) (omega arith))
      ∙ (λ i. record { first = own l s.first 2 l.offset2 f p o2 i; second = own l s.second 1 l.offset1 g q o1 i; third = own l s.third 0 l.offset0 h t o0 i }))
      (omega arith) (omega arith) (omega arith) (inr (omega arith)) (inr (omega arith)) (inr (omega arith))

  pub told_by : Told l s
  told_by = by_names (named s.first.channel s.second.channel s.third.channel r.channels)
