-- The claims of specs/Printed.antt. Assumes nothing.
use mathlib.Core.Path.{◌≡◌, refl, sym, ap, ap₂, ◌∙◌}
use mathlib.Core.Bool.{Bool, true, false, not, cond, ◌&&◌, ◌||◌, and-false, false≢true}
use mathlib.Core.List.{List, [], ◌∷◌}
use Prim.Native.Nat.{ℕ, ◌*◌, ◌/◌, ◌%◌, ◌≤◌, ◌<◌}
use native.Mathlib.Omega.{arith}
use borrow.Author.Tests.{not-true, eqb-true, leb-true, leb-false, le-leb, lt-leb}
use lib.Dec.{eqb, leb, ltb}
use lib.ListN.{length}
use Rattle.lists.specs.Lists.{every}
use Rattle.lists.proofs.Tests.{and_left, and_right, and3}
use Rattle.layout.proofs.Facts.{groups_say}
use Rattle.line.proofs.Grouped.{group_points}
use Rattle.card_table.specs.declared.facts.Facts.{Facts}
use Rattle.card_edition.specs.Edition.{edition_known, has_access}
use Rattle.card_table.specs.Facts.{least_edition}
use Rattle.card_edition.specs.Access.{closed}
use Rattle.card_table.specs.Table.{card_size}
use Rattle.card_laws.proofs.Printed.{row_7, row_8, by-edition}
use Rattle.custody_book.specs.History.{Rewrite, Asked, Trace, History}
use Rattle.custody_book.specs.Meaning.{reading_of, refused, not_shown, EachRight, EachRight.none, EachRight.each, accepted_at}
use Rattle.std.specs.Prelude.{Result, Ok, ⊤}
use Rattle.refusal.specs.declared.Refusal.{Refusal}
use Rattle.custody_book.specs.Printed.{Wording, RewriteWorded, EachWorded, EachWorded.none as no_more, EachWorded.each as one_more, Worded, two_to_four, words, MeansAsPrinted, one_or_two, later_than_two, first_words, PrintedAsFirst, AccessPrinted, CapturedGroups}

-- ---- one wording for another, where they say the same of every edition that is asked

-- p holds of the editions that are asked
record Same (p : ℕ → Bool) (f : Facts) (w w' : Wording) : Type 0 where
  known : (e : ℕ) → p e ≡ true → w.known e ≡ w'.known e
  lacking : (e : ℕ) → p e ≡ true → w.known e ≡ true → w.lacking e f ≡ w'.lacking e f
  keeping : (e : ℕ) → p e ≡ true → w.known e ≡ true → w.keeping e ≡ w'.keeping e

module _ (p : ℕ → Bool) (w w' : Wording) (f : Facts) (same : Same p f w w') where
  rewrite_reworded : (r : Rewrite) {answer : Result ⊤ Refusal} → p r.edition ≡ true → RewriteWorded w f r answer → RewriteWorded w' f r answer
  rewrite_reworded r q x =
      let k = same.known r.edition q in
      record {
        exactly = λ h n. x.exactly (k ∙ h) n ∙ same.lacking r.edition q (k ∙ h);
        others = λ h. x.others (ap (λ (t : Bool). t && eqb (length r.output) card_size) k ∙ h);
      }

  each_reworded : {rs : List Rewrite} {s : Trace} → every (λ (r : Rewrite). p r.edition) rs ≡ true → EachWorded w f rs s → EachWorded w' f rs s
  unfolding every
  each_reworded q no_more = no_more
  each_reworded q (one_more {r = r} {rs = rs} x xs) =
      let here = and_left (p r.edition) (every (λ (r : Rewrite). p r.edition) rs) q in
      let there = and_right (p r.edition) (every (λ (r : Rewrite). p r.edition) rs) q in
      one_more (rewrite_reworded r here x) (each_reworded there xs)

  -- an accepted rewrite was at one of the editions
  kept : (r : Rewrite) (answer : Result ⊤ Refusal) → p r.edition ≡ true → RewriteWorded w f r answer → refused answer || w.keeping r.edition ≡ refused answer || w'.keeping r.edition
  kept r answer q x = go (refused answer) (w.known r.edition) refl refl
    where
      go : (t k : Bool) → refused answer ≡ t → w.known r.edition ≡ k → t || w.keeping r.edition ≡ t || w'.keeping r.edition
      go true k g h = refl
      go false true g h = same.keeping r.edition q h
      go false false g h = absurd (false≢true (sym g ∙ x.others (ap (λ (t : Bool). t && eqb (length r.output) card_size) h)))

  all-kept : {rs : List Rewrite} {s : Trace} → every (λ (r : Rewrite). p r.edition) rs ≡ true → EachWorded w f rs s → accepted_at w.keeping rs s ≡ accepted_at w'.keeping rs s
  unfolding every
  all-kept q no_more = refl
  all-kept q (one_more {r = r} {rs = rs} {answer = answer} x xs) =
      let here = and_left (p r.edition) (every (λ (r : Rewrite). p r.edition) rs) q in
      let there = and_right (p r.edition) (every (λ (r : Rewrite). p r.edition) rs) q in
      ap₂ ◌&&◌ (kept r answer here x) (all-kept there xs)

reworded : (p : ℕ → Bool) (w w' : Wording) (a : Asked) (h : History) → Same p a.facts w w' → p a.last ≡ true → every (λ (r : Rewrite). p r.edition) a.rewrites ≡ true
    → Worded w a h → Worded w' a h
reworded p w w' a h same q qs m =
    let k = same.known a.last q in
    record {
      rewrites = each_reworded p w w' a.facts same qs m.rewrites;
      exactly = λ g. m.exactly (k ∙ g) ∙ same.lacking a.last q (k ∙ g);
      others = λ g. m.others (k ∙ g);
      access = λ g e. m.access g e ∙ (λ i. cond (all-kept p w w' a.facts same qs m.rewrites i && same.keeping a.last q (read g e (w.known a.last) refl) i) a.facts.access closed);
    }
  where
    -- what is shown was read at one of the editions
    read : (g : Facts) → reading_of h.trace ≡ Ok g → (t : Bool) → w.known a.last ≡ t → w.known a.last ≡ true
    read g e true r = r
    read g e false r = absurd (false≢true (sym (ap not_shown e) ∙ m.others r))

-- ---- the definitions, as a wording

abbrev defined : Wording
defined = record { known = edition_known; lacking = λ e f. ltb e (least_edition f); keeping = has_access }

each_defined : (f : Facts) {before : List ℕ} {rs : List Rewrite} {s : Trace} → EachRight f before rs s → EachWorded defined f rs s
each_defined f none = no_more
each_defined f (each {r = r} x xs) = one_more (record { exactly = x.exactly; others = x.others }) (each_defined f xs)

all : (rs : List Rewrite) → every (λ (r : Rewrite). true) rs ≡ true
unfolding every
all [] = refl
all (r ∷ rs) = all rs

pub means_as_printed : MeansAsPrinted
means_as_printed a h m =
    let r = m.reading in
    reworded (λ e. true) defined words a h
    (record {
      known = λ e q. row_7 e;
      lacking = λ e q k. row_8 e a.facts k;
      keeping = λ e q k. by-edition (λ e. has_access e ≡ two_to_four e) refl refl refl refl e k;
    })
    refl (all a.rewrites)
    (record { rewrites = each_defined a.facts m.rewrites; exactly = r.exactly; others = r.others; access = r.access })

-- ---- the first words

or_neither : (t u v : Bool) → not (u || v) ≡ true → t || u || v ≡ t
or_neither true u v h = refl
or_neither false u v h = not-true (u || v) h

-- without groups (g) and range 3 (r), the layout is lacking where 1 is asked about 12 bits (d)
first-lacking : (g r d one two three : Bool) → not r ≡ true → not g ≡ true → one && (g || r || d) || two && (g || r) || three && g ≡ one && d
first-lacking g true d one two three n m = absurd (false≢true n)
first-lacking true false d one two three n m = absurd (false≢true m)
first-lacking false false d one two three n m = or_neither (one && d) (two && false) (three && false) (ap₂ (λ (x y : Bool). not (x || y)) (and-false two) (and-false three))

pub printed_as_first : PrintedAsFirst
printed_as_first a h t m =
    let f = a.facts in
    let l = f.layout in
    let early = and3 _ _ _ t in
    let no_range = and_left (not (eqb l.range 3)) (not (eqb l.sampling 1)) early.0 in
    let no_groups = and_right (not (eqb l.range 3)) (not (eqb l.sampling 1)) early.0 in
    reworded (λ e. not (later_than_two e)) words first_words a h
    (record {
      known = λ e q. or_neither (one_or_two e) (eqb e 3) (eqb e 4) q;
      lacking = λ e q k. first-lacking (eqb l.sampling 1) (eqb l.range 3) (eqb l.depth 12) (eqb e 1) (eqb e 2) (eqb e 3) no_range no_groups;
      keeping = λ e q k. or_neither (eqb e 2) (eqb e 3) (eqb e 4) q;
    })
    early.1 early.2 m

-- ---- the book

pub access_printed : AccessPrinted
access_printed e access = by-edition (λ e. cond (has_access e) access closed ≡ cond (eqb e 1) closed access) refl refl refl refl e

-- ---- captured lines

pub captured_groups : CapturedGroups
captured_groups l packed ok =
    ap₂ (λ (x n : ℕ). eqb (length packed % x) 0 && leb n 4096) (groups_say l ok).bytes (group_points l ok (length packed)) ∙ go (length packed)
  where
    go : (n : ℕ) → eqb (n % 4) 0 && leb (2 * (n / 4)) 4096 ≡ eqb (n % 4) 0 && leb n 8192
    go n = by (eqb (n % 4) 0) (eqb-true (n % 4) 0) (leb n 8192) (leb-true n 8192) (leb-false n 8192)
      where
        by : (whole : Bool) → (whole ≡ true → n % 4 ≡ 0) → (few : Bool) → (few ≡ true → n ≤ 8192) → (few ≡ false → 8192 < n) → whole && leb (2 * (n / 4)) 4096 ≡ whole && few
        by true w true f g = let z = f refl in le-leb (2 * (n / 4)) 4096 (omega arith)
        by true w false f g = lt-leb (2 * (n / 4)) 4096 (omega (arith, w refl, g refl))
        by false w few f g = refl
