-- The book says what demand 3 asks for. Assumes nothing.
use mathlib.Core.Path.{◌≡◌, refl, sym, ap, ap₂, ◌∙◌}
use mathlib.Core.Bool.{Bool, true, false, not, cond, ◌&&◌, ◌||◌, and-false}
use mathlib.Core.List.{List, [], ◌∷◌}
use Prim.Native.Nat.{ℕ, ◌*◌, ◌/◌, ◌%◌, ◌<◌}
use native.Mathlib.Nat.{div-add-mod, mul_comm, mul-div_cancel, mul-mod_left}
use native.Mathlib.Omega.{arith}
use borrow.Author.Tests.{eqb-true, eq-eqb}
use lib.Dec.{eqb, leb, ltb}
use lib.Ieee.{Float, nan}
use lib.ListN.{length, get_or}
use Rattle.lists.specs.Lists.{new_or_kept}
use Rattle.lists.proofs.Tests.{and_left}
use Rattle.layout.specs.declared.Layout.{Layout}
use Rattle.parameters.specs.Parameters.{kind_of}
use Rattle.layout.specs.Layout.{grouped, points_each, whole_groups, valid_layout}
use Rattle.quantization.specs.Answer.{named}
use Rattle.line.specs.Line.{points_in, bytes_for}
use Rattle.line_values.specs.Decode.{values_of}
use Rattle.decoding_laws.proofs.Claims.{decodes_each_code}
use Rattle.card_table.specs.declared.facts.Facts.{Facts}
use Rattle.card_edition.specs.Edition.{edition_known, has_access}
use Rattle.card_table.specs.Facts.{least_edition, with_access}
use Rattle.card_edition.specs.Access.{closed}
use Rattle.card_table.specs.Table.{card_size}
use Rattle.card_reader.proofs.Shown.{passed, same_facts}
use Rattle.custody_book.specs.History.{Rewrite, Asked, Trace}
use Rattle.custody_book.specs.Book.{Book, start_of, book_answer, book_after, captured, points_of, decodable, book_decoding, book_values, book_from, book}
use Rattle.std.specs.Prelude.{Result, Ok, Err, is_ok, ⊤}
use Rattle.refusal.specs.declared.Refusal.{Refusal}
use Rattle.refusal.specs.declared.Refusal.TheVariants.{LaterEdition, UnknownEdition, WrongLineOrOutput}
use Rattle.custody_book.specs.Meaning.{reading_of, decoding_of, values_after, refused, not_shown, RewriteRight, EachRight, EachRight.none, EachRight.each, accepted_at, ReadingRight, DecodingRight, Meaning}

-- ---- tests

-- refused, by the three tests of a rewrite
refused-by : (k l m : Bool) → refused (cond (not k) (Err UnknownEdition) (cond l (Err LaterEdition) (cond (not m) (Err WrongLineOrOutput) (Ok tt)))) ≡ not (k && not l && m)
refused-by false l m = refl
refused-by true true m = refl
refused-by true false false = refl
refused-by true false true = refl

only : (l : Bool) → not (true && not l && true) ≡ l
only true = refl
only false = refl

lost : (k l m : Bool) → k && m ≡ false → not (k && not l && m) ≡ true
lost false l m h = refl
lost true true m h = refl
lost true false m h = ap not h

apart : {A : Type 0} → ◌≡◌ {A = Bool} true false → A
apart h = cc

-- ---- a rewrite

module _ (f : Facts) (b : Book) (r : Rewrite) where
  abbrev known : Bool
  known = edition_known r.edition

  abbrev under : Bool
  under = ltb r.edition (least_edition f)

  abbrev long : Bool
  long = eqb (length r.output) card_size

  refused_is : refused (book_answer f r) ≡ not (known && not under && long)
  refused_is = refused-by known under long

  rewrite_right : (w : Result ⊤ Refusal) → book_answer f r ≡ w
      → RewriteRight f r b.card w (new_or_kept (is_ok w) (book_after w f b r.edition).card r.output) (book_after w f b r.edition).card
  rewrite_right w h =
      record {
        exactly = λ k m. ap refused (sym h) ∙ refused_is ∙ (λ i. not (k i && not under && eq-eqb (length r.output) card_size m i)) ∙ only under;
        others = λ n. ap refused (sym h) ∙ refused_is ∙ lost known under long n;
        unchanged = unchanged w;
        taken = taken w;
      }
    where
      unchanged : (w : Result ⊤ Refusal) → refused w ≡ true → (new_or_kept (is_ok w) (book_after w f b r.edition).card r.output ≡ r.output) × ((book_after w f b r.edition).card ≡ b.card)
      unchanged (Ok tt) p = apart (sym p)
      unchanged (Err n) p = (refl, refl)

      taken : (w : Result ⊤ Refusal) → refused w ≡ false → (book_after w f b r.edition).card ≡ new_or_kept (is_ok w) (book_after w f b r.edition).card r.output
      taken (Ok tt) p = refl
      taken (Err n) p = apart p

each_right : (f : Facts) (b : Book) (rs : List Rewrite) (last : ℕ) (packed : List ℕ) (values : List Float) → EachRight f b.card rs (book_from f b rs last packed values)
each_right f b [] last packed values = none
each_right f b (r ∷ rs) last packed values =
    each (rewrite_right f b r (book_answer f r) refl) (each_right f (book_after (book_answer f r) f b r.edition) rs last packed values)

-- ---- the last reading

-- what it shows of the first facts, where `ok` says whether every accepted rewrite was at an edition that has access
abbrev last_shown : Facts → ℕ → Bool → ℕ → Result Facts Refusal
last_shown f access ok last =
    cond (not (edition_known last)) (Err UnknownEdition)
    (cond (ltb last (least_edition f)) (Err LaterEdition)
    (Ok (with_access f (cond (ok && has_access last) access closed))))

same : {A : Type 0} (t : Bool) (x : A) → cond t x x ≡ x
same true x = refl
same false x = refl

shut : (f : Facts) (access : ℕ) (ok : Bool) (last : ℕ) → last_shown f closed ok last ≡ last_shown f access false last
shut f access ok last = simp same

-- an accepted rewrite at an edition leaves the access, or closes it
kept_or_shut : (f : Facts) (access : ℕ) (t ok : Bool) (last : ℕ) → last_shown f (cond t access closed) ok last ≡ last_shown f access (t && ok) last
kept_or_shut f access true ok last = refl
kept_or_shut f access false ok last = shut f access ok last

reading_from : (f : Facts) (b : Book) (rs : List Rewrite) (last : ℕ) (packed : List ℕ) (values : List Float)
    → reading_of (book_from f b rs last packed values) ≡ last_shown f b.access (accepted_at has_access rs (book_from f b rs last packed values)) last
reading_from f b [] last packed values = refl
reading_from f b (r ∷ rs) last packed values = go (book_answer f r) (λ b'. reading_from f b' rs last packed values)
  where
    go : (w : Result ⊤ Refusal)
        → ((b' : Book) → reading_of (book_from f b' rs last packed values) ≡ last_shown f b'.access (accepted_at has_access rs (book_from f b' rs last packed values)) last)
        → reading_of (book_from f (book_after w f b r.edition) rs last packed values)
        ≡ last_shown f b.access ((refused w || has_access r.edition) && accepted_at has_access rs (book_from f (book_after w f b r.edition) rs last packed values)) last
    go (Err n) ih = ih b
    go (Ok tt) ih = ih (book_after (Ok tt) f b r.edition) ∙ kept_or_shut f b.access (has_access r.edition) (accepted_at has_access rs (book_from f (book_after (Ok tt) f b r.edition) rs last packed values)) last

-- refused, by its two tests
not_shown-by : (k l : Bool) (g : Facts) → not_shown (cond (not k) (Err UnknownEdition) (cond l (Err LaterEdition) (Ok g))) ≡ not (k && not l)
not_shown-by false l g = refl
not_shown-by true true g = refl
not_shown-by true false g = refl

not_not : (l : Bool) → not (not l) ≡ l
not_not true = refl
not_not false = refl

-- ---- the decoding

module _ (f : Facts) (last : ℕ) (packed : List ℕ) (values : List Float) where
  decoding_from : (b : Book) (rs : List Rewrite) → let s = book_from f b rs last packed values in decoding_of s ≡ book_decoding (reading_of s) packed values
  decoding_from b [] = refl
  decoding_from b (r ∷ rs) = decoding_from (book_after (book_answer f r) f b r.edition) rs

  values_from : (b : Book) (rs : List Rewrite) → let s = book_from f b rs last packed values in values_after s ≡ book_values (reading_of s) packed values
  values_from b [] = refl
  values_from b (r ∷ rs) = values_from (book_after (book_answer f r) f b r.edition) rs

-- a captured line is of whole points, or groups
each_pos : (l : Layout) → 0 < points_each l
each_pos l = go (grouped l)
  where
    go : (t : Bool) → 0 < cond t 2 1
    go true = omega arith
    go false = omega arith

whole : (l : Layout) (packed : List ℕ) → captured l packed ≡ true → (whole_groups l (points_of l packed) ≡ true) × (length packed ≡ bytes_for l (points_of l packed))
whole l packed c =
    let n = length packed in
    let b = l.bytes in
    let e = points_each l in
    let r = eqb-true (n % b) 0 (and_left (eqb (n % b) 0) (leb (points_in l n) 4096) c) in
    let turned : points_in l n ≡ n / b * e = mul_comm e (n / b) in
    let back : points_in l n / e ≡ n / b = ap (λ (m : ℕ). m / e) turned ∙ mul-div_cancel (n / b) (each_pos l) in
    (eq-eqb (points_in l n % e) 0 (ap (λ (m : ℕ). m % e) turned ∙ mul-mod_left (n / b) e), omega (arith, r, div-add-mod n b, ap (λ (m : ℕ). b * m) back))

-- ---- the whole

module _ (a : Asked) where
  abbrev f : Facts
  f = a.facts

  abbrev s : Trace
  s = book_from f (start_of a.first f) a.rewrites a.last a.packed a.values

  -- the facts that are shown, if any are
  abbrev seen : Facts
  seen = with_access f (cond (accepted_at has_access a.rewrites s && has_access a.last) f.access closed)

  abbrev least : Bool
  least = ltb a.last (least_edition f)

  reading_is : reading_of s ≡ last_shown f f.access (accepted_at has_access a.rewrites s) a.last
  reading_is = reading_from f (start_of a.first f) a.rewrites a.last a.packed a.values

  refused_as : not_shown (reading_of s) ≡ not (edition_known a.last && not least)
  refused_as = ap not_shown reading_is ∙ not_shown-by (edition_known a.last) least seen

  shown_is : (g : Facts) → reading_of s ≡ Ok g → seen ≡ g
  shown_is g h =
      let r₃ : (Result Facts Refusal) = Ok seen in
      let r₂ : (Result Facts Refusal) = cond least (Err LaterEdition) r₃ in
      let h₂ = passed (not (edition_known a.last)) UnknownEdition r₂ g (sym reading_is ∙ h) in
      let h₃ = passed least LaterEdition r₃ g h₂.1 in
      same_facts seen g h₃.1

  reading_right : ReadingRight a s
  reading_right =
      record {
        exactly = λ k. refused_as ∙ ap (λ (t : Bool). not (t && not least)) k ∙ not_not least;
        others = λ k. refused_as ∙ ap (λ (t : Bool). not (t && not least)) k;
        first = λ g h. let e = sym (shown_is g h) in (
          (λ i. (e i).layout),
          (λ i. (e i).width),
          (λ i. (e i).height),
          (λ i. (e i).item),
        );
        access = λ g h. ap (λ (x : Facts). x.access) (sym (shown_is g h));
      }

  decoded-by : (g : Facts) → reading_of s ≡ Ok g → (t : Bool) → decodable f.layout a.packed a.values ≡ t
      → (decoding_of s ≡ cond (not t) (Err WrongLineOrOutput) (Ok (points_of f.layout a.packed))) × (values_after s ≡ new_or_kept t (values_of f.layout a.packed) a.values)
  decoded-by g h t d =
      let r = h ∙ ap Ok (sym (shown_is g h)) in (
        decoding_from f a.last a.packed a.values (start_of a.first f) a.rewrites
            ∙ ap (λ (x : Result Facts Refusal). book_decoding x a.packed a.values) r
            ∙ ap (λ (t : Bool). cond (not t) (Err WrongLineOrOutput) (Ok (points_of f.layout a.packed))) d,
        values_from f a.last a.packed a.values (start_of a.first f) a.rewrites
            ∙ ap (λ (x : Result Facts Refusal). book_values x a.packed a.values) r
            ∙ ap (λ (t : Bool). new_or_kept t (values_of f.layout a.packed) a.values) d,
      )

  all-decoded : (g : Facts) → reading_of s ≡ Ok g → captured f.layout a.packed ≡ true → length a.values ≡ 3 * points_of f.layout a.packed
      → (decoding_of s ≡ Ok (points_of f.layout a.packed)) × (values_after s ≡ values_of f.layout a.packed)
  all-decoded g h c n = decoded-by g h true (ap₂ ◌&&◌ c (eq-eqb (length a.values) (3 * points_of f.layout a.packed) n))

  decoding_right : valid_layout f.layout ≡ true → DecodingRight a s
  decoding_right v =
      record {
        decoded = all-decoded;
        floats = λ g h c n b k m.
            (decodes_each_code f.layout (points_of f.layout a.packed) a.packed (let w = whole f.layout a.packed c in record { valid = v; whole = w.0; bytes = b; points = w.1 })).1 k m
            ∙ ap (λ (vs : List Float). named (kind_of f.layout.model (k % 3)) (get_or vs k nan)) (sym (all-decoded g h c n).1);
        misfit = λ g h n. decoded-by g h false (ap (λ (t : Bool). captured f.layout a.packed && t) n ∙ and-false (captured f.layout a.packed));
      }

  pub book_means : valid_layout f.layout ≡ true → Meaning a (book a)
  unfolding book
  book_means v =
      record {
        written = (refl, refl);
        rewrites = each_right f (start_of a.first f) a.rewrites a.last a.packed a.values;
        reading = reading_right;
        decoding = decoding_right v;
      }
