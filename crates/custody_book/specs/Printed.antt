-- Those sentences of demand 3 that name editions, with the editions' numbers: as they read since request A6, over editions 1 to 4, and as the customer first worded them, of editions 1 and 2. specs/Meaning.antt has all of the demand over all editions that there are. proofs/Printed.antt proves each claim. Assumes nothing.
use Rattle.std.specs.Prelude.{ℕ, ◌%◌, Bool, true, false, not, cond, ◌&&◌, ◌||◌, ◌≡◌, List, [], ◌∷◌, eqb, leb, Float, length, Result, Ok, ⊤}
use Rattle.lists.specs.Lists.{every}
use Rattle.layout.specs.declared.Layout.{Layout}
use Rattle.layout.specs.Layout.{valid_groups}
use Rattle.card_table.specs.declared.facts.Facts.{Facts}
use Rattle.card_edition.specs.Edition.{edition_known}
use Rattle.card_edition.specs.Access.{closed}
use Rattle.card_table.specs.Table.{card_size}
use Rattle.card_laws.specs.Printed.{lacks_layout}
use Rattle.custody_book.specs.History.{Rewrite, Asked, Trace, Trace.ended, Trace.rewritten, History}
use Rattle.custody_book.specs.Book.{access_at, captured}
use Rattle.refusal.specs.declared.Refusal.{Refusal}
use Rattle.custody_book.specs.Meaning.{reading_of, refused, not_shown, accepted_at, Meaning}

-- ---- the sentences, which are the same both times but for the editions in them

pub record Wording : Type 0 where
  -- an edition that there is
  pub known : ℕ → Bool
  -- one that lacks the layout of the facts
  pub lacking : ℕ → Facts → Bool
  -- one that keeps the access
  pub keeping : ℕ → Bool

pub record RewriteWorded (w : Wording) (f : Facts) (r : Rewrite) (answer : Result ⊤ Refusal) : Type 0 where
  -- a rewrite at one of the editions, into an output as long as a card, is refused exactly when the edition lacks the layout
  pub exactly : w.known r.edition ≡ true → length r.output ≡ card_size → refused answer ≡ w.lacking r.edition f
  -- any other edition or output is refused
  pub others : w.known r.edition && eqb (length r.output) card_size ≡ false → refused answer ≡ true

-- every rewrite of the list
pub data EachWorded (w : Wording) (f : Facts) : (rewrites : List Rewrite) → Trace → Type 0 where
  none : {reading : Result Facts Refusal} {decoding : Result ℕ Refusal} {values : List Float} → EachWorded w f [] (ended reading decoding values)
  each : {r : Rewrite} {rs : List Rewrite} {answer : Result ⊤ Refusal} {output card : List ℕ} {s : Trace}
      → RewriteWorded w f r answer → EachWorded w f rs s → EachWorded w f (r ∷ rs) (rewritten answer output card s)

pub record Worded (w : Wording) (a : Asked) (h : History) : Type 0 where
  pub rewrites : EachWorded w a.facts a.rewrites h.trace
  -- the last reading at one of the editions is refused exactly when the edition lacks the layout
  pub exactly : w.known a.last ≡ true → not_shown (reading_of h.trace) ≡ w.lacking a.last a.facts
  -- any other edition is refused
  pub others : w.known a.last ≡ false → not_shown (reading_of h.trace) ≡ true
  -- the access shown is the one first given if every accepted rewrite and the last reading were at an edition that keeps it, and closed if not
  pub access : (g : Facts) → reading_of h.trace ≡ Ok g → g.access ≡ cond (accepted_at w.keeping a.rewrites h.trace && w.keeping a.last) a.facts.access closed

-- ---- since A6: the layout needs a higher edition than 1 of groups, in range 3 and at 12 bits, than 2 of groups and in range 3, and than 3 of groups (`lacks_layout`); 2, 3 and 4 keep the access

abbrev pub one_to_four : ℕ → Bool
one_to_four e = eqb e 1 || eqb e 2 || eqb e 3 || eqb e 4

abbrev pub two_to_four : ℕ → Bool
two_to_four e = eqb e 2 || eqb e 3 || eqb e 4

abbrev pub words : Wording
words = record { known = one_to_four; lacking = λ e f. lacks_layout e f.layout; keeping = two_to_four }

abbrev pub Printed : Asked → History → Type 0
Printed a h = Worded words a h

-- whatever has demand 3's meaning is as printed
abbrev pub MeansAsPrinted : Type 0
MeansAsPrinted = (a : Asked) (h : History) → Meaning a h → Printed a h

-- ---- at first: edition 1 lacks 12-bit pictures, and 2 keeps the access

abbrev pub one_or_two : ℕ → Bool
one_or_two e = eqb e 1 || eqb e 2

-- edition 1 is asked about 12-bit pictures
abbrev pub one_about_twelve : ℕ → Facts → Bool
one_about_twelve e f = eqb e 1 && eqb f.layout.depth 12

abbrev pub at_two : ℕ → Bool
at_two e = eqb e 2

abbrev pub first_words : Wording
first_words = record { known = one_or_two; lacking = one_about_twelve; keeping = at_two }

abbrev pub FirstPrinted : Asked → History → Type 0
FirstPrinted a h = Worded first_words a h

-- an edition that A1 or A6 brought
abbrev pub later_than_two : ℕ → Bool
later_than_two e = eqb e 3 || eqb e 4

-- a history with nothing of A1 and A6 in it: neither range 3 nor groups nor, in a rewrite or the last reading, edition 3 or 4 (the first card may be written at any)
abbrev pub without_later : Asked → Bool
without_later a =
    not (eqb a.facts.layout.range 3) && not (eqb a.facts.layout.sampling 1) && not (later_than_two a.last)
    && every (λ (r : Rewrite). not (later_than_two r.edition)) a.rewrites

-- whatever is as printed now is, there, as first printed
abbrev pub PrintedAsFirst : Type 0
PrintedAsFirst = (a : Asked) (h : History) → without_later a ≡ true → Printed a h → FirstPrinted a h

-- ---- the book: at 1 the access becomes closed; at 2, and since A1 and A6 at 3 and 4, it stays

abbrev pub AccessPrinted : Type 0
AccessPrinted = (e access : ℕ) → edition_known e ≡ true → access_at e access ≡ cond (eqb e 1) closed access

-- ---- a captured line of groups (A6) is whole groups of four bytes, 4,096 points at most

abbrev pub CapturedGroups : Type 0
CapturedGroups = (l : Layout) (packed : List ℕ) → valid_groups l ≡ true → captured l packed ≡ eqb (length packed % 4) 0 && leb (length packed) 8192
