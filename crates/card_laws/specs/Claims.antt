-- What is claimed of cards, of the definitions that the contracts of `card_reader::read`, `card_writer::write` and `card::rewrite` cite. proofs/Claims.antt proves each. Assumes nothing.
use Rattle.std.specs.Prelude.{ℕ, ◌≤◌, ◌<◌, true, false, not, cond, ◌&&◌, ◌≡◌, ◌⊎◌, List, ◌++◌, eqb, ltb, length, get_or, take, Result, Ok, Err, ⊤}
use Rattle.lists.specs.Bytes.{are_bytes}
use Rattle.card_table.specs.declared.facts.Facts.{Facts}
use Rattle.card_edition.specs.Edition.{edition_known, has_access}
use Rattle.card_table.specs.Facts.{least_edition, facts_valid, odd_width, with_access}
use Rattle.card_edition.specs.Access.{closed, access_known}
use Rattle.card_table.specs.Table.{card_size, card_bytes}
use Rattle.card_reader.specs.Reading.{read_card}
use Rattle.card_writer.specs.Writing.{valid_at, write_answer, write_output}
use Rattle.refusal.specs.declared.Refusal.TheVariants.{LaterEdition, OddCount, UnknownEdition, WrongLineOrOutput}
use Rattle.refusal.specs.declared.Refusal.{Refusal}
use Rattle.card.specs.Rewriting.{rewrite_answer, rewrite_output}

-- ---- a card that was written

-- what facts are to an edition: 7 where there is no such edition, 8 where they need a later one, and else the facts, closed to an edition that has no access
unfoldable pub shows : Facts → ℕ → Result Facts Refusal
shows f e =
    cond (not (edition_known e)) (Err UnknownEdition)
    (cond (ltb e (least_edition f)) (Err LaterEdition)
    (Ok (with_access f (cond (has_access e) f.access closed))))

-- valid facts, written at any edition, are shown so at every edition
abbrev pub ShowsWhatWasWritten : Type 0
ShowsWhatWasWritten = (e e' : ℕ) (f : Facts) → valid_at e f ≡ true → read_card (card_bytes e f) e' ≡ shows f e'

-- and they are written, into exactly as many bytes as a card has
abbrev pub WritesValidFacts : Type 0
WritesValidFacts = (e : ℕ) (f : Facts) (bytes : ℕ) → valid_at e f ≡ true → write_answer e f bytes ≡ cond (not (eqb bytes card_size)) (Err WrongLineOrOutput) (Ok tt)

-- no others are
abbrev pub WritesNoOther : Type 0
WritesNoOther = (e : ℕ) (f : Facts) (bytes : ℕ) → write_answer e f bytes ≡ (Ok tt) → valid_at e f ≡ true

-- so what an accepted writing left shows the facts
abbrev pub ReadsWhatWasWritten : Type 0
ReadsWhatWasWritten = (e e' : ℕ) (f : Facts) (out : List ℕ) → write_answer e f (length out) ≡ (Ok tt) → read_card (write_output e f out) e' ≡ shows f e'

-- ---- any bytes

-- whatever is shown is valid at the edition
abbrev pub ShowsValidFacts : Type 0
ShowsValidFacts = (b : List ℕ) (e : ℕ) (f : Facts) → read_card b e ≡ Ok f → valid_at e f ≡ true

-- and never more open than byte 24 says
abbrev pub NeverMoreOpen : Type 0
NeverMoreOpen = (b : List ℕ) (e : ℕ) (f : Facts) → read_card b e ≡ Ok f → f.access ≤ get_or b 24 0

-- it is closed, or byte 24 as it stands; that only where the reader and the writer have access (a card that is silent about access is closed)
abbrev pub ClosedOrAsItStands : Type 0
ClosedOrAsItStands =
    (b : List ℕ) (e : ℕ) (f : Facts) → read_card b e ≡ Ok f
    → (f.access ≡ closed) ⊎ ((f.access ≡ get_or b 24 0) × (has_access e ≡ true) × (has_access (get_or b 1 0) ≡ true))

-- bytes that are shown, and were not written later than they are read, are the table's card of what they show: no others are accepted
abbrev pub ShowsNoOther : Type 0
ShowsNoOther = (b : List ℕ) (e : ℕ) (f : Facts) → are_bytes b ≡ true → read_card b e ≡ Ok f → get_or b 1 0 ≤ e → b ≡ card_bytes (get_or b 1 0) f

-- a card that was written later, for every pair of a writer and an earlier reader, is shown if bytes 0 to 23 are the table's, whatever the others are: byte 24 is its access if the reader has that number, and else it is closed
abbrev pub ShowsLaterCards : Type 0
ShowsLaterCards =
    (w e : ℕ) (f : Facts) (others : List ℕ) → facts_valid f ≡ true → odd_width f ≡ false → length others ≡ 8 → edition_known e ≡ true → least_edition f ≤ e → e < w
    → read_card (take 24 (card_bytes w f) ++ others) e ≡ Ok (with_access f (cond (has_access e && access_known (get_or others 0 0)) (get_or others 0 0) closed))

-- an odd width of groups is refused by 16 (A6): in writing before 11, and in reading before all that bytes 24 to 31 could give, whatever these are
abbrev pub WritesNoOddWidth : Type 0
WritesNoOddWidth = (e : ℕ) (f : Facts) (bytes : ℕ) → edition_known e ≡ true → facts_valid f ≡ true → odd_width f ≡ true → write_answer e f bytes ≡ Err OddCount

abbrev pub ShowsNoOddWidth : Type 0
ShowsNoOddWidth =
    (w e : ℕ) (f : Facts) (others : List ℕ) → facts_valid f ≡ true → odd_width f ≡ true → length others ≡ 8 → edition_known e ≡ true → least_edition f ≤ e → least_edition f ≤ w
    → read_card (take 24 (card_bytes w f) ++ others) e ≡ Err OddCount

-- ---- a refusal leaves the output as it was

abbrev pub WritesNothingRefused : Type 0
WritesNothingRefused = (e : ℕ) (f : Facts) (out : List ℕ) (refusal : Refusal) → write_answer e f (length out) ≡ Err refusal → write_output e f out ≡ out

abbrev pub RewritesNothingRefused : Type 0
RewritesNothingRefused = (b : List ℕ) (e : ℕ) (out : List ℕ) (refusal : Refusal) → rewrite_answer b e (length out) ≡ Err refusal → rewrite_output b e out ≡ out

-- ---- a rewrite, of any bytes

-- the reading's number, then 13
abbrev pub then_length : Result Facts Refusal → ℕ → Result ⊤ Refusal
then_length (Err k) bytes = Err k
then_length (Ok f) bytes = cond (not (eqb bytes card_size)) (Err WrongLineOrOutput) (Ok tt)

abbrev pub RewritesInOrder : Type 0
RewritesInOrder = (b : List ℕ) (e bytes : ℕ) → rewrite_answer b e bytes ≡ then_length (read_card b e) bytes

-- what was shown at the rewrite's edition is what its result is to every edition
abbrev pub RewritesWhatWasShown : Type 0
RewritesWhatWasShown =
    (b : List ℕ) (e e' : ℕ) (f : Facts) (out : List ℕ) → read_card b e ≡ Ok f → length out ≡ card_size
    → read_card (rewrite_output b e out) e' ≡ shows f e'

-- a rewrite never opens: what any edition shows of its result is closed, or is what the rewrite's own edition, which has access then, showed before
abbrev pub NeverOpens : Type 0
NeverOpens =
    (b : List ℕ) (e e' : ℕ) (g : Facts) (out : List ℕ) → rewrite_answer b e (length out) ≡ (Ok tt)
    → read_card (rewrite_output b e out) e' ≡ Ok g → (g.access ≡ closed) ⊎ ((has_access e ≡ true) × (read_card b e ≡ Ok g))
