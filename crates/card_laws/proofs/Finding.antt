-- The claims of specs/Finding.antt: the test of the search, in plain words. Assumes nothing.
use Prim.Native.Nat.{ℕ, ◌<◌}
use mathlib.Core.Bool.{Bool, true, false, not}
use mathlib.Core.Path.{◌≡◌, refl, ap, ◌∙◌}
use mathlib.Core.List.{List}
use native.Mathlib.Omega.{arith}
use borrow.Author.Tests.{eq-eqb, eqb-true}
use lib.ListN.{length, length-take, length-drop}
use Rattle.card_reader.specs.Reading.{read_card, shows_item}
use Rattle.stack.specs.Stack.{cards_in, card_at}
use Rattle.stack.specs.Finding.{has_item}
use Rattle.stack.proofs.First.{first_is, none_is, is_first, is_none}
use Rattle.stack.proofs.Answers.{located-first, searched, searched_at, located_in}
use Rattle.std.specs.Prelude.{Result, Ok, Err}
use Rattle.refusal.specs.declared.Refusal.TheVariants.{NoItem, UnknownEdition, WrongLength}
use Rattle.refusal.specs.declared.Refusal.{Refusal}
use Rattle.card_table.specs.declared.facts.Facts.{Facts}
use Rattle.card_laws.specs.Finding.{Has, LocatesTheFirst, LocatesIt, NoneWhere15, FifteenWhereNone, FindsWholeCards}

shown : (s : List ℕ) (e item k : ℕ) → k < cards_in (length s) → (r : Result Facts Refusal) → read_card (card_at s k) e ≡ r → shows_item item r ≡ true → Has s e item k
shown s e item k h (Ok f) q t = record { inside = h; facts = f; shown = q; number = eqb-true _ _ t }
shown s e item k h (Err n) q t = cc

-- a card that passes the search's test has the item
has : (s : List ℕ) (e item k : ℕ) → k < cards_in (length s) → has_item s e item k ≡ true → Has s e item k
unfolding has_item
has s e item k h t = shown s e item k h (read_card (card_at s k) e) refl t

-- and one that has it passes
passes : (s : List ℕ) (e item k : ℕ) → Has s e item k → has_item s e item k ≡ true
unfolding has_item
passes s e item k h = ap (shows_item item) h.shown ∙ eq-eqb _ _ h.number

fails : (s : List ℕ) (e item k : ℕ) → (Has s e item k → ⊥) → k < cards_in (length s) → has_item s e item k ≡ false
fails s e item k none h = go (has_item s e item k) refl
  where
    go : (b : Bool) → has_item s e item k ≡ b → b ≡ false
    go true q = absurd (none (has s e item k h q))
    go false q = refl

not_both : {b : Bool} → b ≡ true → b ≡ false → ⊥
not_both p q = cc

pub locates_the_first : LocatesTheFirst
locates_the_first s e item k h =
    let r = first_is (has_item s e item) 0 (cards_in (length s)) k (searched_at s e item k h).search in
    record {
      has = has s e item k (omega (arith, r.high)) r.passes;
      before = λ j l g. not_both (passes s e item j g) (r.before j (omega arith) l);
    }

pub locates_it : LocatesIt
locates_it s e item k w d f =
    located-first s e item (ap not w) (ap not d)
    ∙ is_first (has_item s e item) 0 (cards_in (length s)) k record {
      low = omega arith;
      high = omega (arith, f.has.inside);
      passes = passes s e item k f.has;
      before = λ j l h. fails s e item j (f.before j h) (omega (arith, f.has.inside));
    }

pub fifteen_where_none : FifteenWhereNone
fifteen_where_none s e item w d none =
    located-first s e item (ap not w) (ap not d)
    ∙ is_none (has_item s e item) 0 (cards_in (length s)) (λ j l h. fails s e item j (none j) (omega arith))

not_1 : ◌≡◌ {A = Result ℕ Refusal} (Err WrongLength) (Err NoItem) → ⊥
not_1 e = cc

not_7 : ◌≡◌ {A = Result ℕ Refusal} (Err UnknownEdition) (Err NoItem) → ⊥
not_7 e = cc

pub none_where_15 : NoneWhere15
none_where_15 s e item h k g =
    let r = searched s e item (Err NoItem) h not_1 not_7 in
    not_both (passes s e item k g) (none_is (has_item s e item) 0 (cards_in (length s)) NoItem r.search k (omega arith) (omega (arith, g.inside)))

pub finds_whole_cards : FindsWholeCards
finds_whole_cards s e item k h = simp (length-take, length-drop) (omega (arith, located_in s e item k h))
