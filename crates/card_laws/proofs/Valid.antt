-- What facts that are valid at an edition say. Assumes nothing.
use mathlib.Core.Path.{◌≡◌, refl, ap, ap₂}
use mathlib.Core.Bool.{Bool, true, false, not, cond, ◌&&◌, ◌||◌}
use Prim.Native.Nat.{ℕ, ◌^◌, ◌≤◌, ◌<◌}
use native.Mathlib.Omega.{arith}
use borrow.Author.Tests.{leb-true, ltb-true, not-true}
use lib.Dec.{eqb, leb, ltb}
use Rattle.lists.proofs.Tests.{and_left, and_right, and3, pass}
use Rattle.layout.specs.Layout.{valid_layout}
use Rattle.card_table.specs.declared.facts.Facts.{Facts}
use Rattle.card_edition.specs.Edition.{edition_known, has_access}
use Rattle.card_table.specs.Facts.{least_edition, largest_side, side_known, facts_valid, odd_width, with_access}
use Rattle.card_edition.specs.Access.{closed, access_known}
use Rattle.card_table.specs.Table.{card_size}
use Rattle.std.specs.Prelude.{Ok, Err}
use Rattle.refusal.specs.declared.Refusal.TheVariants.{WrongLineOrOutput}
use Rattle.card_writer.specs.Writing.{unwritable, valid_at, write_answer}

pub or_left : (a b : Bool) → a || b ≡ false → a ≡ false
or_left true b h = h
or_left false b h = refl

or_right : (a b : Bool) → a || b ≡ false → b ≡ false
or_right true true h = h
or_right true false h = refl
or_right false b h = h

-- ---- valid facts

-- the facts but for the access
abbrev body : Facts → Bool
body f = valid_layout f.layout && side_known f.width && side_known f.height && leb 1 f.item && ltb f.item (2 ^ 64)

pub record Sizes (f : Facts) : Type 0 where
  pub width : f.width < 256 ^ 2
  pub height : f.height < 256 ^ 2
  pub item : f.item < 256 ^ 8
  pub access : access_known f.access ≡ true

side_most : (side : ℕ) → side_known side ≡ true → side ≤ largest_side
side_most side h = leb-true side largest_side (and_right (leb 1 side) (leb side largest_side) h)

pub sizes : (f : Facts) → facts_valid f ≡ true → Sizes f
unfolding facts_valid
sizes f v =
    let l = valid_layout f.layout in
    let w = side_known f.width in
    let h = side_known f.height in
    let i = leb 1 f.item in
    let front = and_left (body f) (access_known f.access) v in
    let sides = and3 l w h (and_left (l && w && h) i (and_left (l && w && h && i) (ltb f.item (2 ^ 64)) front)) in
    record {
      width = omega (arith, side_most f.width sides.1);
      height = omega (arith, side_most f.height sides.2);
      item = omega (arith, ltb-true f.item (2 ^ 64) (and_right (l && w && h && i) (ltb f.item (2 ^ 64)) front));
      access = and_right (body f) (access_known f.access) v;
    }

-- with another access that there is they are valid still
pub valid_with : (f : Facts) (a : ℕ) → facts_valid f ≡ true → access_known a ≡ true → facts_valid (with_access f a) ≡ true
unfolding facts_valid
valid_with f a v k = ap₂ ◌&&◌ (and_left (body f) (access_known f.access) v) k

-- ---- facts that are valid at an edition

pub record At (e : ℕ) (f : Facts) : Type 0 where
  pub edition : edition_known e ≡ true
  pub facts : facts_valid f ≡ true
  pub even : odd_width f ≡ false
  pub writable : unwritable e f ≡ false
  -- the edition reads the facts
  pub readable : ltb e (least_edition f) ≡ false
  -- and has the access
  pub silent : not (has_access e) && not (eqb f.access closed) ≡ false

pub at : (e : ℕ) (f : Facts) → valid_at e f ≡ true → At e f
unfolding valid_at unwritable
at e f v =
    let h = and3 (edition_known e && facts_valid f) (not (odd_width f)) (not (unwritable e f)) v in
    let u = not-true (unwritable e f) h.2 in
    let t = ltb e (least_edition f) in
    let s = not (has_access e) && not (eqb f.access closed) in
    record {
      edition = and_left (edition_known e) (facts_valid f) h.0;
      facts = and_right (edition_known e) (facts_valid f) h.0;
      even = not-true (odd_width f) h.1;
      writable = u;
      readable = or_left t s u;
      silent = or_right t s u;
    }

-- only row 13 is left
pub write_valid : (e : ℕ) (f : Facts) (bytes : ℕ) → At e f → write_answer e f bytes ≡ cond (not (eqb bytes card_size)) (Err WrongLineOrOutput) (Ok tt)
unfolding write_answer
write_valid e f bytes v = pass _ (ap not v.edition) (pass _ (ap not v.facts) (pass _ v.even (pass _ v.writable refl)))
