-- Some answers of reading, by the tests that lead to them: the laws of cards cite these. Assumes nothing.
use mathlib.Core.Path.{◌≡◌, refl, sym, ap}
use mathlib.Core.Bool.{true, false, not}
use mathlib.Core.List.{List}
use Prim.Native.Nat.{ℕ}
use lib.Dec.{eqb, ltb}
use lib.ListN.{length, get_or}
use Rattle.lists.proofs.Tests.{pass, stop}
use Rattle.card_edition.specs.Edition.{edition_known}
use Rattle.card_table.specs.Facts.{odd_width}
use Rattle.card_table.specs.Table.{card_size}
use Rattle.card_edition.specs.Access.{access_unknown}
use Rattle.std.specs.Prelude.{Ok, Err}
use Rattle.refusal.specs.declared.Refusal.TheVariants.{LaterEdition, UnknownEdition}
use Rattle.card_reader.specs.Reading.{writer_of, facts_in, front_right, end_wrong, read_card}

module _ (b : List ℕ) (e : ℕ) (l : eqb (length b) card_size ≡ true) where
  pub refused_7 : edition_known e ≡ false → Err UnknownEdition ≡ read_card b e
  unfolding read_card
  refused_7 t = sym (pass _ (ap not l) (stop _ (ap not t)))

  module _ (k : edition_known e ≡ true) (z : eqb (get_or b 0 0) 0 ≡ false) where
    pub refused_8 : ltb e (get_or b 0 0) ≡ true → Err LaterEdition ≡ read_card b e
    unfolding read_card
    refused_8 t = sym (pass _ (ap not l) (pass _ (ap not k) (pass _ z (stop _ t))))

    pub shown : ltb e (get_or b 0 0) ≡ false → front_right b (facts_in b e) ≡ true → odd_width (facts_in b e) ≡ false
        → access_unknown (writer_of b) (get_or b 24 0) e ≡ false → end_wrong b e ≡ false → Ok (facts_in b e) ≡ read_card b e
    unfolding read_card
    shown h f o a t = sym (pass _ (ap not l) (pass _ (ap not k) (pass _ z (pass _ h (pass _ (ap not f) (pass _ o (pass _ a (pass _ t refl))))))))
