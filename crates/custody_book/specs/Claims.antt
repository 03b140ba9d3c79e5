-- Demand 3. proofs/Claims.antt proves each claim. Assumes nothing.
use Rattle.std.specs.Prelude.{ℕ, true, ◌≡◌, List, length}
use Rattle.card_table.specs.Table.{card_size}
use Rattle.card_writer.specs.Writing.{valid_at}
use Rattle.custody_book.specs.History.{Asked}
use Rattle.custody_book.specs.Book.{book}
use Rattle.custody_book.specs.Calls.{calls}
use Rattle.custody_book.specs.Meaning.{Meaning}
use Rattle.custody_book.specs.Printed.{Printed, without_later, FirstPrinted}

-- facts valid at the first edition are written into an output as long as a card: from there on calls and book agree, whatever is asked
abbrev pub Agrees : Type 0
Agrees = (a : Asked) (output : List ℕ) → valid_at a.first a.facts ≡ true → length output ≡ card_size → calls a output ≡ book a

-- and so what is to be seen is what demand 3 asks for
abbrev pub Means : Type 0
Means = (a : Asked) (output : List ℕ) → valid_at a.first a.facts ≡ true → length output ≡ card_size → Meaning a (calls a output)

-- in the words of request A6 too, over editions 1 to 4
abbrev pub MeansPrinted : Type 0
MeansPrinted = (a : Asked) (output : List ℕ) → valid_at a.first a.facts ≡ true → length output ≡ card_size → Printed a (calls a output)

-- and in the customer's first words, of editions 1 and 2, where nothing of A1 and A6 is asked
abbrev pub MeansFirstPrinted : Type 0
MeansFirstPrinted = (a : Asked) (output : List ℕ) → valid_at a.first a.facts ≡ true → length output ≡ card_size → without_later a ≡ true → FirstPrinted a (calls a output)
