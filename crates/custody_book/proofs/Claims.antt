-- The claims of specs/Claims.antt. Assumes nothing.
use mathlib.Core.Path.{sym, subst}
use Rattle.custody_book.specs.Calls.{calls}
use Rattle.custody_book.specs.Meaning.{Meaning}
use Rattle.custody_book.specs.Claims.{Agrees, Means, MeansPrinted, MeansFirstPrinted}
use Rattle.custody_book.proofs.Agree.{layout_valid, valid-facts, from_the_first}
use Rattle.custody_book.proofs.Means.{book_means}
use Rattle.custody_book.proofs.Printed.{means_as_printed, printed_as_first}

pub agrees : Agrees
agrees = from_the_first

pub means : Means
means a output v n = subst (Meaning a) (sym (agrees a output v n)) (book_means a (layout_valid a.facts (valid-facts a.first a.facts v)))

pub means_printed : MeansPrinted
means_printed a output v n = means_as_printed a (calls a output) (means a output v n)

pub means_first_printed : MeansFirstPrinted
means_first_printed a output v n t = printed_as_first a (calls a output) t (means_printed a output v n)
