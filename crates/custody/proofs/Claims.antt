-- The claims of specs/Claims.antt. Assumes nothing.
use Prim.Native.Nat.{ℕ, ◌+◌}
use mathlib.Core.Bool.{Bool, ◌&&◌}
use mathlib.Core.Path.{◌≡◌, refl, sym, ap, ◌∙◌, subst}
use mathlib.Core.List.{List, [], ◌∷◌}
use native.Mathlib.Omega.{arith}
use borrow.Author.Tests.{eq-eqb}
use lib.ListN.{length, replicate, length-append}
use lib.Seq.{take-append_seam, drop-append_seam}
use Rattle.card_table.specs.Table.{card_size}
use Rattle.card_writer.specs.Writing.{write_answer}
use Rattle.card_laws.proofs.Claims.{writes_no_other}
use Rattle.custody_book.specs.History.{Rewrite}
use Rattle.custody_book.specs.Meaning.{Meaning}
use Rattle.custody_book.proofs.Claims.{agrees, means}
use Rattle.custody_rewrites.specs.Lists.{sum, rewrites_of, fitting}
use Rattle.custody.specs.Replay.{asked_by, then_fitting, beginning}
use Rattle.std.specs.Prelude.{Result, Ok, Err, ⊤}
use Rattle.refusal.specs.declared.Refusal.{Refusal}
use Rattle.custody.specs.Claims.{editions_in, lengths_in, outputs_in, AsksAnyList, FitsAnyList, ReplaysAsMeant}

pub asks_any_list : AsksAnyList
asks_any_list [] = refl
asks_any_list (r ∷ rs) =
    let front = take-append_seam r.output (outputs_in rs) in
    let rest = drop-append_seam r.output (outputs_in rs) in
    (λ i. record { edition = r.edition; output = front i } ∷ rewrites_of (editions_in rs) (lengths_in rs) (rest i))
    ∙ ap (λ (ts : List Rewrite). r ∷ ts) (asks_any_list rs)

-- a length for each edition, and as many bytes as all together
as_many : (rs : List Rewrite) → length (lengths_in rs) ≡ length (editions_in rs)
as_many [] = refl
as_many (r ∷ rs) = omega (arith, as_many rs)

all-bytes : (rs : List Rewrite) → sum (lengths_in rs) ≡ length (outputs_in rs)
all-bytes [] = refl
all-bytes (r ∷ rs) = ap (λ (n : ℕ). length r.output + n) (all-bytes rs) ∙ sym (length-append r.output (outputs_in rs))

pub fits_any_list : FitsAnyList
fits_any_list rs =
    let n = length (editions_in rs) in
    λ i. eq-eqb card_size card_size refl i
    && eq-eqb (length (lengths_in rs)) n (as_many rs) i
    && eq-eqb n n refl i
    && eq-eqb (sum (lengths_in rs)) (length (outputs_in rs)) (all-bytes rs) i

-- a replay that begins has written the first card
begun : (w : Result ⊤ Refusal) (fits : Bool) → then_fitting w fits ≡ (Ok tt) → w ≡ (Ok tt)
begun (Err k) fits h = h
begun (Ok tt) fits h = refl

pub replays_as_meant : ReplaysAsMeant
unfolding beginning
replays_as_meant g h =
    let a = asked_by g in
    let output : List ℕ = replicate card_size 0 in
    let w = begun (write_answer g.first g.facts card_size) (fitting (length g.card) g.editions g.lengths (length g.outputs) (length g.answers)) h in
    let v = writes_no_other g.first g.facts card_size w in
    subst (Meaning a) (agrees a output v refl) (means a output v refl)
