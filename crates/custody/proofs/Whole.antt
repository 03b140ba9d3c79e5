-- A replay, from what its parts left: the calls' trace, which is the book's. Assumes nothing.
use mathlib.Core.Path.{◌≡◌, refl, sym, ap, ap₂, ◌∙◌}
use mathlib.Core.Bool.{Bool, true, false, cond}
use mathlib.Core.List.{List, [], ◌∷◌, ◌++◌}
use Prim.Native.Nat.{ℕ}
use lib.Ieee.{Float}
use lib.ListN.{length}
use Rattle.lists.proofs.Tests.{pass, stop}
use Rattle.card_table.specs.Table.{card_size}
use Rattle.card_reader.specs.Reading.{read_card}
use Rattle.card_writer.specs.Writing.{write_answer, write_output}
use Rattle.card.specs.Rewriting.{rewrite_answer, rewrite_output}
use Rattle.card_laws.proofs.Claims.{writes_no_other}
use Rattle.custody_book.specs.History.{Rewrite, Trace, History}
use Rattle.custody_book.specs.Calls.{then_decode, then_values, card_after, calls_from, calls}
use Rattle.custody_book.specs.Meaning.{reading_of, decoding_of, values_after}
use Rattle.custody_book.proofs.Claims.{agrees}
use Rattle.card_table.specs.declared.facts.Facts.{Facts}
use Rattle.custody.specs.declared.Replayed.{Replayed}
use Rattle.custody_rewrites.specs.Lists.{number_of, rewrites_of, fitting}
use Rattle.custody_rewrites.specs.Rewriting.{card_after_all, outputs_after_all, answers_after_all}
use Rattle.custody.specs.Lists.{answers_of, outputs_of, card_of}
use Rattle.std.specs.Prelude.{Result, Ok, Err, ⊤}
use Rattle.refusal.specs.declared.Refusal.{Refusal}
use Rattle.refusal.specs.declared.Refusal.TheVariants.{WrongLineOrOutput}
use Rattle.custody.specs.Replay.{Given, asked_by, then_fitting, beginning, history, replay_answer, replay_card, replay_outputs, replay_answers, replay_values}

-- ---- the calls' trace, part by part

module _ (last : ℕ) (packed : List ℕ) (values : List Float) where
  abbrev from : List ℕ → List Rewrite → Trace
  from card rs = calls_from card rs last packed values

  card_of_lem : (card : List ℕ) (rs : List Rewrite) → card_after_all card rs ≡ card_of card (from card rs)
  card_of_lem card [] = refl
  card_of_lem card (r ∷ rs) = card_of_lem (card_after card r) rs

  outputs_of_lem : (card : List ℕ) (rs : List Rewrite) → outputs_after_all card rs ≡ outputs_of (from card rs)
  outputs_of_lem card [] = refl
  outputs_of_lem card (r ∷ rs) = ap (λ (o : List ℕ). rewrite_output card r.edition r.output ++ o) (outputs_of_lem (card_after card r) rs)

  answers_of_lem : (card : List ℕ) (rs : List Rewrite) → answers_after_all card rs ≡ answers_of (from card rs)
  answers_of_lem card [] = refl
  answers_of_lem card (r ∷ rs) = ap (λ (o : List ℕ). number_of (rewrite_answer card r.edition (length r.output)) ∷ o) (answers_of_lem (card_after card r) rs)

  reading_of_lem : (card : List ℕ) (rs : List Rewrite) → read_card (card_after_all card rs) last ≡ reading_of (from card rs)
  reading_of_lem card [] = refl
  reading_of_lem card (r ∷ rs) = reading_of_lem (card_after card r) rs

  decoding_of_lem : (card : List ℕ) (rs : List Rewrite) → then_decode (read_card (card_after_all card rs) last) (length packed) (length values) ≡ decoding_of (from card rs)
  decoding_of_lem card [] = refl
  decoding_of_lem card (r ∷ rs) = decoding_of_lem (card_after card r) rs

  values_of_lem : (card : List ℕ) (rs : List Rewrite) → then_values (read_card (card_after_all card rs) last) packed values ≡ values_after (from card rs)
  values_of_lem card [] = refl
  values_of_lem card (r ∷ rs) = values_of_lem (card_after card r) rs

-- ---- what a replay answers and leaves

abbrev pub ended_by : Result Facts Refusal → Result ℕ Refusal → Replayed
ended_by reading decoding = record { reading = reading; decoding = decoding }

module _ (g : Given) where
  abbrev pub Replays : Result Replayed Refusal → (card outputs answers : List ℕ) → List Float → Type 0
  Replays r card outputs answers values =
      (r ≡ replay_answer g)
      × (card ≡ replay_card g)
      × (outputs ≡ replay_outputs g)
      × (answers ≡ replay_answers g)
      × (values ≡ replay_values g)

  -- it did not begin
  not_begun : (refusal : Refusal) → beginning g ≡ Err refusal → Replays (Err refusal) g.card g.outputs g.answers g.values
  unfolding replay_answer replay_card replay_outputs replay_answers replay_values
  not_begun refusal h = rw h (refl, refl, refl, refl, refl)

  abbrev fits : Bool
  fits = fitting (length g.card) g.editions g.lengths (length g.outputs) (length g.answers)

  abbrev rs : List Rewrite
  rs = rewrites_of g.editions g.lengths g.outputs

  -- what all rewrites answered and left, from the first card on
  abbrev Rewritten : List ℕ → Bool → (card outputs answers : List ℕ) → Type 0
  Rewritten start r card outputs answers =
      (r ≡ fits)
      × (card ≡ cond fits (card_after_all start rs) g.card)
      × (outputs ≡ cond fits (outputs_after_all start rs) g.outputs)
      × (answers ≡ cond fits (answers_after_all start rs) g.answers)

  pub not_written : {answer : Result Replayed Refusal} (refusal : Refusal) → write_answer g.first g.facts card_size ≡ Err refusal → answer ≡ Err refusal → Replays answer g.card g.outputs g.answers g.values
  unfolding beginning
  not_written refusal h q = let n = not_begun refusal (ap (λ (w : Result ⊤ Refusal). then_fitting w fits) h) in (q ∙ n.0, n.1, n.2, n.3, n.4)

  module _ (w : write_answer g.first g.facts card_size ≡ (Ok tt)) (start : List ℕ) {card outputs answers : List ℕ} {r : Bool} (e : Rewritten start r card outputs answers) where
    pub misfit : r ≡ false → Replays (Err WrongLineOrOutput) card outputs answers g.values
    unfolding beginning
    misfit h =
        let n = sym e.0 ∙ h in
        let b = not_begun WrongLineOrOutput (ap₂ then_fitting w n) in
        (b.0, e.1 ∙ pass (card_after_all start rs) n b.1, e.2 ∙ pass (outputs_after_all start rs) n b.2, e.3 ∙ pass (answers_after_all start rs) n b.3, b.4)

    -- it began, with the first card written over `before`
    module _ (h : r ≡ true) (before : List ℕ) (l : length before ≡ card_size) where
      abbrev first : List ℕ
      first = write_output g.first g.facts before

      fit : fits ≡ true
      fit = sym e.0 ∙ h

      begins : beginning g ≡ (Ok tt)
      unfolding beginning
      begins = ap₂ then_fitting w fit

      agree : calls (asked_by g) before ≡ history g
      agree = agrees (asked_by g) before (writes_no_other g.first g.facts card_size w) l

      first_is : first ≡ (history g).card
      unfolding calls
      first_is = ap (λ (h : History). h.card) agree

      trace_is : calls_from first rs g.last g.packed g.values ≡ (history g).trace
      unfolding calls
      trace_is = ap (λ (h : History). h.trace) agree

      ended : (card : List ℕ) → card ≡ card_after_all first rs
          → Replays (Ok (ended_by (read_card card g.last) (then_decode (read_card card g.last) (length g.packed) (length g.values))))
          card (outputs_after_all first rs) (answers_after_all first rs) (then_values (read_card card g.last) g.packed g.values)
      unfolding replay_answer replay_card replay_outputs replay_answers replay_values
      ended card h =
          let l = g.last in
          let p = g.packed in
          let v = g.values in
          rw begins (
            (λ i. Ok (ended_by (read_card (h i) l) (then_decode (read_card (h i) l) (length p) (length v))))
                ∙ (λ i. Ok (ended_by (reading_of_lem l p v first rs i) (decoding_of_lem l p v first rs i)))
                ∙ ap (λ (s : Trace). Ok (ended_by (reading_of s) (decoding_of s))) trace_is,
            h ∙ card_of_lem l p v first rs ∙ (λ i. card_of (first_is i) (trace_is i)),
            outputs_of_lem l p v first rs ∙ ap outputs_of trace_is,
            answers_of_lem l p v first rs ∙ ap answers_of trace_is,
            ap (λ (c : List ℕ). then_values (read_card c l) p v) h ∙ values_of_lem l p v first rs ∙ ap values_after trace_is,
          )

      pub replays : (answer : Replayed) (values : List Float) → start ≡ first
          → (answer ≡ ended_by (read_card card g.last) (then_decode (read_card card g.last) (length g.packed) (length g.values))) × (values ≡ then_values (read_card card g.last) g.packed g.values)
          → Replays (Ok answer) card outputs answers values
      replays answer values s d =
          let c = ended card (e.1 ∙ stop g.card fit ∙ ap (λ (b : List ℕ). card_after_all b rs) s) in (
            ap Ok d.0 ∙ c.0,
            c.1,
            e.2 ∙ stop g.outputs fit ∙ ap (λ (b : List ℕ). outputs_after_all b rs) s ∙ c.2,
            e.3 ∙ stop g.answers fit ∙ ap (λ (b : List ℕ). answers_after_all b rs) s ∙ c.3,
            d.1 ∙ c.4,
          )
