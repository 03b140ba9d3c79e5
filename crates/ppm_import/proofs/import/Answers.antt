-- `ppm_import::import` meets its contract, row by row. Assumes nothing.
use Prim.Native.Nat.{ℕ}
use mathlib.Core.Path.{◌≡◌, sym, ap, ◌∙◌}
use mathlib.Core.Bool.{true}
use lib.ListN.{length}
use Rattle.parameters.specs.declared.depth.Depth.{Depth}
use Rattle.parameters.specs.Parameters.{bits_of, top_of}
use Rattle.ppm_header.specs.Header.{header_known, read_header}
use Rattle.ppm_card.specs.Card.{given_known}
use Rattle.ppm_card.proofs.Depths.{top_back}
use Rattle.ppm_card.proofs.Headers.{top_known_lem, header_known_lem}
use Rattle.lists.proofs.Results.{handed_on}
use Rattle.refusal.specs.declared.Refusal.TheVariants.{Outside}
use Rattle.ppm_import.proofs.Headers.{headed}
use Rattle.ppm_import.proofs.Answers.{import_outside, import_read_lem, import_refuses, import_stores}
use Rattle.std.specs.Prelude.{Ok, Err}
use Rattle.ppm_import.proofs.import.Goals as goal

pub returns-then-not-given_known : goal.returns-then-not-given_known
returns-then-not-given_known c =
    let a = c.args in
    let done =
    import_refuses a.ppm.now a.item a.primaries a.card.now a.packed.now Outside
    (import_outside a.ppm.now a.item a.primaries (length a.card.now) (length a.packed.now) (sym c.given_known.ensures ∙ c.if-not-given_known.true)) in
    record { answer = done.0; card = done.1.0; packed = done.1.1 }

pub take-requires : goal.take-requires
take-requires c =
    let given : let a = c.args in given_known a.item a.primaries ≡ true = sym c.given_known.ensures ∙ c.if-not-given_known.false in
    let read-so : read_header c.args.ppm.now ≡ Ok c.in_ok-header.header = sym c.read.ensures.answer ∙ c.in_ok-header.was in
    let known : header_known c.in_ok-header.header.width c.in_ok-header.header.height c.in_ok-header.header.top ≡ true = header_known_lem c.args.ppm.now c.in_ok-header.header read-so in
    let top-so : top_of (bits_of c.depth_of_top-depth.result) ≡ c.in_ok-header.header.top = ap (λ (d : Depth). top_of (bits_of d)) c.depth_of_top-depth.ensures ∙ top_back c.in_ok-header.header.top (top_known_lem c.in_ok-header.header.width c.in_ok-header.header.height c.in_ok-header.header.top known) in
    let ok = ap (header_known c.in_ok-header.header.width c.in_ok-header.header.height) top-so ∙ known in
    headed c.args.primaries c.in_ok-header.header.width c.in_ok-header.header.height c.args.item c.depth_of_top-depth.result given c.ranges.item.fits ok c.facts_of-facts.result c.facts_of-facts.ensures

pub returns : goal.returns
returns c =
    let given : let a = c.args in given_known a.item a.primaries ≡ true = sym c.given_known.ensures ∙ c.if-not-given_known.false in
    let read-so : read_header c.args.ppm.now ≡ Ok c.in_ok-header.header = sym c.read.ensures.answer ∙ c.in_ok-header.was in
    let known : header_known c.in_ok-header.header.width c.in_ok-header.header.height c.in_ok-header.header.top ≡ true = header_known_lem c.args.ppm.now c.in_ok-header.header read-so in
    let top-so : top_of (bits_of c.depth_of_top-depth.result) ≡ c.in_ok-header.header.top = ap (λ (d : Depth). top_of (bits_of d)) c.depth_of_top-depth.ensures ∙ top_back c.in_ok-header.header.top (top_known_lem c.in_ok-header.header.width c.in_ok-header.header.height c.in_ok-header.header.top known) in
    let header : read_header c.args.ppm.now ≡ Ok (record { width = c.in_ok-header.header.width; height = c.in_ok-header.header.height; top = (top_of (bits_of c.depth_of_top-depth.result)); length = c.in_ok-header.header.length }) = read-so ∙ ap (λ (t : ℕ). (Ok (record { width = c.in_ok-header.header.width; height = c.in_ok-header.header.height; top = t; length = c.in_ok-header.header.length }))) (sym top-so) in
    let a = c.args in
    let r = c.take.ensures in
    let done =
    import_stores a.ppm.now a.item a.primaries a.card.now a.packed.now c.in_ok-header.header.width c.in_ok-header.header.height c.in_ok-header.header.length c.depth_of_top-depth.result given header
    c.facts_of-facts.result c.facts_of-facts.ensures _ _ _ r.answer r.card r.packed in
    record { answer = done.0; card = done.1.0; packed = done.1.1 }

pub returns-in_err-header : goal.returns-in_err-header
returns-in_err-header c =
    let given : let a = c.args in given_known a.item a.primaries ≡ true = sym c.given_known.ensures ∙ c.if-not-given_known.false in
    let a = c.args in
    let k = c.in_err-header.field-0.0 in
    let done =
    import_refuses a.ppm.now a.item a.primaries a.card.now a.packed.now k
    (import_read_lem a.ppm.now a.item a.primaries (length a.card.now) (length a.packed.now) (Err k) given (sym c.read.ensures.answer ∙ c.in_err-header.was)) in
    record { answer = handed_on c.from_residual.result k c.from_residual.ensures ∙ done.0; card = done.1.0; packed = done.1.1 }
