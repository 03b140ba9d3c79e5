-- `listing_program::text_of` meets its contract. Assumes nothing.
use mathlib.Core.Path.{◌≡◌, sym, ◌∙◌}
use native.Mathlib.Omega.{arith}
use Rattle.listing.proofs.Answers.{not_refused, leaves}
use Rattle.listing_program.proofs.text_of.Goals as goal

pub unwrap-requires : goal.unwrap-requires
unwrap-requires c = not_refused c.args.stack.now c.args.text.now c.requires c.list.ensures.answer

pub returns : goal.returns
returns c =
    let a = c.args in
    let h = leaves a.stack.now a.text.now c.requires c.unwrap.result (sym c.unwrap.ensures ∙ c.list.ensures.answer) c.list.ensures.memory in
    record { long = h.0; within = omega (arith, h.1); front = h.2 }
