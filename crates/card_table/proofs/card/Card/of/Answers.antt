-- `card_table::Card::of` meets its contract: the literal is the definition's list, and std's bytes of a number are its. Assumes nothing.
use mathlib.Core.Path.{◌≡◌, refl}
use Prim.Native.Nat.{ℕ, ◌/◌}
use native.Mathlib.Omega.{arith}
use Rattle.lists.specs.Bytes.{bytes_of}
use Rattle.card_table.specs.Table.{card_bytes}
use Rattle.card_table.proofs.card.Card.of.Goals as goal

pub returns : goal.returns
unfolding card_bytes bytes_of
returns c =
    let x : ℕ = c.args.facts.item in
    let p2 : x / 65536 ≡ x / 256 / 256 = omega arith in
    let p3 : x / 16777216 ≡ x / 256 / 256 / 256 = omega arith in
    let p4 : x / 4294967296 ≡ x / 256 / 256 / 256 / 256 = omega arith in
    let p5 : x / 1099511627776 ≡ x / 256 / 256 / 256 / 256 / 256 = omega arith in
    let p6 : x / 281474976710656 ≡ x / 256 / 256 / 256 / 256 / 256 / 256 = omega arith in
    let p7 : x / 72057594037927936 ≡ x / 256 / 256 / 256 / 256 / 256 / 256 / 256 = omega arith in
    record {
      answer = rw (c.least_edition-least.ensures, c.to_le_bytes.ensures, c.to_le_bytes-2.ensures, c.to_le_bytes-3.ensures, p2, p3, p4, p5, p6, p7) refl;
    }
