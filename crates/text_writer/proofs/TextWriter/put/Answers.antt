-- `text_writer::TextWriter::put` meets its contract: it copies as much of the piece as the output holds. Assumes nothing.
use Prim.Native.Nat.{◌+◌, min}
use mathlib.Core.Path.{◌≡◌, refl}
use native.Mathlib.Omega.{arith}
use lib.ListN.{length}
use Rattle.text_writer.proofs.Puts.{put_none, put_front}
use Rattle.text_writer.proofs.TextWriter.put.Goals.{then-at-end, else-at-end}
use Rattle.text_writer.proofs.TextWriter.put.Goals as goal

pub returns : goal.returns
returns c =
    let a = c.args in
    let s = a.self.now in
    let e : c.min-end.result ≡ min (s.at + length a.piece.now) (length s.out.now) = omega (arith, c.saturating_add.ensures, c.min-end.ensures) in
    elim c.if-at-end.branch [
      | then-at-end w ↦ rw w.self-is (record { stored = put_front a.piece.now s.out.now s.at c.min-end.result e w.if-at-end.true w.copy_from_slice.new.self w.copy_from_slice.ensures.after; lent = refl })
      | else-at-end w ↦ rw w.self-is (record { stored = put_none a.piece.now s.out.now s.at c.min-end.result e w.if-at-end.false; lent = refl })
    ]
