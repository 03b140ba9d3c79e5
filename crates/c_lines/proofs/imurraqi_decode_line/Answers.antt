-- `imurraqi_decode_line` meets its contract: it hands on what the library answers. Assumes nothing.
use Rattle.c_types.proofs.Lines.{handed}
use Rattle.c_lines.proofs.Small.{unpack_small}
use Rattle.c_lines.proofs.imurraqi_decode_line.Goals as goal

pub returns : goal.returns
returns c =
    let line = c.decode_line in
    record { answer = rw (← c.layout_of.ensures) (handed _ (unpack_small _ _ _) line.ensures.answer c.line_number.result c.line_number.ensures); memory = rw (← c.layout_of.ensures) line.ensures.memory }
