-- `imurraqi_encode_point` meets its contract: it hands on what the library answers. Assumes nothing.
use Rattle.c_types.proofs.Lines.{handed_clamped, handed_cuts}
use Rattle.c_lines.proofs.Small.{point_small}
use Rattle.c_lines.proofs.imurraqi_encode_point.Goals as goal

pub returns : goal.returns
returns c =
    let line = c.encode_point in
    let number = c.clamped_number in
    record {
      answer = rw (← c.layout_of.ensures) (handed_clamped _ (point_small _ _ _) line.ensures.answer number.result number.ensures.answer);
      memory = rw (← c.layout_of.ensures) (line.ensures.memory);
      cuts = rw (← c.layout_of.ensures) (handed_cuts _ line.ensures.answer number.ensures.memory);
    }
