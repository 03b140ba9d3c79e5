-- `imurraqi_ycbcr_to_rgb` meets its contract: it hands on what the library answers. Assumes nothing.
use Rattle.c_types.proofs.Lines.{handed_clamped, handed_cuts}
use Rattle.c_colors.proofs.Small.{conversion_small}
use Rattle.c_colors.proofs.imurraqi_ycbcr_to_rgb.Goals as goal

pub returns : goal.returns
returns c =
    let line = c.ycbcr_to_rgb in
    let number = c.clamped_number in
    record { answer = handed_clamped _ (conversion_small _ _ _ _ _ _ _) line.ensures.answer number.result number.ensures.answer; memory = line.ensures.memory; cuts = handed_cuts _ line.ensures.answer number.ensures.memory }
