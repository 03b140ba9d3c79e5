-- Document 01, "Descriptor": what reading one answers, by the rows 1 to 6. Assumes nothing.
use Rattle.std.specs.Prelude.{ℕ, not, cond, List, eqb, length, get_or, Result, Err}
use Rattle.descriptor_samples.specs.Size.{descriptor_size}
use Rattle.descriptor_layout.specs.Told.{read_samples}
use Rattle.descriptor_reader.specs.Sample.{samples_in}
use Rattle.refusal.specs.declared.Refusal.TheVariants.{WrongColor, WrongHeader, WrongLength, WrongPlanes}
use Rattle.refusal.specs.declared.Refusal.{Refusal}
use Rattle.layout.specs.declared.Layout.{Layout}
use Rattle.descriptor_reader.specs.Header.{header_right, color_right, planes_right}

-- what reading answers, by the rows 1 to 6
unfoldable pub read_descriptor : List ℕ → Result Layout Refusal
read_descriptor b =
    cond (not (eqb (length b) descriptor_size)) (Err WrongLength)
    (cond (not (header_right b)) (Err WrongHeader)
    (cond (not (color_right b)) (Err WrongColor)
    (cond (not (planes_right b)) (Err WrongPlanes)
    (read_samples (get_or b 12 0) (get_or b 13 0) (get_or b 20 0) (samples_in b)))))
