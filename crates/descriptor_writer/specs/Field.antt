-- The order of a descriptor's samples: document 01, "Descriptor", samples in rising bit offset. Assumes nothing.
use Rattle.std.specs.Prelude.{cond, ltb}
use Rattle.layout.specs.declared.Layout.{Layout}
use Rattle.descriptor_writer.specs.declared.field.Field.{Field}
use Rattle.descriptor_writer.specs.declared.field.Fields.{Fields}

-- three fields in rising bit offset
unfoldable pub rising : Field → Field → Field → Fields
rising a b c =
    cond (ltb a.offset b.offset)
    (cond (ltb b.offset c.offset) (record { first = a; second = b; third = c })
    (cond (ltb a.offset c.offset) (record { first = a; second = c; third = b })
    (record { first = c; second = a; third = b })))
    (cond (ltb a.offset c.offset) (record { first = b; second = a; third = c })
    (cond (ltb b.offset c.offset) (record { first = b; second = c; third = a })
    (record { first = c; second = b; third = a })))

-- the fields of a layout
unfoldable pub fields_of : Layout → Fields
fields_of l =
    rising (record { channel = 0; offset = l.offset0 }) (record { channel = 1; offset = l.offset1 }) (record { channel = 2; offset = l.offset2 })
