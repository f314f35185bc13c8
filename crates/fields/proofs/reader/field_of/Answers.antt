use Rattle.fields.proofs.Framing.{read_numbers}
use Rattle.fields.specs.Rows.{widths_of}
use Rattle.fields.proofs.reader.field_of.Goals as goal

pub returns : goal.returns
unfolding widths_of
returns c =
    read_numbers
    c.args.tag
    c.args.row
    c.args.value.now
    _
    _
    _
    _
    _
    _
    _
    _
    _
    c.requires
    c.slot_width-second_at.ensures
    c.slot_width.ensures
    c.slot_width-2.ensures
    c.width_if.ensures
    (rw (c.bytes_at.ensures, c.is_present.ensures) at c.from_le_bytes.ensures)
    (rw (c.bytes_at-2.ensures, c.is_present-2.ensures) at c.from_le_bytes-2.ensures)
    (rw (c.bytes_at-3.ensures, c.is_present-3.ensures) at c.from_le_bytes-3.ensures)
    (rw c.bytes_at-4.ensures at c.from_le_bytes-4.ensures)
    (rw c.bytes_at-5.ensures at c.from_le_bytes-5.ensures)
