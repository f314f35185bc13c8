use Rattle.std.proofs.Common.{◌≡◌, ◌∙◌, Err, arith, rules}
use Rattle.fields.proofs.Writing.{room_enough, room_short, settled, write_checked}
use Rattle.fields.specs.Write.{write_field}
use Rattle.fields.proofs.writer.write_field.Goals as goal
use Rattle.fields.proofs.writer.write_field.Goals.{After-check_value}

checked : (c : After-check_value) → settled c.args.field c.args.out.now c.check_value.result ≡ write_field c.args.field c.args.out.now
checked c = write_checked c.args.field c.args.out.now _ _ (cc) c.row_of-row.ensures c.check_value.ensures

pub returns-in_err-check_value : goal.returns-in_err-check_value
returns-in_err-check_value c =
    let why : c.from_residual.result ≡ Err c.in_err-check_value.field-0.0 = search rules in
    rw why (rw c.in_err-check_value.was at (checked (goal.at.returns-in_err-check_value c).After-check_value))

pub returns-then-out-room : goal.returns-then-out-room
returns-then-out-room c =
    room_short c.args.field c.args.out.now (omega arith)
    ∙ (rw c.in_ok-check_value.was at (checked (goal.at.returns-then-out-room c).After-check_value))

pub returns : goal.returns
returns c =
    rw c.from-room.ensures (room_enough c.args.field c.args.out.now _ _ _ c.row_of-row.ensures c.value_length-bytes.ensures (omega arith) c.put_field.ensures)
    ∙ (rw c.in_ok-check_value.was at (checked (goal.at.returns c).After-check_value))
