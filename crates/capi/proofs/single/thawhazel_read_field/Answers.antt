-- What each end of the call leaves is what the definition says, by the laws of OneField.
use Rattle.std.proofs.Common.{Err, Ok}
use Rattle.capi.proofs.OneField.{read_told_lem}
use Rattle.capi.proofs.single.thawhazel_read_field.Goals as goal

pub returns-in-Ok : goal.returns-in-Ok
returns-in-Ok c =
    let a = c.args in
    rw (c.put_front.ensures, c.from.ensures, c.from-in-Ok.ensures, c.from-in-Ok-2.ensures, c.from-in-Ok-3.ensures, c.from-in-Ok-4.ensures, c.from-in-Ok-5.ensures)
    (read_told_lem a.part.now a.place a.field.now c.if-field-lt-READ.false (Ok (c.in-Ok.f, c.in-Ok.offset)) c.in-Ok.ensures)

pub returns-in-Err : goal.returns-in-Err
returns-in-Err c =
    let a = c.args in
    rw (c.from-in-Err.ensures, c.number.ensures)
    (read_told_lem a.part.now a.place a.field.now c.if-field-lt-READ.false (Err (c.in-Err.why, c.in-Err.offset)) c.in-Err.ensures)
