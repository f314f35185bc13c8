-- What each end of the call leaves is what the definition says, by the laws of OneField.
use Rattle.std.proofs.Common.{Err, Ok, arith, refl, rules, ◌∙◌, ◌≤◌, length}
use Rattle.capi.proofs.OneField.{few_bytes, write_bytes, write-refused, write-told}
use Rattle.capi.proofs.single.thawhazel_write_field.Goals as goal

pub overflow_cast-n : goal.overflow_cast-n
overflow_cast-n c = omega (arith, few_bytes c.field_in.result c.args.out.now _ _ c.in-Ok.ensures)

pub returns-in-Ok : goal.returns-in-Ok
returns-in-Ok c =
    let a = c.args in
    let some : 1 ≤ length a.answer.now = search rules in
    let told = write-told a.field.now a.out.now a.answer.now c.if-field-lt-FIELD.false some c.field_in.result (Ok c.in-Ok.n) _ c.field_in.ensures c.in-Ok.ensures in
    write_bytes a.field.now a.out.now a.answer.now _ _ _ _ refl c.put_front.ensures told

pub returns-in-Err : goal.returns-in-Err
returns-in-Err c =
    let a = c.args in
    let some : 1 ≤ length a.answer.now = search rules in
    let told = write-told a.field.now a.out.now a.answer.now c.if-field-lt-FIELD.false some c.field_in.result (Err c.in-Err.why) _ c.field_in.ensures c.in-Err.ensures in
    write-refused a.field.now a.out.now a.answer.now _ _ _ _ refl (c.from.ensures ∙ c.number.ensures) told
