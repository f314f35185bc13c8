-- What each end of the call leaves is what the definition says, by the laws of OneShowing; what is found lies within the log.
use Rattle.std.proofs.Common.{◌∙◌, Err, Ok, refl}
use Rattle.capi.proofs.OneShowing.{show_part, show_refused}
use Rattle.capi.proofs.showing.thawhazel_show.Goals as goal

pub returns-in-Ok : goal.returns-in-Ok
returns-in-Ok c =
    let a = c.args in
    show_part a.log.now a.number a.part.now c.if-part-lt-PART.false (Ok c.in-Ok.found) c.in-Ok.ensures c.in-Ok.found _ refl c.put_front.ensures

pub returns-in-Err : goal.returns-in-Err
returns-in-Err c =
    let a = c.args in
    show_refused a.log.now a.number a.part.now c.if-part-lt-PART.false (Err (c.in-Err.why, c.in-Err.field-0-1)) c.in-Err.ensures c.in-Err.why c.in-Err.field-0-1 _ refl (c.from.ensures ∙ c.number.ensures)
