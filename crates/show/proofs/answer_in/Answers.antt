-- A log that is too long is refused, and in any other the field is sought from the start.
use Rattle.std.proofs.Common.{◌∙◌, sym}
use Rattle.show.proofs.Seeking.{sought, too_long}
use Rattle.show.proofs.answer_in.Goals as goal

pub returns-in_default : goal.returns-in_default
returns-in_default c = too_long c.args.log.now c.args.number (sym c.in_default.ensures.fits)

pub returns : goal.returns
returns c = c.ok_or.ensures.value ∙ rw (c.seek.ensures, c.in-Ok.ensures.same) (sought c.args.log.now c.args.number (sym c.in-Ok.ensures.fits))
