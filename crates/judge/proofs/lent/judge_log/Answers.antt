-- `judge::lent::judge_log` meets its contract.
use Rattle.judge.proofs.Lending.{judged-shown, long_enough_lem}
use Rattle.judge.specs.Lendings.{lent_in}
use Rattle.rules.specs.State.{fresh_tally}
use Rattle.std.proofs.Common.{sym, ◌∙◌}
use Rattle.judge.proofs.lent.judge_log.Goals as goal

pub run_lent-requires : goal.run_lent-requires
run_lent-requires c = long_enough_lem (lent_in c.args.buffers.now fresh_tally) (sym (c.are_long_enough.ensures fresh_tally) ∙ c.if-not-are_long_enough.false)

pub returns-clause-judges : goal.returns-clause-judges
returns-clause-judges c =
    let a = c.args in
    let enough = sym (c.are_long_enough.ensures a.tally) ∙ c.if-not-are_long_enough.false in
    rw c.in-Ok.ensures.same at (c.run_lent.ensures.shows a.tally) ∙ judged-shown a.log.now (lent_in a.buffers.now a.tally) (sym c.in-Ok.ensures.fits) enough
