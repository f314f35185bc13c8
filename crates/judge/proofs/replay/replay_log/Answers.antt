-- `judge::replay::replay_log` meets its contract.
use Rattle.judge.proofs.Lending.{long_enough_lem}
use Rattle.judge.proofs.Replaying.{replayed-written}
use Rattle.judge.specs.Lendings.{lent_in}
use Rattle.rules.specs.State.{fresh_tally}
use Rattle.std.proofs.Common.{sym, ◌∙◌, le-leb}
use Rattle.judge.proofs.replay.replay_log.Goals as goal

pub replay_lent-requires-clause-long_enough : goal.replay_lent-requires-clause-long_enough
replay_lent-requires-clause-long_enough c = long_enough_lem (lent_in c.args.buffers.now fresh_tally) (sym (c.are_long_enough.ensures fresh_tally) ∙ c.if-not-are_long_enough.false)

pub returns-clause-replays : goal.returns-clause-replays
returns-clause-replays c =
    let a = c.args in
    let enough = sym (c.are_long_enough.ensures a.tally) ∙ c.if-not-are_long_enough.false in
    rw c.in-Ok.ensures.same at (c.replay_lent.ensures.replays a.tally) ∙ replayed-written a.log.now a.out.now (lent_in a.buffers.now a.tally) (sym c.in-Ok.ensures.fits) enough (le-leb _ _ c.if-out-log.false)
