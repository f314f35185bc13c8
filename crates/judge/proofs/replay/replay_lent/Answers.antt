-- `judge::replay::replay_lent` meets its contract.
use Rattle.judge.proofs.Replaying.{replay-accepted, replay_kept, still_enough, tells_other}
use Rattle.judge.proofs.Lending.{any_tally}
use Rattle.judge.specs.Lendings.{lent_in}
use Rattle.rules.specs.State.{fresh_tally}
use Rattle.judge.proofs.replay.replay_lent.Goals as goal

pub run_lent-requires : goal.run_lent-requires
run_lent-requires c =
    let ran = c.run_lent-judged in
    still_enough (lent_in c.args.buffers.now fresh_tally) (lent_in ran.new.buffers fresh_tally) c.requires.long_enough (ran.ensures.same_sizes fresh_tally)

pub returns-in-Accepted-clause-replays : goal.returns-in-Accepted-clause-replays
returns-in-Accepted-clause-replays c =
    let a = c.args in
    let ran = c.run_lent-judged in
    let again = c.run_lent in
    let sizes = ran.ensures.same_sizes in
    λ tally. replay-accepted (lent_in a.buffers.now tally) (lent_in ran.new.buffers ran.result.tally) (any_tally a.buffers.now fresh_tally tally c.requires.long_enough)
    (record { pointers = (sizes tally).pointers; selectors = (sizes tally).selectors; variables = (sizes tally).variables; numbers = (sizes tally).numbers; status = (sizes tally).status })
    a.log.bytes.now _ (ran.ensures.shows tally) (rw c.in-Accepted.is tt) _ _ (again.ensures.shows ran.result.tally) a.out.now _ c.requires.room again.ensures.copies

pub returns-in_default-clause-replays : goal.returns-in_default-clause-replays
returns-in_default-clause-replays c =
    let ran = c.run_lent-judged in
    λ tally. replay_kept c.args.log.bytes.now _ ran.result.verdict _ (ran.ensures.shows tally) c.args.out.now (tells_other ran.result.verdict c.in_default.not-Accepted)
