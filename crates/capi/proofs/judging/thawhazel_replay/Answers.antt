-- What each end of the call leaves is what the definition says, by the laws of Calls.
use Rattle.std.proofs.Common.{◌≡◌, rules, true}
use Rattle.capi.proofs.Calls.{replay-told}
use Rattle.capi.specs.Judging.{has_room, left}
use Rattle.capi.specs.Replaying.{replay_call, replay_left}
use Rattle.capi.proofs.judging.thawhazel_replay.Goals as goal

pub returns : goal.returns
returns c =
    let a = c.args in
    let j = c.replay_log-judged in
    let b = j.new.buffers in
    let room : has_room a.tally.now a.answer.now ≡ true = cc in
    let told : replay_left j.new.out (left c.tell.result b.pointers.now b.selectors.now b.variables.now b.numbers.now b.status.now c.tell.new.tally c.tell.new.answer)
    ≡ replay_call a.log.now a.out.now a.pointers.now a.selectors.now a.variables.now a.numbers.now a.status.now a.tally.now a.answer.now
    = replay-told a.log.now a.out.now a.pointers.now a.selectors.now a.variables.now a.numbers.now a.status.now a.tally.now a.answer.now room _ _ _ _ _ _ _ _ _ _ _ _ c.tally_in.ensures j.ensures.replays c.tell.ensures in
    search (rules, told)
