-- `judge::plays::play` meets its contract.
use Rattle.judge.proofs.Steps.{counted_on, counted_stop, uncounted}
use Rattle.judge.specs.LentHeaps.{state_with}
use Rattle.rules.specs.Effect.{count_field}
use Rattle.std.proofs.Common.{rules}
use Rattle.judge.proofs.plays.play.Goals as goal

pub returns-in_err-play_change-clause-by_rule : goal.returns-in_err-play_change-clause-by_rule
returns-in_err-play_change-clause-by_rule c =
    let s = state_with c.args.board.now c.args.heap.now in
    counted_stop c.args.act s _ _ _ c.in_err-play_change.field-0.0 c.play_change.ensures.by_rule c.in_err-play_change.was (search rules)

pub overflow_add-heap : goal.overflow_add-heap
overflow_add-heap c =
    let s = state_with c.args.board.now c.args.heap.now in
    let kept = uncounted c.args.act s _ _ c.play_change.ensures.by_rule in
    search (rules, kept, c.requires)

pub returns-clause-by_rule : goal.returns-clause-by_rule
unfolding count_field
returns-clause-by_rule c =
    let s = state_with c.args.board.now c.args.heap.now in
    counted_on c.args.act s _ _ c.play_change.ensures.by_rule c.in_ok-play_change.was
