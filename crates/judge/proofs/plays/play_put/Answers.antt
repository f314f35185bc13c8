-- `judge::plays::play_put` meets its contract.
use Rattle.judge.proofs.Steps.{play_stop}
use Rattle.judge.specs.LentHeaps.{state_with}
use Rattle.rules.specs.declared.Change.TheVariants.{Put}
use Rattle.std.proofs.Common.{refl, rules}
use Rattle.judge.proofs.plays.play_put.Goals as goal

pub returns-in_err-check_guard-clause-by_rule : goal.returns-in_err-check_guard-clause-by_rule
returns-in_err-check_guard-clause-by_rule c =
    let a = c.args in
    play_stop a.guard (Put a.to a.value) (state_with a.board.now a.heap.now) _ c.in_err-check_guard.field-0.0 (search rules) _ _ _ refl refl (search rules) c.check_guard.ensures c.in_err-check_guard.was
