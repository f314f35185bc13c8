-- `judge::plays::play_free` meets its contract.
use Rattle.judge.proofs.Steps.{play_stop}
use Rattle.judge.specs.LentHeaps.{state_with}
use Rattle.rules.specs.declared.Change.TheVariants.{Release}
use Rattle.std.proofs.Common.{refl, rules}
use Rattle.judge.proofs.plays.play_free.Goals as goal

pub returns-in_err-check_guard-clause-by_rule : goal.returns-in_err-check_guard-clause-by_rule
returns-in_err-check_guard-clause-by_rule c =
    let a = c.args in
    play_stop a.guard (Release a.p) (state_with a.board.now a.heap.now) _ c.in_err-check_guard.field-0.0 (search rules) _ _ _ refl refl c.race_at.ensures c.check_guard.ensures c.in_err-check_guard.was
