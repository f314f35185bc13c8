-- `judge::plays::play_malloc` meets its contract.
use Rattle.judge.proofs.Steps.{play_stop}
use Rattle.judge.specs.LentHeaps.{state_with}
use Rattle.rules.specs.declared.Change.TheVariants.{Allocate}
use Rattle.std.proofs.Common.{rules}
use Rattle.judge.proofs.plays.play_malloc.Goals as goal

pub returns-in_err-check_guard-clause-by_rule : goal.returns-in_err-check_guard-clause-by_rule
returns-in_err-check_guard-clause-by_rule c =
    let a = c.args in
    play_stop a.guard (Allocate a.p a.cell a.number) (state_with a.board.now a.heap.now) _ c.in_err-check_guard.field-0.0 (search rules) _ _ _ c.check_room.ensures c.in_ok-check_room.was c.check_vacant.ensures c.check_guard.ensures c.in_err-check_guard.was
