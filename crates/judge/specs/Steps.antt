-- One field's step: its answer, and the state after it, which a stop leaves as it was.
-- Assumes nothing.
use Rattle.std.specs.Prelude.{Ok, Err}
use Rattle.rules.specs.declared.Act.{Act}
use Rattle.rules.specs.declared.Board.{Board}
use Rattle.rules.specs.Check.{Answer, check}
use Rattle.rules.specs.Effect.{apply, effect}
use Rattle.rules.specs.State.{State}
use Rattle.judge.specs.LentHeaps.{state_with}
use Rattle.judge.specs.declared.lent_heap.LentHeap.{LentHeap}

pub record Step : Type 0 where
  pub answer : Answer
  pub state : State

abbrev pub state_after : Answer → State → State → State
state_after (Ok _) before after = after
state_after (Err stop) before after = before

unfoldable pub step_of : Act → State → Step
step_of a s = record { answer = check a s; state = state_after (check a s) s (effect a s) }

-- the same before the field is counted
unfoldable pub change_of : Act → State → Step
change_of a s = record { answer = check a s; state = state_after (check a s) s (apply a.change s) }

-- the step that the code has made
abbrev pub stepped : Answer → Board → LentHeap → Step
stepped answer board heap = record { answer = answer; state = state_with board heap }
