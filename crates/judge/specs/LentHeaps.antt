-- The heap as it is lent, with its tally: the state that it makes with a board, and that its lists stay the same.
-- Assumes nothing.
use Rattle.std.specs.Prelude.{◌≡◌}
use Rattle.rules.specs.declared.Board.{Board}
use Rattle.rules.specs.State.{State, state_of}
use Rattle.judge.specs.declared.lent_heap.LentHeap.{LentHeap}

abbrev pub state_with : Board → LentHeap → State
state_with board heap = state_of board heap.tally heap.selectors.now heap.numbers.now heap.status.now

-- what is borrowed afterwards is what was borrowed before: whoever takes the struct by `&mut` has to say so, else its caller knows nothing of
-- the lists any more
pub record SameLists (before after : LentHeap) : Type 0 where
  pub selectors : after.selectors.ghost_name ≡ before.selectors.ghost_name
  pub numbers : after.numbers.ghost_name ≡ before.numbers.ghost_name
  pub status : after.status.ghost_name ≡ before.status.ghost_name
