-- The five buffers as they are lent: what they hold beside a tally, that each has its size, and that they stay the same buffers.
-- Assumes nothing.
use Rattle.std.specs.Prelude.{◌≡◌, ◌≤◌, length}
use Rattle.fields.specs.Limits.{cells}
use Rattle.rules.specs.declared.Tally.{Tally}
use Rattle.rules.specs.Judging.{Lent, lent}
use Rattle.rules.specs.State.{board_pointers, board_variables, heap_selectors}
use Rattle.judge.specs.declared.buffers.Buffers.{Buffers}

abbrev pub lent_in : Buffers → Tally → Lent
lent_in b tally = lent b.pointers.now b.selectors.now b.variables.now b.numbers.now b.status.now tally

-- each buffer has its size
pub record LongEnough (l : Lent) : Type 0 where
  pub pointers_fit : board_pointers ≤ length l.pointers
  pub selectors_fit : heap_selectors ≤ length l.selectors
  pub variables_fit : board_variables ≤ length l.variables
  pub numbers_fit : cells ≤ length l.numbers
  pub status_fit : cells ≤ length l.status

-- no buffer is longer or shorter than it was
pub record SameSizes (before after : Lent) : Type 0 where
  pub pointers : length after.pointers ≡ length before.pointers
  pub selectors : length after.selectors ≡ length before.selectors
  pub variables : length after.variables ≡ length before.variables
  pub numbers : length after.numbers ≡ length before.numbers
  pub status : length after.status ≡ length before.status

-- what is borrowed afterwards is what was borrowed before, no longer or shorter: said wherever the struct is taken by `&mut`, as for LentHeap
pub record SameBuffers (before after : Buffers) : Type 0 where
  pub pointers : after.pointers.ghost_name ≡ before.pointers.ghost_name
  pub selectors : after.selectors.ghost_name ≡ before.selectors.ghost_name
  pub variables : after.variables.ghost_name ≡ before.variables.ghost_name
  pub numbers : after.numbers.ghost_name ≡ before.numbers.ghost_name
  pub status : after.status.ghost_name ≡ before.status.ghost_name
  pub pointers_size : length after.pointers.now ≡ length before.pointers.now
  pub selectors_size : length after.selectors.now ≡ length before.selectors.now
  pub variables_size : length after.variables.now ≡ length before.variables.now
  pub numbers_size : length after.numbers.now ≡ length before.numbers.now
  pub status_size : length after.status.now ≡ length before.status.now
