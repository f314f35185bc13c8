-- The number of live cells, where a status changes: counted down and up by the two statuses of the one cell.
-- Assumes nothing.
use Rattle.std.specs.Prelude.{ℕ, ◌+◌, ◌-◌, ◌%◌, cond, List, length, ◌==◌, nat_lt, slice_index_or}
use Rattle.rules.specs.State.{live, never_used}

-- how many of the live cells one cell is, by its status: what the count adds for it
abbrev pub live_cells : ℕ → ℕ
live_cells status = cond (status == live) 1 0

-- a number of live cells brought along, where a place of the statuses gets a new one; a number has 32 bits
abbrev pub live_after : List ℕ → ℕ → ℕ → ℕ → ℕ
live_after status cell new number =
    cond (nat_lt cell (length status)) ((number - live_cells (slice_index_or status cell never_used) + live_cells new) % 4294967296) number
