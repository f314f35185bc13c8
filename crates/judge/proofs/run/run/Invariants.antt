-- `judge::run::run`: the run of what is left, from what is held, gives what the whole run gives, the place is the offset of the next field,
-- and the output holds the copies of the fields before.
use Rattle.std.proofs.Common.{◌≡◌, ◌-◌, ◌≤◌, length, drop}
use Rattle.judge.proofs.Copied.{Underway}
use Rattle.judge.specs.LentHeaps.{SameLists, state_with}
use Rattle.judge.specs.Runs.{run_from}
use Rattle.rules.specs.Log.{offset_of}
use Rattle.rules.specs.State.{fresh_board}
use Rattle.judge.proofs.run.run.Given as goal

abbrev pub invariant-loop-at : goal.invariant-loop-at
invariant-loop-at l =
    ((l.at ≤ length l.log.bytes.now) × ((length l.out ≡ length l.initial.out) × SameLists l.initial.heap l.heap))
    × (((l.heap.tally.fields ≤ 4096) × (l.heap.tally.mallocs ≤ l.heap.tally.fields))
    × (run_from (4096 - l.heap.tally.fields) (drop l.at l.log.bytes.now) (state_with l.board l.heap) ≡ run_from 4096 l.log.bytes.now (state_with fresh_board l.initial.heap)))
    × (l.at ≡ offset_of l.heap.tally.fields l.log.bytes.now)
    × Underway l.log.bytes.now l.initial.out (state_with fresh_board l.initial.heap) (4096 - l.heap.tally.fields) l.at (state_with l.board l.heap) l.out

abbrev pub decreases-loop-at : goal.decreases-loop-at
decreases-loop-at l = length l.log.bytes.now - l.at
