-- The run from a place of the log: what remains to be run there, and what one turn leaves.
-- Assumes nothing.
use Rattle.std.specs.Prelude.{◌≡◌, ℕ, ◌+◌, ◌<◌, ◌≤◌, cond, List, drop, nat_lt, Ok, Err}
use Rattle.fields.specs.declared.Field.{Field}
use Rattle.fields.specs.declared.Refusal.TheVariants.{TooManyFields}
use Rattle.fields.specs.Limits.{log_fields}
use Rattle.fields.specs.Read.{Reading, read_field}
use Rattle.fields.specs.Rows.{field_size}
use Rattle.rules.specs.declared.Stop.{Stop}
use Rattle.rules.specs.declared.Stop.TheVariants.{Race, Refuse}
use Rattle.rules.specs.Check.{Answer}
use Rattle.rules.specs.Log.{located, run_bytes}
use Rattle.rules.specs.Run.{Ending, Raced, Refused, Outcome}
use Rattle.rules.specs.State.{State}
use Rattle.judge.specs.LentHeaps.{state_with}
use Rattle.judge.specs.declared.lent_heap.LentHeap.{LentHeap}
use Rattle.judge.specs.declared.run.Ran.{Ran}

-- shut, so that a run stands in the proofs under its name
unfoldable pub run_from : ℕ → List ℕ → State → Outcome
run_from n bytes s = run_bytes n bytes s

-- the field at the front of what is left, after so many: check 3, then the reading
abbrev pub read_after : ℕ → List ℕ → Reading
read_after fields part = cond (nat_lt fields log_fields) (read_field part) (Err TooManyFields)

-- what follows a field: another at a place, or the end
pub data Following : Type 0 where
  on : ℕ → Following
  ended : Ending → Following

-- the ending at field n, which is a thread's, by why it stops
abbrev pub ended_by : Stop → ℕ → ℕ → Ending
ended_by (Race p) n thread = Raced n thread p
ended_by (Refuse r) n thread = Refused r n

-- what follows field n, being f and read at a place, by its answer
abbrev pub next_after : Answer → ℕ → Field → ℕ → Following
next_after (Ok _) n f at = on (at + field_size f.tag)
next_after (Err stop) n f at = ended (ended_by stop n f.thread)

-- the outcome, where at most n fields may follow
abbrev pub followed : ℕ → Following → List ℕ → State → Outcome
followed n (on at) log s = run_from n (drop at log) s
followed n (ended ending) log s = record { verdict = ending; state = s }

-- going on, the place moves within the log, and one field is counted
abbrev pub Onward : Following → ℕ → ℕ → State → State → Type 0
Onward (on next) at end before after = ((at < next) × (next ≤ end)) × ((after.fields ≡ before.fields + 1) × (after.mallocs ≤ before.mallocs + 1))
Onward (ended ending) at end before after = Unit {0}

-- what the code has made of a log is this outcome, told with the offset of its field
abbrev pub RanTo : List ℕ → Outcome → Ran → LentHeap → Type 0
RanTo log o ran heap = (ran.verdict ≡ located log o.verdict) × (state_with ran.board heap ≡ o.state)
