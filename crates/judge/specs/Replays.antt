-- What writing the replay of a log promises, of what went in and what came out; and what the run over the log leaves of the output.
-- Assumes nothing.
use Rattle.std.specs.Prelude.{◌≡◌, ℕ, ◌≤◌, cond, List, ◌++◌, length, take, drop, nat_lt}
use Rattle.fields.specs.declared.Field.{Field}
use Rattle.fields.specs.Limits.{log_fields}
use Rattle.fields.specs.Write.{write_field}
use Rattle.rules.specs.declared.Verdict.{Verdict}
use Rattle.rules.specs.Run.{Ending, Accepted, Raced, Refused}
use Rattle.rules.specs.Judging.{Lent, showing}
use Rattle.rules.specs.Log.{located, parse, run_bytes}
use Rattle.rules.specs.Replay.{bytes_of, replay}
use Rattle.rules.specs.Replaying.{Replayed, output_after, replay_log, replayed}
use Rattle.rules.specs.State.{State, fresh}

-- the log, the output and what was lent that went in; the verdict, the output and what is lent that came out
abbrev pub Replays : List ℕ → List ℕ → Lent → Verdict → List ℕ → Lent → Type 0
Replays log out before verdict out' after = replayed verdict out' after ≡ replay_log log out before

-- the replay where neither the log is too long nor a buffer or the output too short
unfoldable pub written : List ℕ → List ℕ → Lent → Replayed
written log out l =
    let end = run_bytes log_fields log fresh in
    replayed (located log end.verdict) (output_after end.verdict log out) (showing end.state l)

-- ---- the output of an accepted log
abbrev pub IsAccepted : Ending → Type 0
IsAccepted (Accepted fields mallocs live) = Unit {0}
IsAccepted (Raced field thread variable) = ⊥
IsAccepted (Refused r field) = ⊥

-- the replay of at most n fields, the recording being at s
unfoldable pub replay_from : ℕ → List ℕ → State → List ℕ
replay_from n bytes s = bytes_of (replay s (parse n bytes).fields)

-- the output once a field's copy is written at a place of it, if it reaches there
unfoldable pub copied_at : ℕ → Field → List ℕ → List ℕ
copied_at at copy out = cond (nat_lt at (length out)) (take at out ++ (write_field copy (drop at out)).output) out

-- what the run over a log, from s, leaves of an output with room for the log: where the log is accepted, the replay and what is held past the log
abbrev pub Copies : List ℕ → State → List ℕ → List ℕ → Type 0
Copies log s out out' = length log ≤ length out → IsAccepted (run_bytes log_fields log s).verdict → out' ≡ replay_from log_fields log s ++ drop (length log) out
