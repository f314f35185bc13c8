-- Writing the replay of a log over what the caller lends and an output: 1, 2, 15, then as judging. Where the log is accepted the
-- output's front is the replay; else the output is as it was. Bytes past the log's length keep what they held. Assumes nothing.
use Rattle.std.specs.Prelude.{ℕ, List, [], ◌∷◌, ◌++◌, leb, length, drop}
use Rattle.fields.specs.declared.Refusal.TheVariants.{LogTooLong, BufferTooShort, OutputTooShort}
use Rattle.fields.specs.Limits.{log_bytes, log_fields}
use Rattle.fields.specs.Order.{test, in_order}
use Rattle.rules.specs.declared.Verdict.{Verdict}
use Rattle.rules.specs.declared.Verdict.TheVariants.{Declined}
use Rattle.rules.specs.State.{fresh}
use Rattle.rules.specs.Run.{Ending, Accepted, Raced, Refused}
use Rattle.rules.specs.Log.{located, run_bytes}
use Rattle.rules.specs.Replay.{replay_bytes}
use Rattle.rules.specs.Judging.{Lent, long_enough, showing}

-- the verdict, the output and what is lent, afterwards
pub record Replayed : Type 0 where
  pub verdict : Verdict
  pub output : List ℕ
  pub after : Lent

abbrev pub replayed : Verdict → List ℕ → Lent → Replayed
replayed verdict output after = record { verdict = verdict; output = output; after = after }

abbrev pub output_after : Ending → List ℕ → List ℕ → List ℕ
output_after (Accepted fields mallocs live) log out = replay_bytes log_fields log ++ drop (length log) out
output_after (Raced field thread variable) log out = out
output_after (Refused r field) log out = out

unfoldable pub replay_log : List ℕ → List ℕ → Lent → Replayed
replay_log log out l =
    let end = run_bytes log_fields log fresh in
    in_order (λ r. replayed (Declined r) out l) (replayed (located log end.verdict) (output_after end.verdict log out) (showing end.state l))
    (test (leb (length log) log_bytes) LogTooLong
    ∷ test (long_enough l) BufferTooShort
    ∷ test (leb (length log) (length out)) OutputTooShort
    ∷ [])
