-- What judging a log promises, of what went in and what came out.
-- Assumes nothing.
use Rattle.std.specs.Prelude.{◌≡◌, ℕ, List}
use Rattle.fields.specs.Limits.{log_fields}
use Rattle.rules.specs.declared.Verdict.{Verdict}
use Rattle.rules.specs.Judging.{Judged, Lent, judge_log, judged, showing}
use Rattle.rules.specs.Log.{located, run_bytes}
use Rattle.rules.specs.State.{fresh}

-- the log and what was lent that went in; the verdict and what is lent that came out
abbrev pub Judges : List ℕ → Lent → Verdict → Lent → Type 0
Judges log before verdict after = judged verdict after ≡ judge_log log before

-- judging where neither the log is too long nor a buffer too short
unfoldable pub shown : List ℕ → Lent → Judged
shown log l = let end = run_bytes log_fields log fresh in judged (located log end.verdict) (showing end.state l)
