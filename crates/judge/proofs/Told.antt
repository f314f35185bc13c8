-- What every result that the contract of judging allows tells: the numbers of an accepted log are those of the tally that is left.
-- Assumes nothing.
use Rattle.std.proofs.Common.{ℕ, Bool, true, false, leb, List, [], ◌∷◌, length, ap}
use Rattle.fields.specs.declared.Refusal.TheVariants.{BufferTooShort, LogTooLong}
use Rattle.fields.specs.Limits.{log_bytes, log_fields}
use Rattle.fields.specs.Order.{in_order, test}
use Rattle.rules.proofs.Tallies.{Takes, accepted_tally}
use Rattle.rules.specs.declared.Verdict.{Verdict}
use Rattle.rules.specs.declared.Verdict.TheVariants.{Declined}
use Rattle.rules.specs.Judging.{Judged, Lent, judge_log, judged, long_enough, showing}
use Rattle.rules.specs.Log.{end_field, located, offset_of, parse, run_bytes}
use Rattle.rules.specs.Run.{Outcome}
use Rattle.rules.specs.State.{fresh}
use Rattle.judge.specs.Judges.{Judges}

told : (log : List ℕ) (l : Lent) → Takes (judge_log log l).verdict (judge_log log l).after.tally
unfolding judge_log
told log l = by (leb (length log) log_bytes) (long_enough l)
  where
    end : Outcome
    end = run_bytes log_fields log fresh

    answer : Bool → Bool → Judged
    answer short long =
        in_order (λ r. judged (Declined r) l) (judged (located log end.verdict) (showing end.state l))
        (test short LogTooLong ∷ test long BufferTooShort ∷ [])

    by : (short long : Bool) → Takes (answer short long).verdict (answer short long).after.tally
    by true true = accepted_tally (offset_of (end_field end.verdict) log) (parse log_fields log).fields (parse log_fields log).end fresh
    by true false = tt
    by false long = tt

pub told_tally : (log : List ℕ) (before : Lent) (v : Verdict) (after : Lent) → Judges log before v after → Takes v after.tally
told_tally log before v after e = rw (ap (λ (j : Judged). j.verdict) e, ap (λ (j : Judged). j.after.tally) e) (told log before)
