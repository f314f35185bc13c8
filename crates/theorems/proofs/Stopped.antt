-- What a log that stops leaves (demand 1): the fields before the stop are, alone, an accepted log, and the state that they leave is the one
-- that the stop leaves. The number of the stop is how many they are. Assumes nothing.
use Prim.Native.Nat.{ℕ, ◌+◌}
use mathlib.Core.Path.{◌≡◌, refl}
use mathlib.Core.List.{List, [], ◌∷◌, ◌++◌}
use native.Mathlib.Omega.{arith}
use lib.ListN.{length}
use Rattle.std.specs.Prelude.{Ok, Err}
use Rattle.fields.specs.declared.Field.{Field}
use Rattle.fields.specs.Limits.{log_fields}
use Rattle.rules.specs.declared.Stop.TheVariants.{Race, Refuse}
use Rattle.rules.specs.State.{State, fresh}
use Rattle.rules.specs.Check.{Answer, check}
use Rattle.rules.specs.Commands.{act_of}
use Rattle.rules.specs.Effect.{effect}
use Rattle.rules.specs.Run.{End, Outcome, end_verdict, run, run_to, unread, whole}
use Rattle.rules.specs.Log.{end_field, parse, run_bytes}
use Rattle.rules.proofs.Tallies.{counted}
use Rattle.theorems.specs.Beside.{passing}
use Rattle.theorems.proofs.Shown.{fresh_fields}

-- an accepted outcome that leaves this state
abbrev accepted_at : State → Outcome
accepted_at s = record { verdict = end_verdict whole s; state = s }

record Before (end : End) (fs : List Field) (s : State) : Type 0 where
  rest : List Field
  front : fs ≡ passing fs s ++ rest
  alone : run (passing fs s) s ≡ accepted_at (run_to end fs s).state
  number : end_field (run_to end fs s).verdict ≡ s.fields + length (passing fs s)

before : (end : End) (fs : List Field) (s : State) → Before end fs s
before whole [] s = record { rest = []; front = refl; alone = refl; number = omega arith }
before (unread r) [] s = record { rest = []; front = refl; alone = refl; number = omega arith }
before end (f ∷ fs) s = by (check (act_of f) s) refl (before end fs (effect (act_of f) s))
  where
    by : (x : Answer) → check (act_of f) s ≡ x → Before end fs (effect (act_of f) s) → Before end (f ∷ fs) s
    by (Ok _) e later = record {
      rest = later.rest;
      front = rw e (rw (← later.front) refl);
      alone = rw (e, e) later.alone;
      number = rw e (omega (arith, later.number, (counted (act_of f) s).fields));
    }
    by (Err (Race v)) e later = record { rest = f ∷ fs; front = rw e refl; alone = rw e refl; number = rw e (omega arith) }
    by (Err (Refuse r)) e later = record { rest = f ∷ fs; front = rw e refl; alone = rw e refl; number = rw e (omega arith) }

-- of the bytes of a log
pub record StopsBefore (log : List ℕ) : Type 0 where
  -- the fields that pass are the first fields of the log
  pub rest : List Field
  pub front : (parse log_fields log).fields ≡ passing (parse log_fields log).fields fresh ++ rest
  -- alone they are accepted, and leave the state that the whole log leaves
  pub alone : run (passing (parse log_fields log).fields fresh) fresh ≡ accepted_at (run_bytes log_fields log fresh).state
  -- the number of the field that stops, or of the fields of an accepted log, is how many they are
  pub number : end_field (run_bytes log_fields log fresh).verdict ≡ length (passing (parse log_fields log).fields fresh)

pub stops_before : (log : List ℕ) → StopsBefore log
stops_before log =
    let p = parse log_fields log in
    let b = before p.end p.fields fresh in
    record { rest = b.rest; front = b.front; alone = b.alone; number = omega (arith, b.number, fresh_fields) }
