-- The run over the fields of a log: the first field that stops ends it, and leaves the state before that field.
-- Assumes nothing.
use Rattle.std.specs.Prelude.{ℕ, ◌+◌, cond, List, [], ◌∷◌, eqb, Ok, Err}
use Rattle.fields.specs.declared.Field.{Field}
use Rattle.fields.specs.declared.Refusal.{Refusal}
use Rattle.rules.specs.declared.Act.{Act}
use Rattle.rules.specs.declared.Stop.TheVariants.{Race, Refuse}
use Rattle.rules.specs.declared.Tally.{Tally}
use Rattle.rules.specs.State.{State, live}
use Rattle.rules.specs.Commands.{act_of}
use Rattle.rules.specs.Check.{Answer, check}
use Rattle.rules.specs.Effect.{effect}

-- what is judged is a state, or holds one beside what other rules need
pub record Rules (S : Type 0) : Type 0 where
  pub state_in : S → State
  pub check : Act → S → Answer
  pub effect : Act → S → S

-- how a run ends: fields, mallocs and live cells; field, thread and variable of a race; a refusal and its field
pub data Ending : Type 0 where
  Accepted : ℕ → ℕ → ℕ → Ending
  Raced : ℕ → ℕ → ℕ → Ending
  Refused : Refusal → ℕ → Ending

pub record OutcomeOf (S : Type 0) : Type 0 where
  pub verdict : Ending
  pub state : S

abbrev pub Outcome : Type 0
Outcome = OutcomeOf State

-- how the fields end: with the log, or where one is refused by a reading check
pub data End : Type 0 where
  whole : End
  unread : Refusal → End

abbrev pub live_count : List ℕ → ℕ
live_count [] = 0
live_count (x ∷ xs) = cond (eqb x live) 1 0 + live_count xs

-- the tally of a state: the number of live cells that it keeps is the count of the statuses equal to 1
abbrev pub tally_of : State → Tally
tally_of s = record { fields = s.fields; mallocs = s.mallocs; live = live_count s.status }

-- an accepted log's numbers are those of the tally
abbrev pub end_verdict : End → State → Ending
end_verdict whole s = Accepted (tally_of s).fields (tally_of s).mallocs (tally_of s).live
end_verdict (unread r) s = Refused r s.fields

-- the outcome at field n, being f, by its answer: a stop leaves s, else the later fields decide
abbrev pub next : {S : Type 0} → Answer → ℕ → Field → S → OutcomeOf S → OutcomeOf S
next (Ok _) n f s later = later
next (Err (Race v)) n f s later = record { verdict = Raced n f.thread v; state = s }
next (Err (Refuse r)) n f s later = record { verdict = Refused r n; state = s }

abbrev pub run_by : {S : Type 0} → Rules S → End → List Field → S → OutcomeOf S
run_by rules end [] s = record { verdict = end_verdict end (rules.state_in s); state = s }
run_by rules end (f ∷ fs) s =
    let later = run_by rules end fs (rules.effect (act_of f) s) in
    next (rules.check (act_of f) s) (rules.state_in s).fields f s later

abbrev pub run_to : End → List Field → State → Outcome
run_to end fs s = run_by (record { state_in = λ t. t; check = check; effect = effect }) end fs s

abbrev pub run : List Field → State → Outcome
run fs s = run_to whole fs s
