-- The output of the run over a log: what holds of it at each place, and what it comes to where the log ends.
-- Assumes nothing.
use Rattle.std.proofs.Common.{Ok, ◌≡◌, ℕ, zero, suc, ◌+◌, ◌<◌, ◌≤◌, List, [], ◌++◌, length, drop, sym, refl, ap, ◌∙◌, arith, take-append-drop, drop_of_length-le}
use Rattle.fields.specs.declared.Field.{Field}
use Rattle.fields.specs.Limits.{log_fields}
use Rattle.fields.specs.Read.{read_field}
use Rattle.fields.specs.Rows.{field_size}
use Rattle.rules.specs.Commands.{act_of}
use Rattle.rules.specs.Log.{run_bytes}
use Rattle.rules.specs.Replay.{copy_field, next_cell}
use Rattle.rules.specs.Run.{Ending, Outcome}
use Rattle.rules.specs.State.{State}
use Rattle.judge.specs.Replays.{Copies, IsAccepted, copied_at, replay_from}
use Rattle.judge.specs.Steps.{Step, step_of}
use Rattle.judge.proofs.Copying.{copy_got, output_from}

-- with room for the log, going on from a place with at most n fields left gives the output that the whole log gives
abbrev pub Underway : List ℕ → List ℕ → State → ℕ → ℕ → State → List ℕ → Type 0
Underway log out₀ s₀ n at s out = length log ≤ length out₀ → output_from n log at s out ≡ output_from log_fields log 0 s₀ out₀

-- ---- one turn
pub underway_on : (log out₀ : List ℕ) (s₀ : State) (n m at : ℕ) (s : State) (out : List ℕ) → Underway log out₀ s₀ n at s out → length out ≡ length out₀ → n ≡ suc m → at < length log
    → (f : Field) → read_field (drop at log) ≡ Ok f → (step : Step) → step ≡ step_of (act_of f) s → step.answer ≡ Ok tt
    → (b : ℕ) → b ≡ at + field_size f.tag → (out' : List ℕ) → out' ≡ copied_at at (copy_field s (next_cell s) f) out
    → Underway log out₀ s₀ m b step.state out'
underway_on log out₀ s₀ n m at s out u size fuel within f read step stepped goes b place out' copied room =
    rw (place, copied) (copy_got log at within f read s step stepped goes out (omega arith) m ∙ (rw fuel at (u room)))

-- ---- the end
replay-none : (n : ℕ) (s : State) → replay_from n [] s ≡ []
unfolding replay_from
replay-none zero s = refl
replay-none (suc n) s = refl

output_end : (log out : List ℕ) (s : State) (n : ℕ) → output_from n log (length log) s out ≡ out
unfolding output_from
output_end log out s n = rw (drop_of_length-le log {i = length log} (omega arith), replay-none) (take-append-drop (length log) out)

output_start : (log out : List ℕ) (s : State) (n : ℕ) → output_from n log 0 s out ≡ replay_from n log s ++ drop (length log) out
unfolding output_from
output_start log out s n = refl

pub copied_all : (log out₀ : List ℕ) (s₀ : State) (n at : ℕ) (s : State) (out : List ℕ) → Underway log out₀ s₀ n at s out → at ≤ length log → length log ≤ at → Copies log s₀ out₀ out
copied_all log out₀ s₀ n at s out u within past room accepted =
    let end : at ≡ length log = omega arith in
    sym (output_end log out s n) ∙ (rw end at (u room)) ∙ output_start log out₀ s₀ log_fields

-- a log that stops at a field is not accepted
pub copied_none : (log out₀ : List ℕ) (s₀ : State) (out : List ℕ) (ending : Ending) (s : State) → ◌≡◌ {A = Outcome} (record { verdict = ending; state = s }) (run_bytes log_fields log s₀) → (IsAccepted ending → ⊥) → Copies log s₀ out₀ out
copied_none log out₀ s₀ out ending s ran stops room accepted = absurd (stops (rw (← ap (λ (o : Outcome). o.verdict) ran) at accepted))
