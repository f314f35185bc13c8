-- The replay of a log over what is lent, once the log is judged and, where it is accepted, judged again with the output.
-- Assumes nothing.
use Rattle.std.proofs.Common.{◌≡◌, ℕ, ◌≤◌, true, false, leb, List, ◌++◌, length, drop, refl, ap, ◌∙◌, arith, length-append, length-drop, drop_at}
use Rattle.fields.specs.declared.Refusal.TheVariants.{BufferTooShort, LogTooLong, OutputTooShort}
use Rattle.fields.specs.Limits.{cells, log_bytes, log_fields}
use Rattle.rules.specs.declared.Verdict.{Verdict}
use Rattle.rules.specs.declared.Verdict.TheVariants.{Accepted, Declined, Raced, Refused}
use Rattle.rules.specs.Judging.{Judged, Lent, judged, long_enough, showing}
use Rattle.rules.specs.Log.{located, run_bytes}
use Rattle.rules.specs.Run as run
use Rattle.rules.specs.Run.{Ending}
use Rattle.rules.specs.Replay.{replay_bytes}
use Rattle.rules.specs.Replaying.{output_after, replay_log, replayed}
use Rattle.rules.specs.State.{State, board_pointers, board_variables, fresh, heap_selectors}
use Rattle.judge.specs.Judges.{shown}
use Rattle.judge.specs.Lendings.{LongEnough, SameSizes}
use Rattle.judge.specs.Replays.{Copies, IsAccepted, replay_from, written}

-- ---- past its front, a list is what it was
rest_kept : (l rest made : List ℕ) (k : ℕ) → l ≡ made ++ drop k rest → length l ≡ length rest → k ≤ length rest → drop k l ≡ drop k rest
rest_kept l rest made k e same fit =
    let size : length made ≡ k = omega (arith, ap length e, length-append made (drop k rest), length-drop k rest) in
    rw e (drop_at made (drop k rest) k size)

showing_same : (s : State) (l m : Lent) → drop board_pointers l.pointers ≡ drop board_pointers m.pointers → drop heap_selectors l.selectors ≡ drop heap_selectors m.selectors
    → drop board_variables l.variables ≡ drop board_variables m.variables → drop cells l.numbers ≡ drop cells m.numbers → drop cells l.status ≡ drop cells m.status → showing s l ≡ showing s m
showing_same s l m e₁ e₂ e₃ e₄ e₅ = rw (e₁, e₂, e₃, e₄, e₅)

-- ---- an ending and what is told of it
abbrev pub TellsAccepted : Verdict → Type 0
TellsAccepted (Accepted fields mallocs live) = Unit {0}
TellsAccepted (Raced field thread variable offset) = ⊥
TellsAccepted (Refused r field offset) = ⊥
TellsAccepted (Declined r) = ⊥

pub tells_other : (verdict : Verdict) → ((fields mallocs live : ℕ) → verdict ≡ Accepted fields mallocs live → ⊥) → TellsAccepted verdict → ⊥
tells_other (Accepted fields mallocs live) other h = other fields mallocs live refl
tells_other (Raced field thread variable offset) other h = h
tells_other (Refused r field offset) other h = h
tells_other (Declined r) other h = h

told-accepted : (log : List ℕ) (ending : Ending) → TellsAccepted (located log ending) → IsAccepted ending
told-accepted log (run.Accepted fields mallocs live) h = tt
told-accepted log (run.Raced field thread variable) h = h
told-accepted log (run.Refused r field) h = h

told_kept : (log out : List ℕ) (ending : Ending) → (TellsAccepted (located log ending) → ⊥) → out ≡ output_after ending log out
told_kept log out (run.Accepted fields mallocs live) n = absurd (n tt)
told_kept log out (run.Raced field thread variable) n = refl
told_kept log out (run.Refused r field) n = refl

accepted_output : (log out : List ℕ) (ending : Ending) → IsAccepted ending → replay_from log_fields log fresh ++ drop (length log) out ≡ output_after ending log out
unfolding replay_from replay_bytes
accepted_output log out (run.Accepted fields mallocs live) h = refl
accepted_output log out (run.Raced field thread variable) h = absurd h
accepted_output log out (run.Refused r field) h = absurd h

module _ (log : List ℕ) (l : Lent) (verdict : Verdict) (after : Lent) (ran : judged verdict after ≡ shown log l) where
  as_told : verdict ≡ located log (run_bytes log_fields log fresh).verdict
  unfolding shown
  as_told = ap (λ (j : Judged). j.verdict) ran

  ran_accepted : TellsAccepted verdict → IsAccepted (run_bytes log_fields log fresh).verdict
  ran_accepted h = told-accepted log (run_bytes log_fields log fresh).verdict (rw as_told at h)

  replay_as : (out out' : List ℕ) → out' ≡ output_after (run_bytes log_fields log fresh).verdict log out → replayed verdict out' after ≡ written log out l
  unfolding shown written
  replay_as out out' e = rw e (ap (λ (j : Judged). replayed j.verdict (output_after (run_bytes log_fields log fresh).verdict log out) j.after) ran)

  pub replay_kept : (out : List ℕ) → (TellsAccepted verdict → ⊥) → replayed verdict out after ≡ written log out l
  replay_kept out n = replay_as out out (told_kept log out (run_bytes log_fields log fresh).verdict (λ h. n (rw (← as_told) at h)))

-- ---- the second run, over what the first has left
module _ (l after : Lent) (fit : LongEnough l) (sizes : SameSizes l after) where
  pub still_enough : LongEnough after
  still_enough =
      record {
        pointers_fit = rw sizes.pointers fit.pointers_fit;
        selectors_fit = rw sizes.selectors fit.selectors_fit;
        variables_fit = rw sizes.variables fit.variables_fit;
        numbers_fit = rw sizes.numbers fit.numbers_fit;
        status_fit = rw sizes.status fit.status_fit;
      }

  module _ (log : List ℕ) (verdict : Verdict) (ran : judged verdict after ≡ shown log l) where
    -- it shows what the first shows, since past the named sizes the first has left what was lent
    same_again : shown log after ≡ shown log l
    unfolding shown
    same_again =
        let end = run_bytes log_fields log fresh in
        ap (judged (located log end.verdict))
        (showing_same end.state after l
        (rest_kept after.pointers l.pointers end.state.pointers board_pointers (ap (λ (j : Judged). j.after.pointers) ran) sizes.pointers fit.pointers_fit)
        (rest_kept after.selectors l.selectors end.state.selectors heap_selectors (ap (λ (j : Judged). j.after.selectors) ran) sizes.selectors fit.selectors_fit)
        (rest_kept after.variables l.variables end.state.variables board_variables (ap (λ (j : Judged). j.after.variables) ran) sizes.variables fit.variables_fit)
        (rest_kept after.numbers l.numbers end.state.numbers cells (ap (λ (j : Judged). j.after.numbers) ran) sizes.numbers fit.numbers_fit)
        (rest_kept after.status l.status end.state.status cells (ap (λ (j : Judged). j.after.status) ran) sizes.status fit.status_fit))

    pub replay-accepted : TellsAccepted verdict → (verdict' : Verdict) (after' : Lent) → judged verdict' after' ≡ shown log after
        → (out out' : List ℕ) → length log ≤ length out → Copies log fresh out out' → replayed verdict' out' after' ≡ written log out l
    replay-accepted told verdict' after' again out out' room copies =
        let accepted = ran_accepted log l verdict after ran told in
        replay_as log l verdict' after' (again ∙ same_again) out out' (copies room accepted ∙ accepted_output log out (run_bytes log_fields log fresh).verdict accepted)

-- ---- the verdicts
module _ (log out : List ℕ) (l : Lent) where
  pub replayed_too_long : leb (length log) log_bytes ≡ false → replayed (Declined LogTooLong) out l ≡ replay_log log out l
  unfolding replay_log
  replayed_too_long h = rw h

  pub replayed_too_short : leb (length log) log_bytes ≡ true → long_enough l ≡ false → replayed (Declined BufferTooShort) out l ≡ replay_log log out l
  unfolding replay_log
  replayed_too_short h e = rw (h, e)

  pub replayed_no_room : leb (length log) log_bytes ≡ true → long_enough l ≡ true → leb (length log) (length out) ≡ false → replayed (Declined OutputTooShort) out l ≡ replay_log log out l
  unfolding replay_log
  replayed_no_room h e r = rw (h, e, r)

  pub replayed-written : leb (length log) log_bytes ≡ true → long_enough l ≡ true → leb (length log) (length out) ≡ true → written log out l ≡ replay_log log out l
  unfolding replay_log written
  replayed-written h e r = rw (h, e, r)
