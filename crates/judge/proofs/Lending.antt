-- What is lent: its sizes, the fresh state that the fills make, and what the buffers hold in the end.
-- Assumes nothing.
use Rattle.std.proofs.Common.{◌≡◌, ℕ, Bool, true, false, ◌&&◌, leb, List, ◌++◌, length, drop, replicate, ap, ◌∙◌, le-leb, leb-true}
use mathlib.Core.Bool.{and-eq-true_iff}
use Rattle.fields.specs.declared.Refusal.TheVariants.{BufferTooShort, LogTooLong}
use Rattle.fields.specs.Limits.{cells, log_bytes, log_fields}
use Rattle.heap.specs.Boards.{with_front}
use Rattle.rules.specs.declared.Tally.{Tally}
use Rattle.rules.specs.declared.Verdict.{Verdict}
use Rattle.rules.specs.declared.Verdict.TheVariants.{Declined}
use Rattle.rules.specs.Judging.{Lent, judge_log, judged, lent, long_enough, showing}
use Rattle.rules.specs.Log.{located, run_bytes}
use Rattle.rules.specs.Run.{live_count}
use Rattle.rules.specs.State.{State, board_pointers, board_variables, fresh, fresh_board, fresh_tally, heap_selectors, never_used, state_of}
use Rattle.rules.specs.Words.{unset}
use Rattle.judge.specs.Judges.{shown}
use Rattle.judge.specs.Lendings.{LongEnough, lent_in}
use Rattle.judge.specs.declared.buffers.Buffers.{Buffers}
use Rattle.judge.specs.declared.run.Ran.{Ran}

-- ---- the sizes
all_five : (a b c d e : Bool) → (a && b && c && d && e) ≡ true → (a ≡ true) × ((b ≡ true) × ((c ≡ true) × ((d ≡ true) × (e ≡ true))))
all_five a b c d e h =
    let p = (and-eq-true_iff (a && b && c && d) e).0 h in
    let q = (and-eq-true_iff (a && b && c) d).0 p.0 in
    let r = (and-eq-true_iff (a && b) c).0 q.0 in
    let s = (and-eq-true_iff a b).0 r.0 in
    (s.0, (s.1, (r.1, (q.1, p.1))))

pub long_enough_lem : (l : Lent) → long_enough l ≡ true → LongEnough l
unfolding long_enough
long_enough_lem l h =
    let all = all_five (leb board_pointers (length l.pointers)) (leb heap_selectors (length l.selectors)) (leb board_variables (length l.variables)) (leb cells (length l.numbers)) (leb cells (length l.status)) h in
    record {
      pointers_fit = leb-true board_pointers (length l.pointers) all.0;
      selectors_fit = leb-true heap_selectors (length l.selectors) all.1.0;
      variables_fit = leb-true board_variables (length l.variables) all.1.1.0;
      numbers_fit = leb-true cells (length l.numbers) all.1.1.1.0;
      status_fit = leb-true cells (length l.status) all.1.1.1.1;
    }

-- the tally plays no part in it
pub any_tally : (b : Buffers) (tally tally' : Tally) → LongEnough (lent_in b tally) → LongEnough (lent_in b tally')
any_tally b tally tally' fit =
    record { pointers_fit = fit.pointers_fit; selectors_fit = fit.selectors_fit; variables_fit = fit.variables_fit; numbers_fit = fit.numbers_fit; status_fit = fit.status_fit }

-- ---- the state that the fills make
pub filled : (s n t : List ℕ) (tally : Tally) (i j k : ℕ) → tally ≡ fresh_tally → s ≡ replicate i unset → i ≡ heap_selectors → n ≡ replicate j 0 → j ≡ cells → t ≡ replicate k never_used → k ≡ cells → state_of fresh_board tally s n t ≡ fresh
unfolding fresh
filled s n t tally i j k e e₁ h₁ e₂ h₂ e₃ h₃ = rw (e, e₁, h₁, e₂, h₂, e₃, h₃)

-- no cell of it is live, as the fresh tally says
pub none_live : (t : List ℕ) (tally : Tally) (k : ℕ) → tally ≡ fresh_tally → t ≡ replicate k never_used → k ≡ cells → tally.live ≡ live_count t
none_live t tally k e same size = rw (e, same, size)

-- ---- what is lent, once the run has ended and the board is copied out
pub run-shown : (log : List ℕ) (l : Lent) → LongEnough l → (ran : Ran) (tally : Tally) (p s v n t : List ℕ)
    → ran.verdict ≡ located log (run_bytes log_fields log fresh).verdict → state_of ran.board tally s n t ≡ (run_bytes log_fields log fresh).state → tally.live ≡ live_count t
    → p ≡ with_front board_pointers ran.board.pointers l.pointers → v ≡ with_front board_variables ran.board.variables l.variables
    → judged ran.verdict (lent p (s ++ drop heap_selectors l.selectors) v (n ++ drop cells l.numbers) (t ++ drop cells l.status) tally) ≡ shown log l
unfolding shown
run-shown log l fit ran tally p s v n t told same kept e f =
    let left = showing (state_of ran.board tally s n t) l in
    rw (e, f, le-leb board_pointers (length l.pointers) fit.pointers_fit, le-leb board_variables (length l.variables) fit.variables_fit)
    (ap (λ (live : ℕ). judged ran.verdict (lent left.pointers left.selectors left.variables left.numbers left.status (record { fields = tally.fields; mallocs = tally.mallocs; live = live }))) kept
    ∙ ap (λ (w : Verdict). judged w left) told
    ∙ ap (λ (e : State). judged (located log (run_bytes log_fields log fresh).verdict) (showing e l)) same)

-- ---- the verdicts
pub judged_too_long : (log : List ℕ) (l : Lent) → leb (length log) log_bytes ≡ false → judged (Declined LogTooLong) l ≡ judge_log log l
unfolding judge_log
judged_too_long log l h = rw h

pub judged_too_short : (log : List ℕ) (l : Lent) → leb (length log) log_bytes ≡ true → long_enough l ≡ false → judged (Declined BufferTooShort) l ≡ judge_log log l
unfolding judge_log
judged_too_short log l h e = rw (h, e)

pub judged-shown : (log : List ℕ) (l : Lent) → leb (length log) log_bytes ≡ true → long_enough l ≡ true → shown log l ≡ judge_log log l
unfolding judge_log shown
judged-shown log l h e = rw (h, e)
