-- What every result of judging and replaying a log tells: the numbers of an accepted one count its fields, those of them that are mallocs,
-- and the statuses equal to 1 that are left; a refusal that is met at no field leaves everything as it was lent; memory past the named
-- sizes is kept; and the output is the replay, or what it was. `Judges` and `Replays`,
-- the contracts of judging and replaying, say of what goes in and comes out just what `Judging` and `Replaying` say here.
-- Assumes nothing.
use Prim.Native.Nat.{ℕ}
use lib.Dec.{leb}
use lib.ListN.{drop, length, take}
use lib.Seq.{drop_at, take_at}
use mathlib.Core.Bool.{Bool, true, false, cond}
use mathlib.Core.List.{List, [], ◌∷◌, ◌++◌}
use mathlib.Core.Logic.{◌⊎◌, inl, inr}
use mathlib.Core.Path.{◌≡◌, ◌∙◌, ap, refl, sym}
use Rattle.fields.specs.declared.Refusal.{Refusal}
use Rattle.fields.specs.declared.Refusal.TheVariants.{BufferTooShort, LogTooLong, OutputTooShort}
use Rattle.fields.specs.Limits.{cells, log_bytes, log_fields}
use Rattle.fields.specs.Order.{in_order, test}
use Rattle.rules.specs.declared.Verdict.{Verdict}
use Rattle.rules.specs.declared.Verdict.TheVariants.{Accepted, Declined, Raced, Refused}
use Rattle.rules.specs.Judging.{Judged, Lent, judge_log, judged, long_enough, showing}
use Rattle.rules.specs.Log.{end_field, located, offset_of, parse, run_bytes, told_at}
use Rattle.rules.specs.Plain.{given_by}
use Rattle.rules.specs.Replay.{replay_bytes}
use Rattle.rules.specs.Replaying.{Replayed, output_after, replay_log, replayed}
use Rattle.rules.specs.Run as run
use Rattle.rules.specs.Run.{Ending, live_count, whole}
use Rattle.rules.specs.State.{board_pointers, board_variables, fresh, heap_selectors}
use Rattle.theorems.proofs.Counts.{accepted_counts}
use Rattle.theorems.proofs.Sizes.{sized_fresh, sized_run}

-- ---- a result of judging, and of replaying: of the log and what was lent for it, the verdict and what is lent afterwards
abbrev pub Judging : List ℕ → Lent → Verdict → Lent → Type 0
Judging log before v after = judged v after ≡ judge_log log before

abbrev pub Replaying : List ℕ → List ℕ → Lent → Verdict → List ℕ → Lent → Type 0
Replaying log out before v out' after = replayed v out' after ≡ replay_log log out before

-- the run from the fresh state, over buffers that are long enough and an output with room
abbrev judge_fields : List ℕ → Lent → Judged
judge_fields log before = let end = run_bytes log_fields log fresh in judged (located log end.verdict) (showing end.state before)

abbrev replay_fields : List ℕ → List ℕ → Lent → Replayed
replay_fields log out before =
    let end = run_bytes log_fields log fresh in
    replayed (located log end.verdict) (output_after end.verdict log out) (showing end.state before)

abbrev pub tells_accepted : Verdict → Bool
tells_accepted (Accepted fields mallocs live) = true
tells_accepted (Raced field thread variable offset) = false
tells_accepted (Refused r field offset) = false
tells_accepted (Declined r) = false

-- ---- what is told of an ending
ending_told : (at : ℕ) (ending : Ending) (n k l : ℕ) → Accepted n k l ≡ told_at at ending → ending ≡ run.Accepted n k l
ending_told at (run.Accepted fields mallocs live) n k l e = cc
ending_told at (run.Raced field thread variable) n k l e = cc
ending_told at (run.Refused r field) n k l e = cc

not_declined : (r : Refusal) (at : ℕ) (ending : Ending) → Declined r ≡ told_at at ending → ⊥
not_declined r at (run.Accepted fields mallocs live) e = cc
not_declined r at (run.Raced field thread variable) e = cc
not_declined r at (run.Refused s field) e = cc

-- the fields of the log, told with an offset
abbrev offset : List ℕ → ℕ
offset log = offset_of (end_field (run_bytes log_fields log fresh).verdict) log

-- ---- judging
module _ (log : List ℕ) (before : Lent) where
  -- what the run from the fresh state gives, or a refusal that is met at no field
  abbrev JudgedBy : Verdict → Lent → Type 0
  JudgedBy v after = (judged v after ≡ judge_fields log before) ⊎ ((r : Refusal) × (judged v after ≡ judged (Declined r) before))

  judged_by : (v : Verdict) (after : Lent) → Judging log before v after → JudgedBy v after
  unfolding judge_log
  judged_by v after e = by (leb (length log) log_bytes) (long_enough before) e
    where
      by : (short long : Bool) → judged v after ≡ in_order (λ r. judged (Declined r) before) (judge_fields log before) (test short LogTooLong ∷ test long BufferTooShort ∷ [])
          → JudgedBy v after
      by true true q = inl q
      by true false q = inr (BufferTooShort, q)
      by false long q = inr (LogTooLong, q)

  -- a refusal that is met at no field leaves everything lent as it was
  pub declined_untouched : (r : Refusal) (after : Lent) → Judging log before (Declined r) after → after ≡ before
  declined_untouched r after e = by (judged_by (Declined r) after e)
    where
      by : JudgedBy (Declined r) after → after ≡ before
      by (inl q) = absurd (not_declined r (offset log) (run_bytes log_fields log fresh).verdict (ap (λ (j : Judged). j.verdict) q))
      by (inr d) = ap (λ (j : Judged). j.after) d.1

-- ---- memory past the named sizes
pub record PastKept (before after : Lent) : Type 0 where
  pub pointers : drop board_pointers after.pointers ≡ drop board_pointers before.pointers
  pub selectors : drop heap_selectors after.selectors ≡ drop heap_selectors before.selectors
  pub variables : drop board_variables after.variables ≡ drop board_variables before.variables
  pub numbers : drop cells after.numbers ≡ drop cells before.numbers
  pub status : drop cells after.status ≡ drop cells before.status

same_past : (before after : Lent) → after ≡ before → PastKept before after
same_past before after e = rw e (record { pointers = refl; selectors = refl; variables = refl; numbers = refl; status = refl })

module _ (log : List ℕ) (before : Lent) (v : Verdict) (after : Lent) where
  ran_past : judged v after ≡ judge_fields log before → PastKept before after
  ran_past q =
      let p = parse log_fields log in
      let s = (run_bytes log_fields log fresh).state in
      let z = sized_run p.end p.fields fresh sized_fresh in
      record {
        pointers = rw (ap (λ (j : Judged). j.after.pointers) q) (drop_at s.pointers (drop board_pointers before.pointers) board_pointers z.pointers);
        selectors = rw (ap (λ (j : Judged). j.after.selectors) q) (drop_at s.selectors (drop heap_selectors before.selectors) heap_selectors z.selectors);
        variables = rw (ap (λ (j : Judged). j.after.variables) q) (drop_at s.variables (drop board_variables before.variables) board_variables z.variables);
        numbers = rw (ap (λ (j : Judged). j.after.numbers) q) (drop_at s.numbers (drop cells before.numbers) cells z.numbers);
        status = rw (ap (λ (j : Judged). j.after.status) q) (drop_at s.status (drop cells before.status) cells z.status);
      }

  pub judged_past : Judging log before v after → PastKept before after
  judged_past e = by (judged_by log before v after e)
    where
      by : JudgedBy log before v after → PastKept before after
      by (inl q) = ran_past q
      by (inr d) = same_past before after (ap (λ (j : Judged). j.after) d.1)

-- ---- what the three numbers of an accepted log count
-- every byte of the log is read; its fields, those of them that are mallocs, and the statuses equal to 1 of the heap that is left
pub record CountsLeft (log : List ℕ) (after : Lent) (n k l : ℕ) : Type 0 where
  pub read : (parse log_fields log).end ≡ whole
  pub fields : n ≡ length (parse log_fields log).fields
  pub mallocs : k ≡ length (given_by (parse log_fields log).fields)
  pub live : l ≡ live_count (take cells after.status)

module _ (log : List ℕ) (before after : Lent) (n k l : ℕ) where
  ran_counts : judged (Accepted n k l) after ≡ judge_fields log before → CountsLeft log after n k l
  ran_counts q =
      let p = parse log_fields log in
      let end = run_bytes log_fields log fresh in
      let c = accepted_counts log n k l (ending_told (offset log) end.verdict n k l (ap (λ (j : Judged). j.verdict) q)) in
      let front : take cells (end.state.status ++ drop cells before.status) ≡ end.state.status
      = take_at end.state.status (drop cells before.status) cells (sized_run p.end p.fields fresh sized_fresh).status in
      record {
        read = c.read;
        fields = c.fields;
        mallocs = c.mallocs;
        live = rw (ap (λ (j : Judged). j.after.status) q, front) c.live;
      }

  pub judged_counts : Judging log before (Accepted n k l) after → CountsLeft log after n k l
  judged_counts e = by (judged_by log before (Accepted n k l) after e)
    where
      by : JudgedBy log before (Accepted n k l) after → CountsLeft log after n k l
      by (inl q) = ran_counts q
      by (inr d) = let v = ap (λ (j : Judged). j.verdict) d.1 in cc

-- ---- replaying
module _ (log out : List ℕ) (before : Lent) (v : Verdict) (out' : List ℕ) (after : Lent) (e : Replaying log out before v out' after) where
  -- what the run from the fresh state gives, and judging with it; or a refusal that is met at no field, and judging too unless it is 15
  abbrev Ran : Type 0
  Ran = (replayed v out' after ≡ replay_fields log out before) × Judging log before v after

  abbrev Declines : Type 0
  Declines = (r : Refusal) × (replayed v out' after ≡ replayed (Declined r) out before) × ((r ≡ OutputTooShort) ⊎ Judging log before v after)

  replayed_by : Ran ⊎ Declines
  unfolding replay_log judge_log
  replayed_by = by (leb (length log) log_bytes) (long_enough before) (leb (length log) (length out)) e
    where
      as_judged : Replayed → Judged
      as_judged r = judged r.verdict r.after

      judgement : Bool → Bool → Judged
      judgement short long = in_order (λ r. judged (Declined r) before) (judge_fields log before) (test short LogTooLong ∷ test long BufferTooShort ∷ [])

      Way : Bool → Bool → Type 0
      Way short long =
          ((replayed v out' after ≡ replay_fields log out before) × (judged v after ≡ judgement short long))
          ⊎ ((r : Refusal) × (replayed v out' after ≡ replayed (Declined r) out before) × ((r ≡ OutputTooShort) ⊎ (judged v after ≡ judgement short long)))

      by : (short long room : Bool)
          → replayed v out' after ≡ in_order (λ r. replayed (Declined r) out before) (replay_fields log out before) (test short LogTooLong ∷ test long BufferTooShort ∷ test room OutputTooShort ∷ [])
          → Way short long
      by true true true q = inl (q, ap as_judged q)
      by true true false q = inr (OutputTooShort, q, inl refl)
      by true false room q = inr (BufferTooShort, q, inr (ap as_judged q))
      by false long room q = inr (LogTooLong, q, inr (ap as_judged q))

  -- the answer is that of judging, or 15, and so are the heap and the tally that are left
  pub replayed_as_judged : (v ≡ Declined OutputTooShort → ⊥) → Judging log before v after
  replayed_as_judged other = by replayed_by
    where
      by : Ran ⊎ Declines → Judging log before v after
      by (inl ran) = ran.1
      by (inr d) = unless d.2
        where
          unless : (d.0 ≡ OutputTooShort) ⊎ Judging log before v after → Judging log before v after
          unless (inl short) = absurd (other (ap (λ (r : Replayed). r.verdict) d.1 ∙ ap Declined short))
          unless (inr judges) = judges

  abbrev written : List ℕ
  written = replay_bytes log_fields log ++ drop (length log) out

  output_by : out' ≡ cond (tells_accepted v) written out
  output_by = by replayed_by
    where
      ended_by : (at : ℕ) (ending : Ending) → output_after ending log out ≡ cond (tells_accepted (told_at at ending)) written out
      ended_by at (run.Accepted fields mallocs live) = refl
      ended_by at (run.Raced field thread variable) = refl
      ended_by at (run.Refused r field) = refl

      by : Ran ⊎ Declines → out' ≡ cond (tells_accepted v) written out
      by (inl ran) = rw (ap (λ (r : Replayed). r.verdict) ran.0, ap (λ (r : Replayed). r.output) ran.0) (ended_by (offset log) (run_bytes log_fields log fresh).verdict)
      by (inr d) = rw (ap (λ (r : Replayed). r.verdict) d.1, ap (λ (r : Replayed). r.output) d.1) refl

  -- the replay at the front of the output, where the log is accepted; and else what it held
  pub accepted_written : tells_accepted v ≡ true → out' ≡ replay_bytes log_fields log ++ drop (length log) out
  accepted_written accepted = rw accepted at output_by

  pub stopped_unwritten : tells_accepted v ≡ false → out' ≡ out
  stopped_unwritten stopped = rw stopped at output_by

  pub replay_declined_untouched : (r : Refusal) → v ≡ Declined r → (out' ≡ out) × (after ≡ before)
  replay_declined_untouched r told = (stopped_unwritten (rw told refl), by replayed_by)
    where
      by : Ran ⊎ Declines → after ≡ before
      by (inl ran) = absurd (not_declined r (offset log) (run_bytes log_fields log fresh).verdict (sym told ∙ ap (λ (x : Replayed). x.verdict) ran.0))
      by (inr d) = ap (λ (x : Replayed). x.after) d.1

  pub replayed_past : PastKept before after
  replayed_past = by replayed_by
    where
      by : Ran ⊎ Declines → PastKept before after
      by (inl ran) = judged_past log before v after ran.1
      by (inr d) = same_past before after (ap (λ (x : Replayed). x.after) d.1)

pub replayed_counts : (log out : List ℕ) (before : Lent) (n k l : ℕ) (out' : List ℕ) (after : Lent) → Replaying log out before (Accepted n k l) out' after → CountsLeft log after n k l
replayed_counts log out before n k l out' after e =
    judged_counts log before after n k l (replayed_as_judged log out before (Accepted n k l) out' after e (λ q. cc))
