-- One turn of the run, and its ends, as the loop over the log meets them.
-- Assumes nothing.
use Rattle.std.proofs.Common.{Ok, Err, ◌≡◌, ℕ, zero, suc, ◌+◌, ◌-◌, ◌<◌, ◌≤◌, Bool, true, false, cond, ltb, List, [], ◌∷◌, ◌++◌, length, take, drop, sym, refl, ap, ◌∙◌, not-suc-le-zero, arith, length-drop, drop_of_length-le, take_all, drop-drop, ltb-false, ltb-true, leb-true}
use Rattle.fields.proofs.Passing.{Passes, all_passed, every_cut}
use Rattle.fields.specs.declared.Field.{Field}
use Rattle.fields.specs.declared.Refusal.{Refusal}
use Rattle.fields.specs.declared.Refusal.TheVariants.{TooManyFields}
use Rattle.fields.specs.Checks.{value_checks}
use Rattle.fields.specs.Every.{Every}
use Rattle.fields.specs.Limits.{log_fields}
use Rattle.fields.specs.Read.{Reading, field_of, framing_checks, read_field, tag_in, value_in}
use Rattle.fields.specs.Rows.{field_size, is_tag, length_of, row_of}
use Rattle.rules.proofs.Tallies.{counted}
use Rattle.rules.specs.declared.Stop.{Stop}
use Rattle.rules.specs.declared.Stop.TheVariants.{Race, Refuse}
use Rattle.rules.specs.Check.{Answer, check}
use Rattle.rules.specs.Commands.{act_of}
use Rattle.rules.specs.Effect.{effect}
use Rattle.rules.specs.Log.{end_field, located, offset_of, run_bytes, told_at}
use Rattle.rules.specs.Run.{Accepted, Ending, Outcome, Refused as RefusedAt, live_count, next}
use Rattle.rules.specs.State.{State}
use Rattle.judge.specs.Replays.{IsAccepted}
use Rattle.judge.specs.Runs.{Following, Onward, ended, ended_by, followed, next_after, on, read_after, run_from}
use Rattle.judge.specs.Steps.{Step, state_after, step_of}

-- ---- a field that was read lies within the bytes, and it passed the checks
pub record Passed (s : List ℕ) (f : Field) : Type 0 where
  pub tag : tag_in s ≡ f.tag
  pub fits : field_size f.tag ≤ length s
  pub known : is_tag f.tag ≡ true
  pub right : Every Passes (value_checks (row_of f.tag) f)

pub got_passed : (s : List ℕ) (f : Field) → read_field s ≡ Ok f → Passed s f
unfolding read_field field_of
got_passed s f e =
    let g = field_of (tag_in s) (value_in s) in
    let p = all_passed Err (Ok g) (framing_checks s ++ value_checks (row_of (tag_in s)) g) (Ok f) (λ r (q : ◌≡◌ {A = Reading} (Err r) (Ok f)). cc) e in
    let q : ◌≡◌ {A = Reading} (Ok g) (Ok f) = p.1 in
    let same : g ≡ f = cc in
    let tag : tag_in s ≡ f.tag = ap (λ (x : Field). x.tag) same in
    let header = leb-true 3 (length s) p.0.0 in
    let value = leb-true (length_of (tag_in s)) (length (value_in s)) p.0.1.1.1.0 in
    record {
      tag = tag;
      fits = rw (← tag) (omega (arith, length-drop 3 s));
      known = rw (← tag) p.0.1.0;
      right = rw (← same) (every_cut Passes (framing_checks s) (value_checks (row_of (tag_in s)) g) p.0).1;
    }

pub run_opened : (n : ℕ) (b : List ℕ) (s : State) → run_from n b s ≡ run_bytes n b s
unfolding run_from
run_opened n b s = refl

-- ---- the run, by what is read at the front of the bytes
pub run_got : (n : ℕ) (b : List ℕ) (s : State) (f : Field) → 0 < length b → read_field b ≡ Ok f
    → run_from (suc n) b s ≡ next (check (act_of f) s) s.fields f s (run_from n (drop (field_size f.tag) b) (effect (act_of f) s))
unfolding run_from
run_got n [] s f some e = absurd (not-suc-le-zero some)
run_got n (x ∷ b) s f some e = rw e

pub run-refused : (n : ℕ) (b : List ℕ) (s : State) (r : Refusal) → 0 < length b → read_field b ≡ Err r
    → run_from (suc n) b s ≡ record { verdict = RefusedAt r s.fields; state = s }
unfolding run_from
run-refused n [] s r some e = absurd (not-suc-le-zero some)
run-refused n (x ∷ b) s r some e = rw e

pub run_full : (b : List ℕ) (s : State) → 0 < length b → run_from 0 b s ≡ record { verdict = RefusedAt TooManyFields s.fields; state = s }
unfolding run_from
run_full [] s some = absurd (not-suc-le-zero some)
run_full (x ∷ b) s some = refl

pub run_none : (n : ℕ) (s : State) → run_from n [] s ≡ record { verdict = Accepted s.fields s.mallocs (live_count s.status); state = s }
unfolding run_from
run_none zero s = refl
run_none (suc n) s = refl

-- ---- check 3, then the reading
module _ (n : ℕ) (b : List ℕ) where
  pub read_got : (f : Field) → read_after n b ≡ Ok f → (n < log_fields) × (read_field b ≡ Ok f)
  read_got f e = by (ltb n log_fields) refl e
    where
      by : (t : Bool) → ltb n log_fields ≡ t → cond t (read_field b) (Err TooManyFields) ≡ Ok f → (n < log_fields) × (read_field b ≡ Ok f)
      by true q e = (ltb-true n log_fields q, e)
      by false q e = absurd (let z : ◌≡◌ {A = ℕ} 0 1 = cc in omega arith)

  pub run-stops : (k : ℕ) (s : State) (r : Refusal) → 0 < length b → k ≡ log_fields - n → read_after n b ≡ Err r
      → run_from k b s ≡ record { verdict = RefusedAt r s.fields; state = s }
  run-stops k s r some fuel e = by (ltb n log_fields) refl e
    where
      by : (t : Bool) → ltb n log_fields ≡ t → cond t (read_field b) (Err TooManyFields) ≡ Err r → run_from k b s ≡ record { verdict = RefusedAt r s.fields; state = s }
      by true q e =
          let more : k ≡ suc (log_fields - suc n) = omega (arith, ltb-true n log_fields q) in
          rw more (run-refused (log_fields - suc n) b s r some e)
      by false q e =
          let none : k ≡ 0 = omega (arith, ltb-false n log_fields q) in
          let same : TooManyFields ≡ r = cc in
          rw (none, ← same) (run_full b s some)

-- ---- one turn, at a place of the log
module _ (l : List ℕ) (at : ℕ) (within : at < length l) where
  pub some_left : 0 < length (drop at l)
  some_left = rw length-drop (omega arith)

  -- the part that the code reads at
  pub part : take (length l - at) (drop at l) ≡ drop at l
  part = take_all (length l - at) (drop at l) (simp length-drop (omega arith))

  module _ (f : Field) (read : read_field (drop at l) ≡ Ok f) (s : State) (step : Step) (stepped : step ≡ step_of (act_of f) s) where
    by_answer : (n : ℕ) (k : Answer) → followed n (next_after k s.fields f at) l (state_after k s (effect (act_of f) s))
        ≡ next k s.fields f s (run_from n (drop (field_size f.tag) (drop at l)) (effect (act_of f) s))
    by_answer n (Ok _) = rw drop-drop
    by_answer n (Err (Race p)) = refl
    by_answer n (Err (Refuse r)) = refl

    pub turn_got : (n : ℕ) → followed n (next_after step.answer s.fields f at) l step.state ≡ run_from (suc n) (drop at l) s
    unfolding step_of
    turn_got n = rw stepped (by_answer n (check (act_of f) s) ∙ sym (run_got n (drop at l) s f some_left read))

    onward_by : (k : Answer) → Onward (next_after k s.fields f at) at (length l) s (state_after k s (effect (act_of f) s))
    onward_by (Ok _) =
        let fits = (got_passed (drop at l) f read).fits in
        let count = counted (act_of f) s in
        ((omega arith, omega (arith, length-drop at l)), (count.fields, count.mallocs))
    onward_by (Err stop) = tt

    pub turn_onward : Onward (next_after step.answer s.fields f at) at (length l) s step.state
    unfolding step_of
    turn_onward = rw stepped (onward_by (check (act_of f) s))

  -- ---- the loop: what a turn gives carries on, or ends
  module _ (x : Following) (s t : State) (o : Outcome) (k m : ℕ) (turned : (n : ℕ) → followed n x l t ≡ run_from (suc n) (drop at l) s) (fuel : k ≡ suc m) (whole : run_from k (drop at l) s ≡ o) where
    pub loop_on : (b : ℕ) → x ≡ on b → run_from m (drop b l) t ≡ o
    loop_on b e = (rw e at (turned m)) ∙ (rw fuel at whole)

    loop_ended : (v : Ending) → x ≡ ended v → ◌≡◌ {A = Outcome} (record { verdict = v; state = t }) o
    loop_ended v e = (rw e at (turned m)) ∙ (rw fuel at whole)

  -- a field that stops ends the run with what its step left
  pub turn_stopped : (f : Field) (s : State) (step : Step) (stop : Stop) (o : Outcome) (k : ℕ) → read_after s.fields (drop at l) ≡ Ok f → step ≡ step_of (act_of f) s → step.answer ≡ Err stop
      → k ≡ log_fields - s.fields → run_from k (drop at l) s ≡ o → ◌≡◌ {A = Outcome} (record { verdict = ended_by stop s.fields f.thread; state = step.state }) o
  turn_stopped f s step stop o k told stepped stops fuel whole =
      let read = read_got s.fields (drop at l) f told in
      let more : k ≡ suc (log_fields - suc s.fields) = omega (arith, read.0) in
      loop_ended (next_after step.answer s.fields f at) s step.state o k (log_fields - suc s.fields) (turn_got f read.1 s step stepped) more whole (ended_by stop s.fields f.thread) (rw stops refl)

  pub loop_stopped : (s : State) (o : Outcome) (k : ℕ) (r : Refusal) → k ≡ log_fields - s.fields → run_from k (drop at l) s ≡ o → read_after s.fields (drop at l) ≡ Err r
      → ◌≡◌ {A = Outcome} (record { verdict = RefusedAt r s.fields; state = s }) o
  loop_stopped s o k r fuel whole e = sym (run-stops s.fields (drop at l) k s r some_left fuel e) ∙ whole

pub loop_end : (l : List ℕ) (at : ℕ) (s : State) (o : Outcome) (n c : ℕ) → length l ≤ at → run_from n (drop at l) s ≡ o → c ≡ live_count s.status → ◌≡◌ {A = Outcome} (record { verdict = Accepted s.fields s.mallocs c; state = s }) o
loop_end l at s o n c past whole count = rw count (sym (run_none n s) ∙ (rw (drop_of_length-le l {i = at} past) at whole))

pub onward_on : (x : Following) (b at end : ℕ) (t t' : State) → x ≡ on b → Onward x at end t t' → Onward (on b) at end t t'
onward_on x b at end t t' e h = rw e at h

pub goes_on_lem : (k : Answer) (n : ℕ) (f : Field) (at b : ℕ) → k ≡ Ok tt → b ≡ at + field_size f.tag → next_after k n f at ≡ on b
goes_on_lem k n f at b went place = rw (went, place)

-- ---- where a field begins
pub offset_next : (n : ℕ) (log : List ℕ) → offset_of (suc n) log ≡ offset_of n log + (field_size (tag_in (drop (offset_of n log) log)))
offset_next zero log = omega arith
offset_next (suc n) log =
    let size = field_size (tag_in log) in
    let later = offset_next n (drop size log) in
    let there : drop (offset_of n (drop size log)) (drop size log) ≡ drop (size + offset_of n (drop size log)) log = drop-drop (offset_of n (drop size log)) size log in
    omega (arith, rw there at later)

pub offset_on : (n m : ℕ) (log : List ℕ) (at b : ℕ) (f : Field) → at ≡ offset_of n log → read_field (drop at log) ≡ Ok f → b ≡ at + field_size f.tag → m ≡ n + 1 → b ≡ offset_of m log
offset_on n m log at b f here read place counted =
    let tag : tag_in (drop at log) ≡ f.tag = (got_passed (drop at log) f read).tag in
    let later : m ≡ suc n = omega arith in
    let step = offset_next n log in
    rw later (omega (arith, place, here, rw (← here, tag) at step))

-- an outcome, told with the place of its field
pub told_outcome : (log : List ℕ) (o : Outcome) (ending : Ending) (s : State) (at : ℕ) → at ≡ offset_of (end_field ending) log → ◌≡◌ {A = Outcome} (record { verdict = ending; state = s }) o
    → (told_at at ending ≡ located log o.verdict) × (s ≡ o.state)
told_outcome log o ending s at here same = (rw here (ap (λ (q : Outcome). located log q.verdict) same), ap (λ (q : Outcome). q.state) same)

-- ---- a stop ends at its own field, and is not accepted
pub end_field_is : (stop : Stop) (n thread : ℕ) → end_field (ended_by stop n thread) ≡ n
end_field_is (Race p) n thread = refl
end_field_is (Refuse r) n thread = refl

pub not_accepted : (stop : Stop) (n thread : ℕ) → IsAccepted (ended_by stop n thread) → ⊥
not_accepted (Race p) n thread h = h
not_accepted (Refuse r) n thread h = h
