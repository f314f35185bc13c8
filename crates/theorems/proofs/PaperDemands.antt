-- Source 004 beside the rules, over the bytes of a log: the main theorems. Whatever its verdict, a log is a computation of the
-- memory-managed semantics without a pointer race up to its stop, Lemma 2 holds of it, and a race is Definition 2's. Assumes nothing.
use Prim.Native.Nat.{◌*◌, ◌+◌, ◌<◌, ◌≤◌, ℕ}
use mathlib.Core.Path.{◌∙◌, ◌≡◌, ap, refl, subst, sym}
use mathlib.Core.Bool.{false}
use mathlib.Core.Logic.{inl, inr}
use mathlib.Core.List.{List, [], ◌++◌, ◌∷◌}
use native.Mathlib.Omega.{arith}
use borrow.Author.Tests.{eqb-true}
use Rattle.std.specs.Prelude.{Ok, Err}
use Rattle.fields.specs.declared.Field.{Field}
use Rattle.fields.specs.declared.Refusal.{Refusal}
use Rattle.fields.specs.declared.Refusal.TheVariants.{TooManyMallocs}
use Rattle.fields.specs.Refusals.{number_of}
use Rattle.fields.specs.Limits.{log_fields}
use Rattle.fields.specs.Every.{AreBytes, Every}
use Rattle.fields.proofs.Passing.{every_cut}
use Rattle.fields.proofs.RoundTrip.{Readable}
use Rattle.rules.specs.declared.Stop.TheVariants.{Race, Refuse}
use Rattle.rules.specs.Words.{cell_of, is_unset}
use Rattle.rules.specs.State.{State, freed, fresh, live, status_of, word}
use Rattle.rules.specs.Commands.{act_of}
use Rattle.rules.specs.Check.{Answer, check}
use Rattle.rules.specs.Effect.{effect}
use Rattle.rules.specs.Acts.{gives}
use Rattle.rules.specs.Run.{Accepted, End, Outcome, Raced, Refused, next, run_to, unread, whole}
use Rattle.rules.specs.Log.{parse, run_bytes}
use Rattle.theorems.specs.Paper.{Com, Computation, Lemma2, NotValid, PExp, cell, defined, index, initial, next_of, valid_in}
use Rattle.theorems.specs.Beside.{Computed, FirstNotValid, NoSeg, RaceIn, Shows, Steps, Takes, contained_in, is_there, passing, place_of, pval_of}
use Rattle.theorems.proofs.Basics.{clash, split}
use Rattle.theorems.proofs.Kept.{Inv}
use Rattle.theorems.proofs.Replayed.{next-accepted}
use Rattle.theorems.proofs.Logs.{taken}
use Rattle.theorems.proofs.Demands.{lemma2}
use Rattle.theorems.proofs.PaperReading.{half, no_address, no_value, same_address}
use Rattle.theorems.proofs.PaperRaces.{pointer_race_is_race, race_is_pointer_race, race_names_first, race_names_invalid}
use Rattle.theorems.proofs.PaperCommands.{readable_takes}
use Rattle.theorems.proofs.PaperRun.{computed, decides}
use Rattle.theorems.proofs.PaperAllowed.{refused_no_step}
use Rattle.theorems.proofs.Shown.{ByReading, parse_end}

-- ---- Lemma 2 in the paper's words
pointed_at : (s : State) (e : PExp) (a : ℕ) → pval_of s e ≡ defined (cell a) → (is_unset (word s (place_of e)) ≡ false) × (cell_of (word s (place_of e)) ≡ a)
pointed_at s e a q = split (is_there s e)
    (λ t. split (is_unset (word s (place_of e)))
    (λ u. absurd (no_address (rw (t, u) at q)))
    (λ u. (u, same_address (rw (t, u) at q))))
    (λ t. absurd (no_value (rw t at q)))

lemma2_of : (τ : Computation) (s : State) → Shows s τ → Inv s → Lemma2 τ
lemma2_of τ s H I a f (inl q) =
    let status : status_of s a ≡ freed = eqb-true (status_of s a) freed (sym (H.frees a) ∙ f) in
    clash (sym (H.marks (next_of a q.0)) ∙ q.1) (I.sound.freed (2 * a + index q.0) (rw (half a q.0) status))
lemma2_of τ s H I a f (inr q) =
    let e : PExp = q.0 in
    let status : status_of s a ≡ freed = eqb-true (status_of s a) freed (sym (H.frees a) ∙ f) in
    let at = pointed_at s e a (sym (H.pointers e) ∙ q.2) in
    let alive : status_of s (cell_of (word s (place_of e))) ≡ live = (I.sound.good (place_of e)).live (sym (H.marks e) ∙ q.1) at.0 in
    let here : status_of s a ≡ live = rw at.1 at alive in
    omega arith

-- ---- of an accepted run every field passes; a run that races stops at a field
accepted_all : (end : End) (fs : List Field) (s : State) (n k l : ℕ) → (run_to end fs s).verdict ≡ Accepted n k l → passing fs s ≡ fs
accepted_all end [] s n k l e = refl
accepted_all end (f ∷ fs) s n k l e =
    let here : check (act_of f) s ≡ Ok tt = next-accepted (check (act_of f) s) f s (run_to end fs (effect (act_of f) s)) n k l e in
    rw here (ap (λ (l : List Field). f ∷ l) (accepted_all end fs (effect (act_of f) s) n k l (rw here at e)))

race-stops : (end : End) (fs : List Field) (s : State) (n t v : ℕ) → (run_to end fs s).verdict ≡ Raced n t v → (f : Field) × (rest : List Field) × (fs ≡ passing fs s ++ (f ∷ rest))
race-stops whole [] s n t v e = cc
race-stops (unread r) [] s n t v e = cc
race-stops end (f ∷ fs) s n t v e = first-stop (check (act_of f) s) refl (λ q. race-stops end fs (effect (act_of f) s) n t v q)
  where
    first-stop : (x : Answer) → check (act_of f) s ≡ x
        → ((run_to end fs (effect (act_of f) s)).verdict ≡ Raced n t v → (g : Field) × (rest : List Field) × (fs ≡ passing fs (effect (act_of f) s) ++ (g ∷ rest)))
        → (g : Field) × (rest : List Field) × (f ∷ fs ≡ passing (f ∷ fs) s ++ (g ∷ rest))
    first-stop (Ok _) h later = let r = later (rw h at e) in rw h (r.0, r.1, ap (λ (l : List Field). f ∷ l) r.2)
    first-stop (Err stop) h later = rw h (f, fs, refl)

-- an outcome that is no race, to speak of the field alone
no_race : Outcome
no_race = record { verdict = Accepted 0 0 0; state = fresh }

next_raced : (x : Answer) (f : Field) (s : State) (n t v : ℕ) → (next x s.fields f s no_race).verdict ≡ Raced n t v → (x ≡ Err (Race v)) × (s.fields ≡ n) × (f.thread ≡ t)
unfolding no_race
next_raced (Ok _) f s n t v e = cc
next_raced (Err (Race w)) f s n t v e = (cc, cc, cc)
next_raced (Err (Refuse r)) f s n t v e = cc

-- ---- a refusal that reading does not give is given by a field
refusal_stops : (end : End) (fs : List Field) (s : State) (r : Refusal) (n : ℕ) → ((q : Refusal) → end ≡ unread q → ByReading q) → 11 < number_of r
    → (run_to end fs s).verdict ≡ Refused r n → (f : Field) × (rest : List Field) × (fs ≡ passing fs s ++ (f ∷ rest))
refusal_stops whole [] s r n reading h e = cc
refusal_stops (unread q) [] s r n reading h e = absurd (let same : q ≡ r = cc in let few : number_of r ≤ 11 = subst ByReading same (reading q refl) in omega arith)
refusal_stops end (f ∷ fs) s r n reading h e = by (check (act_of f) s) refl (λ q. refusal_stops end fs (effect (act_of f) s) r n reading h q)
  where
    by : (x : Answer) → check (act_of f) s ≡ x
        → ((run_to end fs (effect (act_of f) s)).verdict ≡ Refused r n → (g : Field) × (rest : List Field) × (fs ≡ passing fs (effect (act_of f) s) ++ (g ∷ rest)))
        → (g : Field) × (rest : List Field) × (f ∷ fs ≡ passing (f ∷ fs) s ++ (g ∷ rest))
    by (Ok _) h later = let q = later (rw h at e) in rw h (q.0, q.1, ap (λ (l : List Field). f ∷ l) q.2)
    by (Err stop) h later = rw h (f, fs, refl)

next_refused : (x : Answer) (f : Field) (s : State) (r : Refusal) (n : ℕ) → (next x s.fields f s no_race).verdict ≡ Refused r n → (x ≡ Err (Refuse r)) × (s.fields ≡ n)
unfolding no_race
next_refused (Ok _) f s r n e = cc
next_refused (Err (Race w)) f s r n e = cc
next_refused (Err (Refuse q)) f s r n e = let same : q ≡ r = cc in (ap (λ (why : Refusal). Err (Refuse why)) same, cc)

readable_stop : (l : List Field) (f : Field) (rest : List Field) → Every Readable (l ++ (f ∷ rest)) → Readable f
readable_stop l f rest a = (every_cut Readable l (f ∷ rest) a).1.0

-- ---- over the bytes of a log
module _ (log : List ℕ) (b : AreBytes log) where
  abbrev fields : List Field
  fields = (parse log_fields log).fields

  -- the fields that pass, as a computation, and the state that is left
  pub computation : Computed (initial (λ x. 0)) (passing (parse log_fields log).fields fresh) (run_bytes log_fields log fresh).state
  computation = computed log_fields log b

  -- where the log is accepted, these are all of its fields
  pub accepted-passing : (n k l : ℕ) → (run_bytes log_fields log fresh).verdict ≡ Accepted n k l → passing (parse log_fields log).fields fresh ≡ (parse log_fields log).fields
  accepted-passing n k l e = accepted_all (parse log_fields log).end fields fresh n k l e

  pub paper_lemma2 : Lemma2 computation.computation
  paper_lemma2 = lemma2_of computation.computation (run_bytes log_fields log fresh).state computation.shows (lemma2 log b)

  -- the field after those that pass: its number and its thread, its commands, that one of them raises a pointer race, and a variable
  -- that is not valid
  pub record Raising (number thread variable : ℕ) : Type 0 where
    pub field : Field
    pub rest : List Field
    pub parts : (parse log_fields log).fields ≡ passing (parse log_fields log).fields fresh ++ (field ∷ rest)
    pub done : (run_bytes log_fields log fresh).state.fields ≡ number
    pub by : field.thread ≡ thread
    pub commands : List Com
    pub takes : Takes (act_of field) commands
    pub race : RaceIn (valid_in computation.computation) commands
    pub named : NotValid (valid_in computation.computation) variable

  -- a log that is stopped by a race raises a pointer race there, by Definition 2
  pub raced_raises : (n t v : ℕ) → (run_bytes log_fields log fresh).verdict ≡ Raced n t v → Raising n t v
  raced_raises n t v e =
      let end = (parse log_fields log).end in
      let left = (run_bytes log_fields log fresh).state in
      let stop = race-stops end fields fresh n t v e in
      let f : Field = stop.0 in
      let why = next_raced (check (act_of f) left) f left n t v (sym (decides end fields fresh f stop.1 no_race stop.2) ∙ e) in
      let R : Readable f = stop_readable (passing fields fresh) f stop.1 (subst (Every Readable) stop.2 (taken log_fields log b).readable) in
      let c = readable_takes f R in
      record {
        field = f;
        rest = stop.1;
        parts = stop.2;
        done = why.1;
        by = why.2;
        commands = c.0;
        takes = c.1;
        race = race_is_pointer_race computation.computation left computation.shows (act_of f) c.0 c.1 v why.0;
        named = race_names_invalid computation.computation left computation.shows (act_of f) c.0 c.1 v why.0;
      }
    where
      stop_readable : (l : List Field) (f : Field) (rest : List Field) → Every Readable (l ++ (f ∷ rest)) → Readable f
      stop_readable l f rest a = (every_cut Readable l (f ∷ rest) a).1.0

  -- and where the field after those that pass raises a pointer race, the log is stopped by a race, of that field's thread
  pub raises_raced : (f : Field) (rest : List Field) (cs : List Com) → (parse log_fields log).fields ≡ passing (parse log_fields log).fields fresh ++ (f ∷ rest) → Takes (act_of f) cs
      → RaceIn (valid_in computation.computation) cs → (v : ℕ) × ((run_bytes log_fields log fresh).verdict ≡ Raced (run_bytes log_fields log fresh).state.fields f.thread v)
  raises_raced f rest cs parts takes race =
      let left = (run_bytes log_fields log fresh).state in
      let v = pointer_race_is_race computation.computation left computation.shows (act_of f) cs takes race in
      (v.0, decides (parse log_fields log).end fields fresh f rest no_race parts ∙ rw v.1 refl)

  -- the variable that a race names is the first that is not valid of those of which Definition 2 speaks, p before q
  pub raced_first : (n t v : ℕ) → (run_bytes log_fields log fresh).verdict ≡ Raced n t v → (R : Raising n t v) → FirstNotValid (valid_in computation.computation) (contained_in R.commands) v
  raced_first n t v e R =
      let left = (run_bytes log_fields log fresh).state in
      let why = next_raced (check (act_of R.field) left) R.field left n t v (sym (decides (parse log_fields log).end fields fresh R.field R.rest no_race R.parts) ∙ e) in
      race_names_first computation.computation left computation.shows (act_of R.field) R.commands R.takes v why.0

  -- the field after those that pass: its number, its commands, and that they have no steps of the memory-managed semantics, where no
  -- pointer that it compares is unset (there the paper passes = and ≠, and order 4 does not)
  pub record NoSteps (number : ℕ) : Type 0 where
    pub field : Field
    pub rest : List Field
    pub parts : (parse log_fields log).fields ≡ passing (parse log_fields log).fields fresh ++ (field ∷ rest)
    pub done : (run_bytes log_fields log fresh).state.fields ≡ number
    pub commands : List Com
    pub takes : Takes (act_of field) commands
    pub none : NoSeg (run_bytes log_fields log fresh).state (act_of field).guard → (σ : Computation) → Steps field.thread (gives (act_of field).change) computation.computation commands σ → ⊥

  -- a log that is refused with 12, 13 or 14 stops at such a field. (3 to 10 are met in reading, and 11 is a limit that the paper lacks)
  pub refused_no_steps : (r : Refusal) (n : ℕ) → 11 < number_of r → (run_bytes log_fields log fresh).verdict ≡ Refused r n → NoSteps n
  refused_no_steps r n deed e =
      let end = (parse log_fields log).end in
      let left = (run_bytes log_fields log fresh).state in
      let stop = refusal_stops end fields fresh r n (parse_end log_fields log) deed e in
      let f : Field = stop.0 in
      let why = next_refused (check (act_of f) left) f left r n (sym (decides end fields fresh f stop.1 no_race stop.2) ∙ e) in
      let c = readable_takes f (readable_stop (passing fields fresh) f stop.1 (subst (Every Readable) stop.2 (taken log_fields log b).readable)) in
      let room : r ≡ TooManyMallocs → ⊥ = λ q. let eleven : number_of r ≡ 11 = ap number_of q in omega arith in
      record {
        field = f;
        rest = stop.1;
        parts = stop.2;
        done = why.1;
        commands = c.0;
        takes = c.1;
        none = λ set σ steps. refused_no_step f.thread computation.computation left computation.shows (act_of f) c.0 r c.1 set why.0 room σ steps;
      }
