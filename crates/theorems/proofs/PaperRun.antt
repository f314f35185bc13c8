-- Source 004 beside the rules: every accepted log is a computation of the memory-managed semantics without a pointer race, and its
-- words, marks and statuses are exactly the paper's heap, valid expressions and freed addresses. Assumes nothing.
use Prim.Native.Nat.{◌<◌, ℕ}
use mathlib.Core.Path.{◌∙◌, ◌≡◌, refl, sym}
use mathlib.Core.Bool.{false, true}
use mathlib.Core.Logic.{inl, inr}
use mathlib.Core.List.{List, [], ◌++◌, ◌∷◌}
use native.Mathlib.Omega.{arith}
use borrow.Author.Tests.{eqb-false, not-true}
use lib.Dec.{eqb}
use Rattle.std.specs.Prelude.{Ok, Err}
use Rattle.fields.specs.declared.Field.{Field}
use Rattle.fields.specs.declared.RecordedCell.{RecordedCell}
use Rattle.fields.specs.Every.{AreBytes, Every}
use Rattle.fields.proofs.Passing.{every_cut}
use Rattle.fields.proofs.RoundTrip.{Readable}
use Rattle.rules.specs.declared.PExp.TheVariants.{SelectorOf}
use Rattle.rules.specs.declared.Change.{Change}
use Rattle.rules.specs.declared.Change.TheVariants.{Allocate, Move, Put, Release, Stay}
use Rattle.rules.specs.declared.Act.{Act}
use Rattle.rules.specs.declared.Place.TheVariants.{PointerWord, SelectorWord}
use Rattle.rules.specs.declared.Stop.TheVariants.{Race, Refuse}
use Rattle.rules.specs.Words.{cell_of, is_unset, unset}
use Rattle.rules.specs.State.{State, freed, fresh, live, number_at, pointer, status_of, store, word, write}
use Rattle.rules.specs.Acts.{frees, gives, place, pointer_through, through}
use Rattle.rules.specs.Commands.{act_of}
use Rattle.rules.specs.Check.{Answer, check, points, vacant, valid}
use Rattle.rules.specs.Effect.{apply, count_field, effect, free, give}
use Rattle.rules.specs.Run.{End, Outcome, next, run_to}
use Rattle.rules.specs.Log.{parse, run_bytes}
use Rattle.rules.proofs.Checks.{Clear}
use Rattle.theorems.specs.Paper.{Asrt, Assert, Com, Computation, Cond, DExp, MemoryManaged, PExp, PointerRace, RaceFree, data_of, data_var, dval_at_first, heap_of, index, initial, next_of, passes, pointer_var, pval_at_first, then, valid_in}
use Rattle.theorems.specs.Beside.{Computed, RaceIn, Says, Shows, Steps, Takes, assertion, both, change, dval_of, passing, place_of, pval_of, says_constant, says_copy, says_free, says_load, says_malloc, says_read, says_store, says_sum, says_write, valid_of, wrapping_sum}
use Rattle.theorems.proofs.Basics.{clash, get_or-same, split}
use Rattle.theorems.proofs.Words.{cell_small, unset-unset, valid_below}
use Rattle.theorems.proofs.States.{status_set, word-free, word-give, word_write}
use Rattle.theorems.proofs.Passed.{Passed, looked, passed, reached}
use Rattle.theorems.proofs.Kept.{Inv, Named, found, freed-live, inv_fresh, keep, live_below, status_fresh, word-fresh}
use Rattle.theorems.proofs.Tables.{readable_named}
use Rattle.theorems.proofs.Logs.{taken}
use Rattle.theorems.proofs.PaperReading.{Traced, traced_free, traced_give, traced_write}
use Rattle.theorems.proofs.PaperRaces.{passed_no_race}
use Rattle.theorems.proofs.PaperSteps.{Returning, guard_passed, shows_assert, step_compute, step_copy, step_free, step_load, step_malloc, step_read, step_store, step_write}
use Rattle.theorems.proofs.PaperCommands.{readable_takes}

-- ---- no selector of a never-used cell is written, and no word holds a never-used cell
module _ (s : State) (I : Inv s) (T : Traced (word s) (status_of s)) where
  traced_release : (p : ℕ) → Clear (valid s) (p ∷ []) → is_unset (pointer s p) ≡ false → Traced (word (free (cell_of (pointer s p)) s)) (status_of (free (cell_of (pointer s p)) s))
  unfolding free
  traced_release p v t =
      let c : ℕ = cell_of (pointer s p) in
      let hc : c < 1024 = live_below s c I.sized (freed-live s p I v t) in
      traced_free c T hc (λ u. word-free s c u I.sized hc) (status_set s c freed I.sized hc)

  traced_apply : (c : Change) → Named c → Clear (valid s) (frees c) → Clear (valid s) (through c) → Clear (points s) (through c) → Traced (word (apply c s)) (status_of (apply c s))
  unfolding give write store
  traced_apply Stay n f v u = T
  traced_apply (Allocate p c d) n f v u = traced_give p c.0 T (cell_small c.0 n.1) (λ x. word-give s p c.0 d x I.sized n.0 n.1) (status_set s c.0 live I.sized n.1)
  traced_apply (Release p) n f v u = split (is_unset (pointer s p)) (λ t. rw t T) (λ t. rw t (traced_release p f t))
  traced_apply (Move x y) n f v u =
      let e = every_cut (λ i. valid s i ≡ true) (pointer_through x) (pointer_through y) v in
      let h = every_cut (λ i. points s i ≡ true) (pointer_through x) (pointer_through y) u in
      let at = found s x I n.0 e.0 h.0 in
      traced_write (place s x) (place s y) T at.owned (λ z. word_write s (place s x) z (word s (place s y)) I.sized at.within)
  traced_apply (Put x w) n f v u = T

  traced_step : (a : Act) → Named a.change → Passed a s → Traced (word (effect a s)) (status_of (effect a s))
  unfolding count_field
  traced_step a n g = let l = looked a s g in traced_apply a.change n l.frees l.goes g.pointing

-- ---- one command
shows_count : (τ : Computation) (s : State) → Shows s τ → Shows (count_field s) τ
unfolding count_field
shows_count τ s H = record {
  pointers = λ e. H.pointers e ∙ same_pointers_lem e;
  numbers = λ e. H.numbers e ∙ same_data_lem e;
  marks = λ e. H.marks e ∙ same_marks e;
  frees = H.frees;
}
  where
    same_pointers_lem : (e : PExp) → pval_of s e ≡ pval_of (count_field s) e
    same_pointers_lem (pointer_var p) = refl
    same_pointers_lem (next_of a i) = refl

    same_data_lem : (e : DExp) → dval_of s e ≡ dval_of (count_field s) e
    same_data_lem (data_var y) = refl
    same_data_lem (data_of a) = refl

    same_marks : (e : PExp) → valid_of s e ≡ valid_of (count_field s) e
    same_marks (pointer_var p) = refl
    same_marks (next_of a i) = refl

module _ (τ : Computation) (s : State) (thread : ℕ) (H : Shows s τ) (I : Inv s) (T : Traced (word s) (status_of s)) where
  step_says : (m : Change) (c : Com) → Says m c → Named m
      → Clear (valid s) (frees m) → Clear (valid s) (through m) → Clear (points s) (through m) → Clear (vacant s) (gives m) → Returning τ thread (gives m) c (apply m s)
  step_says m c (says_malloc {p} {d} {c = r}) n f v u w = step_malloc τ s thread H I T p d r n.0 n.1 (eqb-false (status_of s r.0) live (not-true (eqb (status_of s r.0) live) w.0))
  step_says m c (says_free {p}) n f v u w = (step_free τ s thread H I T p f.0, tt)
  step_says m c (says_copy {p} {q}) n f v u w = (step_copy τ s thread H I T p q n.0, tt)
  step_says m c (says_load {p} {q} i) n f v u w = (step_load τ s thread H I T p q i n.0 (reached s q v u), tt)
  step_says m c (says_store {p} {q} i) n f v u w = (step_store τ s thread H I T p i q (reached s p v u) (found s (SelectorOf p (index i)) I n.0 v u).within, tt)
  step_says m c (says_read {x} {p}) n f v u w = (step_read τ s thread H I T x p n.0 (reached s p v u), tt)
  step_says m c (says_write {p} {x}) n f v u w = (step_write τ s thread H I T p x (reached s p v u), tt)
  step_says m c (says_constant {x} {n = k}) n f v u w = (step_compute τ s thread H I T x k (λ vs. k) [] [] n.0 tt refl, tt)
  step_says m c (says_sum {x} {y} {z}) n f v u w =
      let vs : List ℕ = number_at s.variables y ∷ number_at s.variables z ∷ [] in
      (step_compute τ s thread H I T x (wrapping_sum vs) wrapping_sum (y ∷ z ∷ []) vs n.0 (H.numbers (data_var y), (H.numbers (data_var z), tt)) refl, tt)

-- ---- the commands of one field
-- what holds of a state and a computation before and after
record Standing (s : State) (τ : Computation) : Type 0 where
  inv : Inv s
  traced : Traced (word s) (status_of s)
  shows : Shows s τ
  managed : MemoryManaged τ
  race_free : RaceFree τ

-- where some commands lead: to a computation without a pointer race, and the state s shows it
record Onward (thread : ℕ) (named : List RecordedCell) (τ : Computation) (cs : List Com) (s : State) : Type 0 where
  to : Computation
  steps : Steps thread named τ cs to
  managed : MemoryManaged to
  race_free : RaceFree to
  shows : Shows s to

module _ (s : State) (thread : ℕ) where
  change_on : (τ : Computation) → Standing s τ → (a : Act) (c : Com) → Says a.change c → Named a.change → Passed a s → (PointerRace (valid_in τ) c → ⊥)
      → Onward thread (gives a.change) τ (c ∷ []) (apply a.change s)
  change_on τ S a c w n g no_Race =
      let l = looked a s g in
      let st = step_says τ s thread S.shows S.inv S.traced a.change c w n l.frees l.goes g.pointing g.unlive in
      record {
        to = then τ (record { thread = thread; command = c; up = st.0.up });
        steps = (st.0.up, st.0.rule, st.1, refl);
        managed = (S.managed, st.0.rule);
        race_free = (S.race_free, no_Race);
        shows = st.0.shows;
      }

  assert_on : (τ : Computation) → Standing s τ → (k : Cond) → passes true (heap_of τ) k ≡ true → (PointerRace (valid_in τ) (Assert k) → ⊥)
      → Standing s (then τ (record { thread = thread; command = Assert k; up = [] }))
  assert_on τ S k e no_Race = record {
    inv = S.inv;
    traced = S.traced;
    shows = shows_assert τ s S.shows thread k [] (Asrt e);
    managed = (S.managed, Asrt e);
    race_free = (S.race_free, no_Race);
  }

  takes_on : (τ : Computation) → Standing s τ → (a : Act) (cs : List Com) → Takes a cs → Named a.change → Passed a s → (RaceIn (valid_in τ) cs → ⊥)
      → Onward thread (gives a.change) τ cs (apply a.change s)
  takes_on τ S a cs (change {m} {c} w) n g no_Race = change_on τ S a c w n g (λ r. no_Race (inl r))
  takes_on τ S a cs (assertion {g = q} {k} w) n g no_Race =
      let e : passes true (heap_of τ) k ≡ true = guard_passed τ s S.shows q k w g.holding in
      let R = assert_on τ S k e (λ r. no_Race (inl r)) in
      record { to = then τ (record { thread = thread; command = Assert k; up = [] }); steps = ([], Asrt e, tt, refl); managed = R.managed; race_free = R.race_free; shows = R.shows }
  takes_on τ S a cs (both {g = q} {k} {m} {c} w u none) n g no_Race =
      let e : passes true (heap_of τ) k ≡ true = guard_passed τ s S.shows q k w g.holding in
      let ρ : Computation = then τ (record { thread = thread; command = Assert k; up = [] }) in
      let o = change_on ρ (assert_on τ S k e (λ r. no_Race (inl r))) a c u n g (λ r. no_Race (inr (inl r))) in
      record { to = o.to; steps = ([], Asrt e, rw none tt, o.steps); managed = o.managed; race_free = o.race_free; shows = o.shows }

-- ---- a run: the fields that pass are a computation without a pointer race, and the state that is left shows it
stopped : (s : State) (τ : Computation) → Standing s τ → Computed τ [] s
stopped s τ S = record { computation = τ; takes = refl; managed = S.managed; race_free = S.race_free; shows = S.shows }

-- one field, whatever the checks say of it
module _ (f : Field) (s : State) (τ : Computation) (R : Readable f) (S : Standing s τ) (fs : List Field) (end : End)
    (later : (σ : Computation) → Standing (effect (act_of f) s) σ → Computed σ (passing fs (effect (act_of f) s)) (run_to end fs (effect (act_of f) s)).state) where
  goes_on_lem : check (act_of f) s ≡ Ok tt → Computed τ (f ∷ passing fs (effect (act_of f) s)) (run_to end fs (effect (act_of f) s)).state
  goes_on_lem here =
      let act : Act = act_of f in
      let named = readable_named f R in
      let c = readable_takes f R in
      let g = passed act s here in
      let o = takes_on s f.thread τ S act c.0 c.1 named.1 g (passed_no_race τ s S.shows act c.0 c.1 here) in
      let q = later o.to (record {
        inv = keep act s S.inv named.1 here;
        traced = traced_step s S.inv S.traced act named.1 g;
        shows = shows_count o.to (apply act.change s) o.shows;
        managed = o.managed;
        race_free = o.race_free;
      }) in
      record { computation = q.computation; takes = (c.0, o.to, c.1, o.steps, q.takes); managed = q.managed; race_free = q.race_free; shows = q.shows }

  one_field : (x : Answer) → check (act_of f) s ≡ x → Computed τ (passing (f ∷ fs) s) (run_to end (f ∷ fs) s).state
  one_field (Ok _) e = rw e (goes_on_lem e)
  one_field (Err (Race v)) e = rw e (stopped s τ S)
  one_field (Err (Refuse r)) e = rw e (stopped s τ S)

continued : (end : End) (fs : List Field) (s : State) (τ : Computation) → Every Readable fs → Standing s τ → Computed τ (passing fs s) (run_to end fs s).state
continued end [] s τ a S = stopped s τ S
continued end (f ∷ fs) s τ a S = one_field f s τ a.0 S fs end (λ σ Q. continued end fs (effect (act_of f) s) σ a.1 Q) (check (act_of f) s) refl

traced_fresh : Traced (word fresh) (status_of fresh)
traced_fresh = record { unwritten = λ j h. word-fresh (SelectorWord j); used = λ x n h. clash unset-unset (rw (word-fresh x) at n) }

shows_fresh : Shows fresh (initial (λ x. 0))
shows_fresh = record { pointers = pointers; numbers = numbers; marks = λ e. rw (word-fresh (place_of e)) (sym (valid_below unset (omega arith))); frees = λ a. rw (status_fresh a) refl }
  where
    pointers : (e : PExp) → pval_at_first e ≡ pval_of fresh e
    pointers (pointer_var p) = rw (word-fresh (PointerWord p), unset-unset) refl
    pointers (next_of a i) = rw (status_fresh a) refl

    numbers : (e : DExp) → dval_at_first (λ x. 0) e ≡ dval_of fresh e
    numbers (data_var x) = unfold fresh in (rw (get_or-same 80 x 0) refl)
    numbers (data_of a) = rw (status_fresh a) refl

standing_fresh : Standing fresh (initial (λ x. 0))
standing_fresh = record { inv = inv_fresh; traced = traced_fresh; shows = shows_fresh; managed = tt; race_free = tt }

pub computed : (n : ℕ) (log : List ℕ) → AreBytes log → Computed (initial (λ x. 0)) (passing (parse n log).fields fresh) (run_bytes n log fresh).state
computed n log b = continued (parse n log).end (parse n log).fields fresh (initial (λ x. 0)) (taken n log b).readable standing_fresh

-- ---- the field that stops a run decides its verdict, against the state that is left
module _ (end : End) (fs : List Field) (s : State) (f : Field) (other : Outcome) where
  abbrev Decides : Type 0
  Decides =
      let left = (run_to end fs s).state in
      (run_to end fs s).verdict ≡ (next (check (act_of f) left) left.fields f left other).verdict

first_of : {x y : Field} {l m : List Field} → x ∷ l ≡ y ∷ m → x ≡ y
first_of e = cc

others_of : {x y : Field} {l m : List Field} → x ∷ l ≡ y ∷ m → l ≡ m
others_of e = cc

decides_first : (end : End) (g : Field) (fs : List Field) (s : State) (f : Field) (rest : List Field) (other : Outcome) (x : Answer) → check (act_of g) s ≡ x → g ∷ fs ≡ passing (g ∷ fs) s ++ (f ∷ rest)
    → (fs ≡ passing fs (effect (act_of g) s) ++ (f ∷ rest) → Decides end fs (effect (act_of g) s) f other) → Decides end (g ∷ fs) s f other
decides_first end g fs s f rest other (Ok _) h e later = rw h (later (others_of (rw h at e)))
decides_first end g fs s f rest other (Err (Race v)) h e later = rw (h, ← (first_of (rw h at e)), h) refl
decides_first end g fs s f rest other (Err (Refuse r)) h e later = rw (h, ← (first_of (rw h at e)), h) refl

pub decides : (end : End) (fs : List Field) (s : State) (f : Field) (rest : List Field) (other : Outcome) → fs ≡ passing fs s ++ (f ∷ rest) → Decides end fs s f other
decides end [] s f rest other e = cc
decides end (g ∷ fs) s f rest other e = decides_first end g fs s f rest other (check (act_of g) s) refl e (λ q. decides end fs (effect (act_of g) s) f rest other q)
