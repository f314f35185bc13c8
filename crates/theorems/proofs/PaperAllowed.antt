-- Source 004 beside the rules: a field whose commands have steps of the memory-managed semantics, raise no pointer race, and are
-- not one malloc too many (11), passes. So where a field is refused with 12, 13 or 14, its commands have no steps. Assumes nothing.
use Prim.Native.Nat.{ℕ}
use mathlib.Core.Path.{◌∙◌, ◌≡◌, refl, subst, sym}
use mathlib.Core.Bool.{Bool, true}
use mathlib.Core.Logic.{inl, inr}
use mathlib.Core.List.{List, [], ◌∷◌}
use borrow.Author.Tests.{eqb-true}
use lib.Dec.{eqb}
use Rattle.std.specs.Prelude.{Ok, Err}
use Rattle.fields.specs.declared.RecordedCell.{RecordedCell}
use Rattle.fields.specs.declared.Refusal.{Refusal}
use Rattle.fields.specs.declared.Refusal.TheVariants.{TooManyMallocs}
use Rattle.rules.specs.declared.Change.{Change}
use Rattle.rules.specs.declared.Act.{Act}
use Rattle.rules.specs.declared.Stop.TheVariants.{Race, Refuse}
use Rattle.rules.specs.Words.{is_unset}
use Rattle.rules.specs.State.{State, freed, live, number_at, pointer, status_of}
use Rattle.rules.specs.Acts.{gives, through, touched}
use Rattle.rules.specs.Check.{check, each, holds, points, room_for, vacant, valid}
use Rattle.rules.proofs.Checks.{Clear, clear_each, pass_by}
use Rattle.theorems.specs.Paper.{Asgn-load, Asgn-read, Asgn-store, Asgn-write, Asrt, Assert, Com, Computation, Cond, Heap, InUse, Malloc1, Malloc2, Rule, Update, cell, data_of, defined, freed_in, heap_of, passes, pointer_var, then, valid_in}
use Rattle.theorems.specs.Beside.{NoSeg, RaceIn, Returns, Says, Shows, Steps, Takes, assertion, both, change, says_constant, says_copy, says_free, says_load, says_malloc, says_read, says_store, says_sum, says_write}
use Rattle.theorems.proofs.Basics.{split}
use Rattle.theorems.proofs.Passed.{had_room}
use Rattle.theorems.proofs.PaperReading.{allocated_live, no_address, same_address}
use Rattle.theorems.proofs.PaperRaces.{SomeInvalid, pointer_race_is_race, some_invalid_race}
use Rattle.theorems.proofs.PaperSteps.{guard_passes, shows_assert}

-- no variable of a list is invalid
all_valid : (s : State) (l : List ℕ) → (SomeInvalid s l → ⊥) → Clear (valid s) l
all_valid s [] n = tt
all_valid s (p ∷ l) n = split (valid s p)
    (λ t. (t, all_valid s l (λ i. n (inr i))))
    (λ t. absurd (n (inl t)))

-- what a step says of the variables gone through, of the cell that a malloc names, and of what is asserted
record Steady (a : Act) (s : State) : Type 0 where
  pointing : Clear (points s) (through a.change)
  unlive : Clear (vacant s) (gives a.change)
  holding : holds s a.guard ≡ true

asserted : {h : Heap} {freed : ℕ → Bool} {k : Cond} {up : List Update} → Rule h freed (Assert k) up → passes true h k ≡ true
asserted (Asrt e) = e

module _ (τ : Computation) (s : State) (H : Shows s τ) where
  points_on : (p a : ℕ) → (heap_of τ).pval (pointer_var p) ≡ defined (cell a) → points s p ≡ true
  points_on p a e = split (is_unset (pointer s p))
      (λ t. absurd (no_address (rw t at (sym (H.pointers (pointer_var p)) ∙ e))))
      (λ t. rw t refl)

  unused_vacant : (c : RecordedCell) → (InUse (heap_of τ) c.0 → ⊥) → vacant s c ≡ true
  unused_vacant c n = split (eqb (status_of s c.0) live)
      (λ t. absurd (n (inr (inr (record { what = number_at s.numbers c.0; is = H.numbers (data_of c.0) ∙ rw (allocated_live s c.0 (eqb-true (status_of s c.0) live t)) refl })))))
      (λ t. rw t refl)

  freed-vacant : (c : RecordedCell) → freed_in τ c.0 ≡ true → vacant s c ≡ true
  freed-vacant c e = let status : status_of s c.0 ≡ freed = eqb-true (status_of s c.0) freed (sym (H.frees c.0) ∙ e) in rw status refl

  change_steady : (m : Change) (c : Com) (up : List Update) → Says m c → Rule (heap_of τ) (freed_in τ) c up → Returns up (gives m) → Clear (points s) (through m) × Clear (vacant s) (gives m)
  change_steady m c up (says_malloc {p} {d} {c = r}) (Malloc1 {a = b} n) named = (tt, (unused_vacant r (subst (λ (k : ℕ). InUse (heap_of τ) k → ⊥) (same_address named.0) n), tt))
  change_steady m c up (says_malloc {p} {d} {c = r}) (Malloc2 {a = b} e) named = (tt, (freed-vacant r (rw (same_address named.0) at e), tt))
  change_steady m c up (says_free {p}) rule named = (tt, tt)
  change_steady m c up (says_copy {p} {q}) rule named = (tt, tt)
  change_steady m c up (says_load {p} {q} i) (Asgn-load {a = b} e f) named = ((points_on q b e, tt), tt)
  change_steady m c up (says_store {p} {q} i) (Asgn-store {a = b} e f) named = ((points_on p b e, tt), tt)
  change_steady m c up (says_read {x} {p}) (Asgn-read {a = b} e f) named = ((points_on p b e, tt), tt)
  change_steady m c up (says_write {p} {x}) (Asgn-write {a = b} e f) named = ((points_on p b e, tt), tt)
  change_steady m c up (says_constant {x} {n}) rule named = (tt, tt)
  change_steady m c up (says_sum {x} {y} {z}) rule named = (tt, tt)

module _ (thread : ℕ) (τ : Computation) (s : State) (H : Shows s τ) where
  steady : (a : Act) (cs : List Com) (σ : Computation) → Takes a cs → NoSeg s a.guard → Steps thread (gives a.change) τ cs σ → Steady a s
  steady a cs σ (change {m} {c} w) set st = let q = change_steady τ s H m c st.0 w st.1 st.2 in record { pointing = q.0; unlive = q.1; holding = refl }
  steady a cs σ (assertion {g} {k} w) set st = record { pointing = tt; unlive = tt; holding = sym (guard_passes τ s H g k w set) ∙ asserted st.1 }
  steady a cs σ (both {g} {k} {m} {c} w u none) set st =
      let ρ : Computation = then τ (record { thread = thread; command = Assert k; up = st.0 }) in
      let later = st.3 in
      let q = change_steady ρ s (shows_assert τ s H thread k st.0 st.1) m c later.0 u later.1 later.2 in
      record { pointing = q.0; unlive = q.1; holding = sym (guard_passes τ s H g k w set) ∙ asserted st.1 }

  pub allowed_passes : (a : Act) (cs : List Com) (σ : Computation) → Takes a cs → NoSeg s a.guard → Steps thread (gives a.change) τ cs σ
      → (RaceIn (valid_in τ) cs → ⊥) → Clear (room_for s) (gives a.change) → check a s ≡ Ok tt
  allowed_passes a cs σ takes set steps no_race_lem room =
      let st = steady a cs σ takes set steps in
      pass_by (each (valid s) Race (touched a)) a s (record {
        room = room;
        raceless = clear_each (valid s) Race (touched a) (all_valid s (touched a) (λ i. no_race_lem (some_invalid_race τ s H a cs takes i)));
        pointing = st.pointing;
        unlive = st.unlive;
        holding = st.holding;
      })

  -- a refusal other than 11 says that there was room
  room_left : (a : Act) (r : Refusal) → (r ≡ TooManyMallocs → ⊥) → check a s ≡ Err (Refuse r) → Clear (room_for s) (gives a.change)
  room_left a r n e = had_room a s (Err (Refuse r)) (λ q. n cc) e

  pub refused_no_step : (a : Act) (cs : List Com) (r : Refusal) → Takes a cs → NoSeg s a.guard → check a s ≡ Err (Refuse r) → (r ≡ TooManyMallocs → ⊥)
      → (σ : Computation) → Steps thread (gives a.change) τ cs σ → ⊥
  refused_no_step a cs r takes set e n σ steps =
      let no_race_lem : RaceIn (valid_in τ) cs → ⊥ = λ race. refused_not_raced (pointer_race_is_race τ s H a cs takes race) in
      let passes : Err (Refuse r) ≡ Ok tt = sym e ∙ allowed_passes a cs σ takes set steps no_race_lem (room_left a r n e) in
      cc
    where
      refused_not_raced : (v : ℕ) × (check a s ≡ Err (Race v)) → ⊥
      refused_not_raced v = let differ : Err (Refuse r) ≡ Err (Race v.0) = sym e ∙ v.1 in cc
