-- Demand 3 over fields: the replay of an accepted log is accepted with the same numbers, and the states match after each field.
-- One induction serves every choice of the replay's cells; the replay's own choice is the next cell, never used. Assumes nothing.
use Prim.Native.Nat.{◌≤◌, ℕ}
use mathlib.Core.Path.{◌∙◌, ◌≡◌, ap, refl, sym}
use mathlib.Core.Bool.{true}
use mathlib.Core.Logic.{inl, inr}
use mathlib.Core.List.{List, [], ◌∷◌}
use native.Mathlib.Omega.{arith}
use borrow.Author.Tests.{eqb-true, ltb-true, ne_eqb}
use lib.Dec.{eqb}
use Rattle.std.specs.Prelude.{Ok, Err}
use Rattle.fields.proofs.Passing.{either}
use Rattle.fields.specs.declared.Field.{Field}
use Rattle.fields.specs.Every.{Every}
use Rattle.rules.specs.declared.ReplayCell.{ReplayCell}
use Rattle.rules.specs.declared.Change.{Change}
use Rattle.rules.specs.declared.Change.TheVariants.{Allocate, Move, Put, Release, Stay}
use Rattle.rules.specs.declared.Act.{Act}
use Rattle.rules.specs.declared.Place.{Place}
use Rattle.rules.specs.declared.Place.TheVariants.{PointerWord, SelectorWord}
use Rattle.rules.specs.declared.Stop.TheVariants.{Race, Refuse}
use Rattle.rules.specs.Words.{cell_of, is_unset, is_valid, unset}
use Rattle.rules.specs.State.{State, freed, fresh, live, never_used, pointer, status_of, store, word, write}
use Rattle.rules.specs.Acts.{frees, gives}
use Rattle.rules.specs.Commands.{act_of}
use Rattle.rules.specs.Check.{Answer, check, room_for, valid}
use Rattle.rules.specs.Effect.{apply, count_field, effect, free, give}
use Rattle.rules.specs.Run.{Accepted, Outcome, next, run}
use Rattle.rules.specs.Replay.{Matching, copy_act, copy_change, copy_field, next_cell, rematch, replay, start}
use Rattle.rules.specs.Matching.{Alike, Along, Live, Match, Owned, twin}
use Rattle.rules.proofs.Checks.{Clear}
use Rattle.theorems.proofs.Basics.{split}
use Rattle.theorems.proofs.States.{status_set}
use Rattle.theorems.proofs.Passed.{looked, passed}
use Rattle.theorems.proofs.Kept.{Inv, Named, NamedAct, freed-live, inv_fresh, live_below, status_fresh, word-fresh}
use Rattle.theorems.proofs.Tied.{Pair, Tied, beside, flat, partner, partner_set, partner_unset, word_live}
use Rattle.theorems.proofs.Step.{Apt, check_step, named_step, step}
use Rattle.theorems.proofs.Tables.{act_copy}

-- of every command of a log
abbrev pub All : (Act → Type 0) → List Field → Type 0
All P fs = Every (λ f. P (act_of f)) fs

pub next-accepted : (x : Answer) (f : Field) (s : State) (later : Outcome) (n k l : ℕ) → (next x s.fields f s later).verdict ≡ Accepted n k l → x ≡ Ok tt
next-accepted (Ok _) f s later n k l e = refl
next-accepted (Err (Race v)) f s later n k l e = cc
next-accepted (Err (Refuse r)) f s later n k l e = cc

-- the matching after a field f of the recording and a field g of the replay
abbrev onward : Field → Field → Matching → Matching
onward f g m = rematch (gives (act_of f).change) (gives (act_of g).change) m

-- ---- the copy of a log under any choice of cells, from both states
abbrev pub replay_by : (State → State → ReplayCell) → State → State → List Field → List Field
replay_by choose R S [] = []
replay_by choose R S (f ∷ fs) =
    let g = copy_field R (choose R S) f in
    g ∷ replay_by choose (effect (act_of f) R) (effect (act_of g) S) fs

-- the choice is apt where I holds, and I is kept
module _ (choose : State → State → ReplayCell) (I : State → State → Type 0)
    (apt : (R S : State) (a : Act) → I R S → NamedAct a → check a R ≡ Ok tt → Apt S (choose R S) a.change)
    (keeps : (R S : State) (m : Matching) (a : Act) → Pair R S (flat m) → I R S → NamedAct a → check a R ≡ Ok tt → I (effect a R) (effect (copy_act R (choose R S) a) S)) where
  abbrev Both : State → State → Matching → Type 0
  Both R S m = Pair R S (flat m) × I R S

  along : (fs : List Field) (R S : State) (m : Matching) (n k l : ℕ) → Both R S m → All NamedAct fs → (run fs R).verdict ≡ Accepted n k l
      → Along Both fs (replay_by choose R S fs) R S m × All NamedAct (replay_by choose R S fs)
  along [] R S m n k l P w e = (P, tt)
  along (f ∷ fs) R S m n k l P w e =
      let a : Act = act_of f in
      let c : ReplayCell = choose R S in
      let g : Field = copy_field R c f in
      let b : Act = act_of g in
      let same : b ≡ copy_act R c a = act_copy R c f in
      let here : check a R ≡ Ok tt = next-accepted (check a R) f R (run fs (effect a R)) n k l e in
      let z : Apt S c a.change = apt R S a P.1 w.0 here in
      let there : check b S ≡ Ok tt = rw same (check_step m P.0 c a z here) in
      let Q : Both (effect a R) (effect b S) (onward f g m) = rw same (step m P.0 c a z w.0.1 here, keeps R S m a P.0 P.1 w.0 here) in
      let r = along fs (effect a R) (effect b S) (onward f g m) n k l Q w.1 (rw here at e) in
      ((P, here, there, r.0), (rw same (named_step m P.0 c a z w.0), r.1))

-- ---- what is tied all along is judged alike
alike : (X : State → State → Matching → Type 0) → ((R S : State) (m : Matching) → X R S m → Tied R S (flat m))
    → (fs gs : List Field) (R S : State) (m : Matching) → Along X fs gs R S m → (run gs S).verdict ≡ (run fs R).verdict
alike X x [] [] R S m A = let T = x R S m A in rw (T.fields, T.mallocs, T.count) refl
alike X x [] (g ∷ gs) R S m A = absurd A
alike X x (f ∷ fs) [] R S m A = absurd A
alike X x (f ∷ fs) (g ∷ gs) R S m A = rw (A.1, A.2) (alike X x fs gs (effect (act_of f) R) (effect (act_of g) S) (onward f g m) A.3)

-- what holds all along holds in a weaker form
along_map : (X Y : State → State → Matching → Type 0) → ((R S : State) (m : Matching) → X R S m → Y R S m)
    → (fs gs : List Field) (R S : State) (m : Matching) → Along X fs gs R S m → Along Y fs gs R S m
along_map X Y y [] [] R S m A = y R S m A
along_map X Y y [] (g ∷ gs) R S m A = absurd A
along_map X Y y (f ∷ fs) [] R S m A = absurd A
along_map X Y y (f ∷ fs) (g ∷ gs) R S m A = (y R S m A.0, A.1, A.2, along_map X Y y fs gs (effect (act_of f) R) (effect (act_of g) S) (onward f g m) A.3)

-- ---- the clauses of the mission
pair_match : (R S : State) (m : Matching) → Pair R S (flat m) → Match R S m
pair_match R S m P = record {
  variables = P.tied.variables;
  live = λ c h. P.tied.live c.0 h;
  one = λ c d h k e. ap (λ (n : ℕ). record { 0 = n }) (P.tied.one c.0 d.0 h k (ap (λ (r : ReplayCell). r.0) e));
  onto = λ k h. let d = P.tied.back k.0 h in (record { 0 = d.0 }, d.1, ap (λ (n : ℕ). record { 0 = n }) d.2);
  equal = λ c h. P.tied.equal c.0 h;
  words = words;
}
  where
    alike-word : (x : Place) (w : ℕ) → is_valid (word R x) ≡ true → w ≡ partner (flat m) (word R x) → Alike R m (word R x) w
    alike-word x w h e = split (eqb (word R x) unset)
        (λ t. inl (eqb-true (word R x) unset t, e ∙ partner_unset (flat m) (word R x) t))
        (λ t. inr (record { 0 = word R x }, word_live P x h t, refl, e ∙ partner_set (flat m) (word R x) t))

    words : (x : Place) → Owned (status_of R) x → is_valid (word R x) ≡ true → Alike R m (word R x) (word S (twin m x))
    words (PointerWord i) o h = alike-word (PointerWord i) (word S (PointerWord i)) h (P.tied.words (PointerWord i) o h)
    words (SelectorWord j) o h = alike-word (SelectorWord j) (word S (twin m (SelectorWord j))) h (P.tied.words (SelectorWord j) o h)

-- ---- the replay's choice: the next cell was never used
abbrev pub in_order_of_mallocs : State → State → ReplayCell
in_order_of_mallocs R S = next_cell R

abbrev Beyond : State → State → Type 0
Beyond R S = (k : ℕ) → R.mallocs ≤ k → status_of S k ≡ never_used

next_apt : (R S : State) (a : Act) → Beyond R S → NamedAct a → check a R ≡ Ok tt → Apt S (next_cell R) a.change
next_apt R S a B n e = apt a.change (passed a R e).room
  where
    apt : (c : Change) → Clear (room_for R) (gives c) → Apt S (next_cell R) c
    apt Stay g = tt
    apt (Allocate p c d) g = (ltb-true R.mallocs 1024 g.0, B R.mallocs (omega arith))
    apt (Release p) g = tt
    apt (Move x y) g = tt
    apt (Put x v) g = tt

-- a cell never used stays so, but for a malloc of it
unused_step : (c : Change) (s : State) (k : ℕ) → Inv s → Named c → Clear (valid s) (frees c) → Every (λ g. g.0 ≡ k → ⊥) (gives c) → status_of s k ≡ never_used → status_of (apply c s) k ≡ never_used
unfolding give free write store
unused_step Stay s k v n g u h = h
unused_step (Allocate p c d) s k v n g u h = status_set s c.0 live v.sized n.1 k ∙ rw (ne_eqb c.0 k u.0) h
unused_step (Release p) s k v n g u h = split (is_unset (pointer s p))
    (λ t. rw t h)
    (λ t.
    let c : ℕ = cell_of (pointer s p) in
    let l : Live s c = freed-live s p v g t in
    rw t (status_set s c freed v.sized (live_below s c v.sized l) k ∙ rw (ne_eqb c k (λ q. let y : Live s k = rw q at l in omega arith)) h))
unused_step (Move x y) s k v n g u h = h
unused_step (Put x w) s k v n g u h = h

-- the copy names no cell beyond the count of mallocs after it
beyond_cell : (R : State) (c : Change) (k : ℕ) → (apply c R).mallocs ≤ k → Every (λ g. g.0 ≡ k → ⊥) (gives (copy_change R (next_cell R) c)) × (R.mallocs ≤ k)
unfolding give free write store
beyond_cell R Stay k h = (tt, h)
beyond_cell R (Allocate p c d) k h = (((λ q. omega arith), tt), omega arith)
beyond_cell R (Release p) k h = (tt, rw (either (λ (s : State). s.mallocs ≡ R.mallocs) (is_unset (pointer R p)) {x = R} {y = free (cell_of (pointer R p)) R} refl refl) at h)
beyond_cell R (Move x y) k h = (tt, h)
beyond_cell R (Put x v) k h = (tt, h)

next_keeps : (R S : State) (m : Matching) (a : Act) → Pair R S (flat m) → Beyond R S → NamedAct a → check a R ≡ Ok tt → Beyond (effect a R) (effect (copy_act R (next_cell R) a) S)
unfolding count_field
next_keeps R S m a P B n e = λ k h.
    let c : ReplayCell = next_cell R in
    let b : Act = copy_act R c a in
    let z = next_apt R S a B n e in
    let q = beyond_cell R a.change k h in
    unused_step b.change S k P.right (named_step m P c a z n).1 (looked b S (passed b S (check_step m P c a z e))).frees q.0 (B k q.1)

replay-next : (fs : List Field) (R S : State) → replay_by in_order_of_mallocs R S fs ≡ replay R fs
replay-next [] R S = refl
replay-next (f ∷ fs) R S =
    let g : Field = copy_field R (next_cell R) f in
    ap (λ (l : List Field). g ∷ l) (replay-next fs (effect (act_of f) R) (effect (act_of g) S))

-- ---- from the start
never_live {ℓ} : {A : Type ℓ} (c : ℕ) → Live fresh c → A
never_live c h = absurd (let z : status_of fresh c ≡ never_used = status_fresh c in omega arith)

pair_fresh : Pair fresh fresh (flat start)
pair_fresh = record {
  left = inv_fresh;
  right = inv_fresh;
  tied = record {
    variables = refl;
    fields = refl;
    mallocs = refl;
    count = refl;
    live = λ c h. never_live c h;
    one = λ c d h k e. never_live c h;
    back = λ k h. never_live k h;
    equal = λ c h. never_live c h;
    words = λ x o h. rw (word-fresh x, word-fresh (beside (flat start) x)) (sym (partner_unset (flat start) unset refl));
  };
}

pub record Replayed (fs : List Field) (n k l : ℕ) : Type 0 where
  pub accepts : (run (replay fresh fs) fresh).verdict ≡ Accepted n k l
  pub matches : Along Match fs (replay fresh fs) fresh fresh start
  pub named : All NamedAct (replay fresh fs)

pub replayed : (fs : List Field) (n k l : ℕ) → All NamedAct fs → (run fs fresh).verdict ≡ Accepted n k l → Replayed fs n k l
replayed fs n k l a e =
    let T : State → State → Matching → Type 0 = λ R S m. Pair R S (flat m) × Beyond R S in
    let A = rw (replay-next fs fresh fresh) at (along in_order_of_mallocs Beyond next_apt next_keeps fs fresh fresh start n k l (pair_fresh, λ j h. status_fresh j) a e) in
    record {
      accepts = alike T (λ R S m P. P.0.tied) fs (replay fresh fs) fresh fresh start A.0 ∙ e;
      matches = along_map T Match (λ R S m P. pair_match R S m P.0) fs (replay fresh fs) fresh fresh start A.0;
      named = A.1;
    }
