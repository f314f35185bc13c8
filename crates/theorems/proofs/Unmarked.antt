-- Where no two mallocs name one cell, the reading without marks gives the same verdict, and the same state but for the marks.
-- The marks are then honest: a word is valid exactly where its cell is not freed. Assumes nothing.
use Prim.Native.Nat.{◌*◌, ◌+◌, ◌/◌, ◌<◌, suc, zero, ℕ}
use mathlib.Core.Path.{◌∙◌, ◌≡◌, ap, ap₂, refl, subst, sym}
use mathlib.Core.Bool.{Bool, cond, false, not, true}
use mathlib.Core.List.{List, [], ◌++◌, ◌∷◌, append_assoc, map}
use native.Mathlib.Nat.{le_of_suc-le-suc, not-suc-le-zero}
use native.Mathlib.Omega.{arith}
use borrow.Author.Tests.{eqb-true, ne_eqb}
use lib.Dec.{eqb}
use lib.ListN.{get_or-eq_default, get_or-map, get_or, length, set, take}
use Rattle.std.proofs.lemmas.List.{map-set}
use Rattle.std.proofs.Math.Seq.{map-set_same}
use Rattle.std.specs.Prelude.{Ok, Err}
use Rattle.fields.specs.declared.RecordedCell.{RecordedCell}
use Rattle.fields.specs.declared.Field.{Field}
use Rattle.fields.specs.declared.Refusal.TheVariants.{UnsetPointer}
use Rattle.fields.specs.Every.{Every}
use Rattle.fields.proofs.Passing.{either, every_cut}
use Rattle.rules.specs.declared.PExp.{PExp}
use Rattle.rules.specs.declared.PExp.TheVariants.{PointerVariable, SelectorOf}
use Rattle.rules.specs.declared.DExp.{DExp}
use Rattle.rules.specs.declared.DExp.TheVariants.{DataOf, DataVariable}
use Rattle.rules.specs.declared.Value.{Value}
use Rattle.rules.specs.declared.Value.TheVariants.{Constant, Held, Sum}
use Rattle.rules.specs.declared.Guard.{Guard}
use Rattle.rules.specs.declared.Guard.TheVariants.{Always, Equal, Same}
use Rattle.rules.specs.declared.Change.{Change}
use Rattle.rules.specs.declared.Change.TheVariants.{Allocate, Move, Put, Release, Stay}
use Rattle.rules.specs.declared.Act.{Act}
use Rattle.rules.specs.declared.Place.{Place}
use Rattle.rules.specs.declared.Place.TheVariants.{PointerWord, SelectorWord}
use Rattle.rules.specs.declared.DataPlace.{DataPlace}
use Rattle.rules.specs.declared.Stop.TheVariants.{Race, Refuse}
use Rattle.rules.specs.Words.{after_free, cell_of, invalidated, is_unset, is_valid, unset, word_at}
use Rattle.rules.specs.State.{State, freed, fresh, live, never_used, pointer, status_of, store, with_status, with_words, word, write}
use Rattle.rules.specs.Acts.{data_place, frees, gives, place, pointer_through, through, touched, value}
use Rattle.rules.specs.Commands.{act_of}
use Rattle.rules.specs.Check.{Answer, check, check_by, holds, points, same_as_wanted, valid}
use Rattle.rules.specs.Effect.{apply, change_own, change_word, count_field, effect, free, give}
use Rattle.rules.specs.Run.{Accepted, End, Ending, Outcome, end_verdict, next, run, run_to, unread, whole}
use Rattle.rules.specs.Matching.{Live, Owned}
use Rattle.rules.specs.Plain.{Distinct, apply_plain, check_plain, free_plain, given_by, run_plain_to, unfreed}
use Rattle.rules.proofs.Checks.{Clear, each_same}
use Rattle.theorems.specs.Beside.{passing}
use Rattle.theorems.specs.Renewed.{NewCells, field_at}
use Rattle.theorems.proofs.Basics.{eqb_self, every_map, split}
use Rattle.theorems.proofs.Words.{cell-after_free, cell-cell, cell-invalidated, cell_small, cell-unset, freed_at, unset-cell, valid_below, valid-invalidated}
use Rattle.theorems.proofs.States.{Sized, Within, cleared_at, eq_place, status_free, status_set, word-free, word-give, word_write}
use Rattle.theorems.proofs.Passed.{looked, passed}
use Rattle.theorems.proofs.Kept.{Inv, Named, NamedAct, found, freed-live, inv_fresh, keep, live_below, status_fresh, word-fresh}
use Rattle.theorems.proofs.Effects.{still}
use Rattle.theorems.proofs.Replayed.{All, next-accepted}

-- ---- words and lists with their marks taken away
same_cells : (wanted : Bool) (v w : ℕ) → same_as_wanted wanted (cell_of v) (cell_of w) ≡ same_as_wanted wanted v w
unfolding same_as_wanted
same_cells wanted v w = rw (cell-cell v, cell-cell w) refl

cells-after_free : (c : ℕ) (l : List ℕ) → map cell_of (map (after_free c) l) ≡ map cell_of l
cells-after_free c [] = refl
cells-after_free c (x ∷ l) = ap₂ (λ (y : ℕ) (r : List ℕ). y ∷ r) (cell-after_free c x) (cells-after_free c l)

word_cells : (l : List ℕ) (i : ℕ) → word_at (map cell_of l) i ≡ cell_of (word_at l i)
word_cells l i = subst (λ (d : ℕ). get_or (map cell_of l) i d ≡ cell_of (word_at l i)) cell-unset (get_or-map cell_of l i unset)

cells-invalidated : (i : ℕ) (l : List ℕ) → map cell_of (change_word invalidated i l) ≡ map cell_of l
cells-invalidated i l = map-set_same cell_of l i (invalidated (word_at l i)) unset (cell-invalidated (word_at l i))

cells-unset : (i : ℕ) (l : List ℕ) → map cell_of (change_word (λ w. unset) i l) ≡ change_word (λ w. unset) i (map cell_of l)
cells-unset i l = map-set cell_of l i unset ∙ ap (set (map cell_of l) i) cell-unset

-- the selectors that a malloc leaves
cells_cleared : (new : Bool) (c : ℕ) (l : List ℕ) → cond new (change_own (λ w. unset) c (map cell_of l)) (map cell_of l) ≡ map cell_of (cond new (change_own (λ w. unset) c l) l)
cells_cleared true c l = sym (cells-unset (2 * c + 1) (change_word (λ w. unset) (2 * c) l) ∙ ap (change_word (λ w. unset) (2 * c + 1)) (cells-unset (2 * c) l))
cells_cleared false c l = refl

-- ---- a state with its marks taken away
unfoldable pub unmarked : State → State
unmarked s = with_words (map cell_of s.pointers) (map cell_of s.selectors) s

word_unmarked : (s : State) (x : Place) → word (unmarked s) x ≡ cell_of (word s x)
unfolding unmarked
word_unmarked s (PointerWord i) = word_cells s.pointers i
word_unmarked s (SelectorWord j) = word_cells s.selectors j

pointer_unmarked : (s : State) (p : ℕ) → pointer (unmarked s) p ≡ cell_of (pointer s p)
pointer_unmarked s p = word_unmarked s (PointerWord p)

cell_unmarked : (s : State) (p : ℕ) → cell_of (pointer (unmarked s) p) ≡ cell_of (pointer s p)
cell_unmarked s p = rw (pointer_unmarked s p) (cell-cell (pointer s p))

place_unmarked : (s : State) (x : PExp) → place (unmarked s) x ≡ place s x
place_unmarked s (PointerVariable p) = refl
place_unmarked s (SelectorOf p b) = rw (cell_unmarked s p) refl

data_place_unmarked : (s : State) (x : DExp) → data_place (unmarked s) x ≡ data_place s x
data_place_unmarked s (DataVariable x) = refl
data_place_unmarked s (DataOf p) = rw (cell_unmarked s p) refl

value_unmarked : (s : State) (v : Value) → value (unmarked s) v ≡ value s v
unfolding unmarked
value_unmarked s (Held x) = rw (data_place_unmarked s x) refl
value_unmarked s (Constant n) = refl
value_unmarked s (Sum y z) = refl

unmarked_write : (s : State) (x : Place) (w : ℕ) → write x (cell_of w) (unmarked s) ≡ unmarked (write x w s)
unfolding unmarked write
unmarked_write s (PointerWord p) w = ap (λ (l : List ℕ). with_words l (map cell_of s.selectors) s) (sym (map-set cell_of s.pointers p w))
unmarked_write s (SelectorWord j) w = ap (λ (l : List ℕ). with_words (map cell_of s.pointers) l s) (sym (map-set cell_of s.selectors j w))

unmarked_free : (s : State) (c : ℕ) → free_plain c (unmarked s) ≡ unmarked (free c s)
unfolding unmarked free free_plain
unmarked_free s c =
    let words = map (after_free c) s.selectors in
    ap₂ (λ (l m : List ℕ). with_words l m (with_status (set s.status c freed) s)) (sym (cells-after_free c s.pointers))
    (sym (cells-invalidated (2 * c + 1) (change_word invalidated (2 * c) words) ∙ cells-invalidated (2 * c) words ∙ cells-after_free c s.selectors))

unmarked_give : (s : State) (p c d : ℕ) → cell_of c ≡ c → give p c d (unmarked s) ≡ unmarked (give p c d s)
unfolding unmarked give
unmarked_give s p c d h = ap₂ (λ (l m : List ℕ). with_words l m (give p c d s))
    (ap (set (map cell_of s.pointers) p) (sym h) ∙ sym (map-set cell_of s.pointers p c))
    (cells_cleared (eqb (status_of s c) never_used) c s.selectors)

unmarked_store : (s : State) (x : DataPlace) (n : ℕ) → store x n (unmarked s) ≡ unmarked (store x n s)
unfolding unmarked store
unmarked_store s x n = refl

unmarked_count_field : (s : State) → count_field (unmarked s) ≡ unmarked (count_field s)
unfolding unmarked count_field
unmarked_count_field s = refl

unmarked_cond : (b : Bool) (s t : State) → cond b (unmarked s) (unmarked t) ≡ unmarked (cond b s t)
unmarked_cond true s t = refl
unmarked_cond false s t = refl

unmarked_apply : (a : Change) (s : State) → Named a → apply_plain a (unmarked s) ≡ unmarked (apply a s)
unmarked_apply Stay s n = refl
unmarked_apply (Allocate p c d) s n = unmarked_give s p c.0 d (cell_small c.0 n.1)
unmarked_apply (Release p) s n =
    rw (pointer_unmarked s p, unset-cell (pointer s p), cell-cell (pointer s p), unmarked_free s (cell_of (pointer s p))) (unmarked_cond (is_unset (pointer s p)) s (free (cell_of (pointer s p)) s))
unmarked_apply (Move x y) s n = rw (place_unmarked s x, place_unmarked s y, word_unmarked s (place s y)) (unmarked_write s (place s x) (word s (place s y)))
unmarked_apply (Put x v) s n = rw (data_place_unmarked s x, value_unmarked s v) (unmarked_store s (data_place s x) (value s v))

-- ---- where every mark says that the cell is freed, the checks agree
-- of a word
abbrev Honest : (ℕ → ℕ) → ℕ → Type 0
Honest st w = is_valid w ≡ not (eqb (st (cell_of w)) freed)

-- of every pointer variable and every selector of a live cell
AllHonest : State → Type 0
AllHonest s = (x : Place) → Owned (status_of s) x → Honest (status_of s) (word s x)

unfreed_unmarked : (s : State) → AllHonest s → (p : ℕ) → unfreed (unmarked s) p ≡ valid s p
unfolding unmarked AllHonest
unfreed_unmarked s h p = rw (cell_unmarked s p, h (PointerWord p) tt) refl

points_unmarked : (s : State) (p : ℕ) → points (unmarked s) p ≡ points s p
points_unmarked s p = rw (pointer_unmarked s p, unset-cell (pointer s p)) refl

holds_unmarked : (s : State) (g : Guard) → holds (unmarked s) g ≡ holds s g
unfolding unmarked
holds_unmarked s Always = refl
holds_unmarked s (Same wanted p q) = rw (word_cells s.pointers p, word_cells s.pointers q) (same_cells wanted (pointer s p) (pointer s q))
holds_unmarked s (Equal wanted x y) = refl

check_unmarked : (a : Act) (s : State) → AllHonest s → check_plain a (unmarked s) ≡ check a s
unfolding check_by unmarked
check_unmarked a s h =
    rw (
      each_same (valid s) (unfreed (unmarked s)) Race (touched a) (unfreed_unmarked s h),
      each_same (points s) (points (unmarked s)) (λ p. Refuse UnsetPointer) (through a.change) (points_unmarked s),
      holds_unmarked s a.guard,
    ) refl

-- ---- each command that passes keeps the marks honest, where a malloc names a cell never used
honest_write : (s : State) (x y : Place) → Sized s → Within x → Owned (status_of s) y → AllHonest s → AllHonest (write x (word s y) s)
unfolding write AllHonest
honest_write s x y z wx oy h = λ u o.
    rw (word_write s x u (word s y) z wx) (either (Honest (status_of s)) (eq_place x u) (h y oy) (h u o))

module _ (s : State) (c : ℕ) (z : Sized s) (l : Live s c) where
  honest_after_free : (w : ℕ) → Honest (status_of s) w → Honest (status_of (free c s)) (after_free c w)
  unfolding after_free
  honest_after_free w t = split (eqb c (cell_of w))
      (λ e. rw (e, cell-invalidated w, valid-invalidated w, status_free s c z (live_below s c z l) (cell_of w), e) refl)
      (λ e. rw (e, status_free s c z (live_below s c z l) (cell_of w), e) t)

  honest_freed_at : (u : Place) → Owned (status_of (free c s)) u → AllHonest s → Honest (status_of (free c s)) (freed_at c u (word s u))
  unfolding AllHonest
  honest_freed_at (PointerWord i) o h = honest_after_free (word s (PointerWord i)) (h (PointerWord i) tt)
  honest_freed_at (SelectorWord j) o h = let t = still s c (j / 2) z l o in rw t.0 (honest_after_free (word s (SelectorWord j)) (h (SelectorWord j) t.1))

  honest_free : AllHonest s → AllHonest (free c s)
  unfolding AllHonest
  honest_free h = λ u o. rw (word-free s c u z (live_below s c z l)) (honest_freed_at u o h)

honest_give : (s : State) (p c d : ℕ) → Sized s → p < 80 → c < 1024 → status_of s c ≡ never_used → AllHonest s → AllHonest (give p c d s)
unfolding AllHonest give
honest_give s p c d z hp hc n h = λ u o. rw (word-give s p c d u z hp hc) (either (Honest after) (eq_place (PointerWord p) u) new (old u o))
  where
    after : ℕ → ℕ
    after k = get_or (set s.status c live) k never_used

    after-give : (k : ℕ) → after k ≡ cond (eqb c k) live (status_of s k)
    after-give k = status_set s c live z hc k

    new : Honest after c
    new = rw (cell_small c hc, valid_below c (omega arith), after-give c, eqb_self c) refl

    none-freed : (k : ℕ) → eqb (after k) freed ≡ eqb (status_of s k) freed
    none-freed k = rw (after-give k) (split (eqb c k)
        (λ e. rw (e, ← (eqb-true c k e), n) refl)
        (λ e. rw e refl))

    no_cell : status_of s unset ≡ never_used
    no_cell = get_or-eq_default s.status never_used (omega (arith, z.status))

    kept : (w : ℕ) → Honest (status_of s) w → Honest after w
    kept w t = rw (none-freed (cell_of w)) t

    old : (u : Place) → Owned after u → Honest after (cleared_at (status_of s) c u (word s u))
    old (PointerWord i) o = kept (word s (PointerWord i)) (h (PointerWord i) tt)
    old (SelectorWord j) o = rw n (split (eqb c (j / 2))
        (λ e. rw (e, cell-unset, none-freed unset, no_cell, valid_below unset (omega arith)) refl)
        (λ e. rw e (kept (word s (SelectorWord j)) (h (SelectorWord j) (rw (after-give (j / 2), e) at o)))))

honest_same : (s t : State) → s.pointers ≡ t.pointers → s.selectors ≡ t.selectors → s.status ≡ t.status → AllHonest s → AllHonest t
unfolding AllHonest
honest_same s t p q r h = rw (← p, ← q, ← r) h

-- ---- the cells that are still to be given out were never used
abbrev Unused : (ℕ → ℕ) → List RecordedCell → Type 0
Unused st l = Every (λ k. st k.0 ≡ never_used) l

number_apart : (c k : RecordedCell) → (c ≡ k → ⊥) → c.0 ≡ k.0 → ⊥
number_apart c k n e = n (ap (λ (i : ℕ). record { 0 = i }) e)

unused_set : (st st' : ℕ → ℕ) (c v : ℕ) (l : List RecordedCell) → ((k : ℕ) → st' k ≡ cond (eqb c k) v (st k)) → Every (λ k. c ≡ k.0 → ⊥) l → Unused st l → Unused st' l
unused_set st st' c v [] f a u = tt
unused_set st st' c v (k ∷ l) f a u = (rw (f k.0, ne_eqb c k.0 a.0) u.0, unused_set st st' c v l f a.1 u.1)

absent_live : (st : ℕ → ℕ) (c : ℕ) (l : List RecordedCell) → st c ≡ live → Unused st l → Every (λ k. c ≡ k.0 → ⊥) l
absent_live st c [] h u = tt
absent_live st c (k ∷ l) h u = (λ q. let z : st k.0 ≡ live = rw q at h in omega (arith, u.0), absent_live st c l h u.1)

-- what holds before each field
record Clean (s : State) (l : List RecordedCell) : Type 0 where
  inv : Inv s
  honest : AllHonest s
  unused : Unused (status_of s) l
  distinct : Distinct l

clean_give : (p : ℕ) (c : RecordedCell) (d : ℕ) (s : State) (l : List RecordedCell) → Clean s (c ∷ l) → p < 80 → c.0 < 1024
    → AllHonest (give p c.0 d s) × Unused (status_of (give p c.0 d s)) l × Distinct l
unfolding give
clean_give p c d s l C hp hc = (
  honest_give s p c.0 d C.inv.sized hp hc C.unused.0 C.honest,
  unused_set (status_of s) (status_of (give p c.0 d s)) c.0 live l (status_set s c.0 live C.inv.sized hc)
      (every_map (λ k. c ≡ k → ⊥) (λ k. c.0 ≡ k.0 → ⊥) l (number_apart c) C.distinct.0)
      C.unused.1,
  C.distinct.1,
)

clean_apply : (a : Change) (s : State) (l : List RecordedCell) → Clean s (gives a ++ l) → Named a → Clear (valid s) (frees a) → Clear (valid s) (through a) → Clear (points s) (through a)
    → AllHonest (apply a s) × Unused (status_of (apply a s)) l × Distinct l
unfolding write store
clean_apply Stay s l C n f v u = (C.honest, C.unused, C.distinct)
clean_apply (Allocate p c d) s l C n f v u = clean_give p c d s l C n.0 n.1
clean_apply (Release p) s l C n f v u = split (is_unset (pointer s p))
    (λ t. rw t (C.honest, C.unused, C.distinct))
    (λ t.
    let c : ℕ = cell_of (pointer s p) in
    let h : Live s c = freed-live s p C.inv f t in
    rw t (
      honest_free s c C.inv.sized h C.honest,
      unused_set (status_of s) (status_of (free c s)) c freed l (status_free s c C.inv.sized (live_below s c C.inv.sized h)) (absent_live (status_of s) c l h C.unused) C.unused,
      C.distinct,
    ))
clean_apply (Move x y) s l C n f v u =
    let e = every_cut (λ i. valid s i ≡ true) (pointer_through x) (pointer_through y) v in
    let h = every_cut (λ i. points s i ≡ true) (pointer_through x) (pointer_through y) u in
    (honest_write s (place s x) (place s y) C.inv.sized (found s x C.inv n.0 e.0 h.0).within (found s y C.inv n.1 e.1 h.1).owned C.honest, C.unused, C.distinct)
clean_apply (Put x w) s l C n f v u = (honest_same s (store (data_place s x) (value s w) s) refl refl refl C.honest, C.unused, C.distinct)

clean_step : (a : Act) (s : State) (l : List RecordedCell) → Clean s (gives a.change ++ l) → Named a.change → check a s ≡ Ok tt → Clean (effect a s) l
unfolding count_field
clean_step a s l C n e =
    let g = passed a s e in
    let k = looked a s g in
    let r = clean_apply a.change s l C n k.frees k.goes g.pointing in
    record { inv = keep a s C.inv n e; honest = honest_same (apply a.change s) (effect a s) refl refl refl r.0; unused = r.1; distinct = r.2 }

-- ---- a run: an outcome with its marks taken away
unfoldable pub unmarked_outcome : Outcome → Outcome
unmarked_outcome r = record { verdict = r.verdict; state = unmarked r.state }

unmarked_next : (x : Answer) (f : Field) (s : State) (r q : Outcome) → (x ≡ Ok tt → q ≡ unmarked_outcome r) → next x (unmarked s).fields f (unmarked s) q ≡ unmarked_outcome (next x s.fields f s r)
unfolding unmarked_outcome unmarked
unmarked_next (Ok _) f s r q h = h refl
unmarked_next (Err (Race v)) f s r q h = refl
unmarked_next (Err (Refuse v)) f s r q h = refl

unmarked_end : (end : End) (s : State) → end_verdict end (unmarked s) ≡ end_verdict end s
unfolding unmarked
unmarked_end whole s = refl
unmarked_end (unread r) s = refl

unmarked_run : (end : End) (fs : List Field) (s : State) → Clean s (given_by fs) → All NamedAct fs → run_plain_to end fs (unmarked s) ≡ unmarked_outcome (run_to end fs s)
unfolding unmarked_outcome
unmarked_run end [] s C a = ap (λ (v : Ending). record { verdict = v; state = unmarked s }) (unmarked_end end s)
unmarked_run end (f ∷ fs) s C a =
    rw (check_unmarked (act_of f) s C.honest, unmarked_apply (act_of f).change s a.0.1, unmarked_count_field (apply (act_of f).change s))
    (unmarked_next (check (act_of f) s) f s (run_to end fs (effect (act_of f) s)) (run_plain_to end fs (unmarked (effect (act_of f) s)))
    (λ e. unmarked_run end fs (effect (act_of f) s) (clean_step (act_of f) s (given_by fs) C a.0.1 e) a.1))

-- ---- from the start
unused_fresh : (l : List RecordedCell) → Unused (status_of fresh) l
unused_fresh [] = tt
unused_fresh (k ∷ l) = (status_fresh k.0, unused_fresh l)

honest_fresh : AllHonest fresh
unfolding AllHonest
honest_fresh = λ x o. rw (word-fresh x, status_fresh (cell_of unset), valid_below unset (omega arith)) refl

unmarked_fresh : unmarked fresh ≡ fresh
unfolding unmarked fresh cell_of
unmarked_fresh = refl

-- the outcome is the same but for the marks, stops included
pub plain_outcome : (end : End) (fs : List Field) → All NamedAct fs → Distinct (given_by fs) → run_plain_to end fs fresh ≡ unmarked_outcome (run_to end fs fresh)
plain_outcome end fs a d = rw unmarked_fresh at (unmarked_run end fs fresh (record { inv = inv_fresh; honest = honest_fresh; unused = unused_fresh (given_by fs); distinct = d }) a)

-- ---- the same, where no two mallocs that pass name one cell: those after the stop play no part
unmarked_passing : (end : End) (fs : List Field) (s : State) → Clean s (given_by (passing fs s)) → All NamedAct fs → run_plain_to end fs (unmarked s) ≡ unmarked_outcome (run_to end fs s)
unfolding unmarked_outcome
unmarked_passing end [] s C a = ap (λ (v : Ending). record { verdict = v; state = unmarked s }) (unmarked_end end s)
unmarked_passing end (f ∷ fs) s C a =
    rw (check_unmarked (act_of f) s C.honest, unmarked_apply (act_of f).change s a.0.1, unmarked_count_field (apply (act_of f).change s))
    (unmarked_next (check (act_of f) s) f s (run_to end fs (effect (act_of f) s)) (run_plain_to end fs (unmarked (effect (act_of f) s)))
    (λ e. unmarked_passing end fs (effect (act_of f) s) (clean_step (act_of f) s (given_by (passing fs (effect (act_of f) s))) (rw e at C) a.0.1 e) a.1))

clean_fresh : (l : List RecordedCell) → Distinct l → Clean fresh l
clean_fresh l d = record { inv = inv_fresh; honest = honest_fresh; unused = unused_fresh l; distinct = d }

pub plain_passing : (end : End) (fs : List Field) → All NamedAct fs → Distinct (given_by (passing fs fresh)) → run_plain_to end fs fresh ≡ unmarked_outcome (run_to end fs fresh)
plain_passing end fs a d = rw unmarked_fresh at (unmarked_passing end fs fresh (clean_fresh (given_by (passing fs fresh)) d) a)

-- ---- where no two mallocs of an accepted log name one cell, each gets a cell never used before
new_at : (fs : List Field) (s : State) (n k l : ℕ) → Clean s (given_by fs) → All NamedAct fs → (run fs s).verdict ≡ Accepted n k l → (i : ℕ) → i < length fs
    → Unused (status_of (run (take i fs) s).state) (gives (act_of (field_at fs i)).change)
new_at [] s n k l C a e i h = absurd (not-suc-le-zero h)
new_at (f ∷ fs) s n k l C a e zero h = (every_cut (λ c. status_of s c.0 ≡ never_used) (gives (act_of f).change) (given_by fs) C.unused).0
new_at (f ∷ fs) s n k l C a e (suc i) h =
    let here : check (act_of f) s ≡ Ok tt = next-accepted (check (act_of f) s) f s (run fs (effect (act_of f) s)) n k l e in
    rw here (new_at fs (effect (act_of f) s) n k l (clean_step (act_of f) s (given_by fs) C a.0.1 here) a.1 (rw here at e) i (le_of_suc-le-suc h))

pub new_cells : (fs : List Field) (n k l : ℕ) → All NamedAct fs → Distinct (given_by fs) → (run fs fresh).verdict ≡ Accepted n k l → NewCells fs
new_cells fs n k l a d e = new_at fs fresh n k l (clean_fresh (given_by fs) d) a e

-- ---- where no two of all mallocs do, no two of those that pass do
distinct_front : (l m : List RecordedCell) → Distinct (l ++ m) → Distinct l
distinct_front [] m d = tt
distinct_front (c ∷ l) m d = ((every_cut (λ k. c ≡ k → ⊥) l m d.0).0, distinct_front l m d.1)

-- the cells of the fields that pass are the first of all
given_front : (fs : List Field) (s : State) → (rest : List RecordedCell) × (given_by fs ≡ given_by (passing fs s) ++ rest)
given_front [] s = ([], refl)
given_front (f ∷ fs) s = by (check (act_of f) s) refl (given_front fs (effect (act_of f) s))
  where
    by : (x : Answer) → check (act_of f) s ≡ x → (rest : List RecordedCell) × (given_by fs ≡ given_by (passing fs (effect (act_of f) s)) ++ rest)
        → (rest : List RecordedCell) × (given_by (f ∷ fs) ≡ given_by (passing (f ∷ fs) s) ++ rest)
    by (Ok _) e later =
        let here = gives (act_of f).change in
        let passed = given_by (passing fs (effect (act_of f) s)) in
        rw e (later.0, ap (λ (l : List RecordedCell). here ++ l) later.1 ∙ sym (append_assoc here passed later.0))
    by (Err stop) e later = rw e (given_by (f ∷ fs), refl)

pub passing_distinct : (fs : List Field) (s : State) → Distinct (given_by fs) → Distinct (given_by (passing fs s))
passing_distinct fs s d = let front = given_front fs s in distinct_front (given_by (passing fs s)) front.0 (rw front.1 at d)
