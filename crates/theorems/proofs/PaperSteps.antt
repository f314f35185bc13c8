-- Source 004 beside the rules, one command: what passes is a step of the memory-managed semantics, and the state after it shows the
-- computation after it. Assumes nothing.
use Prim.Native.Nat.{◌*◌, ◌+◌, ◌<◌, ℕ}
use mathlib.Core.Path.{◌∙◌, ◌≡◌, ap, refl, sym}
use mathlib.Core.Bool.{Bool, ◌&&◌, ◌||◌, and-false, and-true, cond, false, or-false, or-true, true}
use mathlib.Core.List.{List, [], ◌∷◌}
use native.Mathlib.Omega.{arith}
use borrow.Author.Tests.{eqb-false, eqb-true}
use lib.Dec.{eqb}
use Rattle.fields.specs.declared.RecordedCell.{RecordedCell}
use Rattle.rules.specs.declared.PExp.TheVariants.{PointerVariable, SelectorOf}
use Rattle.rules.specs.declared.DExp.TheVariants.{DataOf, DataVariable}
use Rattle.rules.specs.declared.Value.TheVariants.{Held}
use Rattle.rules.specs.declared.Guard.{Guard}
use Rattle.rules.specs.declared.Change.TheVariants.{Allocate, Move, Put, Release}
use Rattle.rules.specs.declared.Place.TheVariants.{SelectorWord}
use Rattle.rules.specs.declared.DataPlace.{DataPlace}
use Rattle.rules.specs.declared.DataPlace.TheVariants.{CellNumber, VariableNumber}
use Rattle.rules.specs.Words.{cell_of, is_unset, is_valid}
use Rattle.rules.specs.State.{State, freed, never_used, number_at, pointer, status_of, store, word, write}
use Rattle.rules.specs.Acts.{frees}
use Rattle.rules.specs.Check.{as_wanted, holds, same_as_wanted}
use Rattle.rules.specs.Effect.{apply, free, give}
use Rattle.rules.specs.Matching.{Live}
use Rattle.theorems.specs.Paper.{Adr, Asgn-compute, Asgn-copy, Asgn-load, Asgn-read, Asgn-store, Asgn-write, Asrt, Assert, Com, Computation, Compute, Cond, Copy, DExp, Free, Free-rule, Heap, Load, Malloc, Malloc1, Malloc2, PExp, ReadData, Rule, Selector, Store, Update, Values, WriteData, cell, data_of, data_to, data_var, defined, freed_after, freed_in, heap_of, index, is_seg, next_of, next₀, next₁, passes, pointer_to, pointer_var, received, same_adr, same_d_exp, same_data, same_p_exp, same_pointers, seg, then, valid_after, valid_in, valid_next, wanted_is}
use Rattle.theorems.specs.Beside.{Asserts, NoSeg, Returns, Shows, adr_of, dval_of, is_allocated, is_there, place_of, pval_of, says_apart, says_equal, says_same, says_unequal, valid_of}
use Rattle.theorems.proofs.Basics.{eqb_self, eqb_turn, split}
use Rattle.theorems.proofs.States.{Within}
use Rattle.theorems.proofs.Passed.{Set}
use Rattle.theorems.proofs.Kept.{Inv, live_below, live-cell}
use Rattle.theorems.proofs.PaperReading.{Traced, adr_set, allocated_live, dval_cell, dval_free, dval_new, dval_used, dval_variable, freed-free, freed-give, mark_free, mark_give, mark_write, not_in_use, pval_free, pval_new, pval_used, pval_write}

-- an update with its rule, and what the state shows after it
pub record Stepped (τ : Computation) (thread : ℕ) (c : Com) (s : State) : Type 0 where
  pub up : List Update
  pub rule : Rule (heap_of τ) (freed_in τ) c up
  pub shows : Shows s (then τ (record { thread = thread; command = c; up = up }))

-- and the update returns the cell that is named
abbrev pub Returning : Computation → ℕ → List RecordedCell → Com → State → Type 0
Returning τ thread named c s = (st : Stepped τ thread c s) × Returns st.up named

received_cond : (b : Bool) (x e : PExp) (legal : PExp → Bool) → received b x legal e ≡ cond (same_p_exp x e) b (legal e)
received_cond true x e legal = split (same_p_exp x e) (λ t. rw (t, or-true (legal e)) refl) (λ t. rw (t, or-false (legal e)) refl)
received_cond false x e legal = split (same_p_exp x e) (λ t. rw (t, and-false (legal e)) refl) (λ t. rw (t, and-true (legal e)) refl)

wanted_same : (wanted found : Bool) → wanted_is wanted found ≡ as_wanted wanted found
wanted_same true found = refl
wanted_same false found = refl

-- two set words compare as their addresses do; where one is unset, the paper passes every assertion
abbrev comparison : Bool → ℕ → ℕ → Bool
comparison wanted v w = is_seg (defined (adr_of v)) || is_seg (defined (adr_of w)) || wanted_is wanted (same_adr (defined (adr_of v)) (defined (adr_of w)))

compared_same : (wanted : Bool) (v w : ℕ) → is_unset v ≡ false → is_unset w ≡ false → comparison wanted v w ≡ same_as_wanted wanted v w
unfolding same_as_wanted
compared_same wanted v w e f = rw (e, f, wanted_same wanted (eqb (cell_of w) (cell_of v)), eqb_turn (cell_of w) (cell_of v)) refl

compared_passed : (wanted : Bool) (v w : ℕ) → same_as_wanted wanted v w ≡ true → comparison wanted v w ≡ true
compared_passed wanted v w h = split (is_unset v)
    (λ e. rw e refl)
    (λ e. split (is_unset w)
    (λ f. rw (e, f) refl)
    (λ f. compared_same wanted v w e f ∙ h))

module _ (τ : Computation) (s : State) (H : Shows s τ) where
  pointers_compared : (wanted : Bool) (p q : ℕ) → passes wanted (heap_of τ) (same_pointers p q) ≡ comparison wanted (pointer s p) (pointer s q)
  pointers_compared wanted p q = rw (H.pointers (pointer_var p), H.pointers (pointer_var q)) refl

  same_data_pass : (wanted : Bool) (x y : ℕ) → passes wanted (heap_of τ) (same_data x y) ≡ as_wanted wanted (eqb (number_at s.variables x) (number_at s.variables y))
  same_data_pass wanted x y = rw (H.numbers (data_var x), H.numbers (data_var y)) (wanted_same wanted (eqb (number_at s.variables x) (number_at s.variables y)))

  -- an assertion that holds passes in the paper
  pub guard_passed : (g : Guard) (k : Cond) → Asserts g k → holds s g ≡ true → passes true (heap_of τ) k ≡ true
  guard_passed g k (says_same {p} {q}) h = pointers_compared true p q ∙ compared_passed true (pointer s p) (pointer s q) h
  guard_passed g k (says_apart {p} {q}) h = pointers_compared false p q ∙ compared_passed false (pointer s p) (pointer s q) h
  guard_passed g k (says_equal {x} {y}) h = same_data_pass true x y ∙ h
  guard_passed g k (says_unequal {x} {y}) h = same_data_pass false x y ∙ h

  -- and where it compares no unset pointer, it holds if and only if it passes
  pub guard_passes : (g : Guard) (k : Cond) → Asserts g k → NoSeg s g → passes true (heap_of τ) k ≡ holds s g
  guard_passes g k (says_same {p} {q}) n = pointers_compared true p q ∙ compared_same true (pointer s p) (pointer s q) n.0 n.1
  guard_passes g k (says_apart {p} {q}) n = pointers_compared false p q ∙ compared_same false (pointer s p) (pointer s q) n.0 n.1
  guard_passes g k (says_equal {x} {y}) n = same_data_pass true x y
  guard_passes g k (says_unequal {x} {y}) n = same_data_pass false x y

  -- an assertion changes nothing
  pub shows_assert : (thread : ℕ) (k : Cond) (up : List Update) → Rule (heap_of τ) (freed_in τ) (Assert k) up → Shows s (then τ (record { thread = thread; command = Assert k; up = up }))
  shows_assert thread k up (Asrt e) = record { pointers = H.pointers; numbers = H.numbers; marks = H.marks; frees = H.frees }

module _ (τ : Computation) (s : State) (thread : ℕ) (H : Shows s τ) (I : Inv s) (T : Traced (word s) (status_of s)) where
  -- ---- what the paper's heap has, where a pointer is valid and set
  points_at : (p : ℕ) → Set s p → (heap_of τ).pval (pointer_var p) ≡ defined (cell (cell_of (pointer s p)))
  points_at p t = H.pointers (pointer_var p) ∙ ap (λ (b : Adr). defined b) (adr_set (pointer s p) t.pointing)

  cell_allocated : (p : ℕ) → Set s p → is_allocated s (cell_of (pointer s p)) ≡ true
  cell_allocated p t = allocated_live s (cell_of (pointer s p)) (live-cell s p I t)

  next-value : (p : ℕ) (i : Selector) → Set s p → (heap_of τ).pval (next_of (cell_of (pointer s p)) i) ≡ defined (adr_of (word s (SelectorWord (2 * cell_of (pointer s p) + index i))))
  next-value p i t = H.pointers (next_of (cell_of (pointer s p)) i) ∙ rw (cell_allocated p t) refl

  -- ---- a pointer expression takes a word
  moved : (c : Com) (x : PExp) (w : ℕ) → Within (place_of x) → is_there s x ≡ true
      → ((e : PExp) → valid_after c (heap_of τ) (valid_in τ) e ≡ cond (same_p_exp x e) (is_valid w) (valid_in τ e))
      → ((h : Heap) (a : ℕ) → freed_after c (heap_of τ) h (freed_in τ) a ≡ freed_in τ a)
      → Shows (write (place_of x) w s) (then τ (record { thread = thread; command = c; up = pointer_to x (adr_of w) ∷ [] }))
  unfolding write
  moved c x w within there marks frees = record {
    pointers = λ e. rw (H.pointers e) (sym (pval_write s x w I.sized within there e));
    numbers = λ e. H.numbers e ∙ same_data_lem e;
    marks = λ e. marks e ∙ rw (H.marks e) (sym (mark_write s x w I.sized within there e));
    frees = λ a. frees (heap_of (then τ (record { thread = thread; command = c; up = pointer_to x (adr_of w) ∷ [] }))) a ∙ H.frees a;
  }
    where
      same_data_lem : (e : DExp) → dval_of s e ≡ dval_of (write (place_of x) w s) e
      same_data_lem (data_var y) = refl
      same_data_lem (data_of a) = refl

  pub step_copy : (p q : ℕ) → p < 80 → Stepped τ thread (Copy p q) (apply (Move (PointerVariable p) (PointerVariable q)) s)
  step_copy p q hp = record {
    up = pointer_to (pointer_var p) (adr_of (pointer s q)) ∷ [];
    rule = Asgn-copy (H.pointers (pointer_var q));
    shows = moved (Copy p q) (pointer_var p) (pointer s q) hp refl (λ e. received_cond (valid_in τ (pointer_var q)) (pointer_var p) e (valid_in τ) ∙ rw (H.marks (pointer_var q)) refl) (λ h a. refl);
  }

  pub step_load : (p q : ℕ) (i : Selector) → p < 80 → Set s q → Stepped τ thread (Load p q i) (apply (Move (PointerVariable p) (SelectorOf q (index i))) s)
  step_load p q i hp t =
      let w : ℕ = word s (SelectorWord (2 * cell_of (pointer s q) + index i)) in
      let passed_on : (valid_in τ (pointer_var q) && valid_next ((heap_of τ).pval (pointer_var q)) i (valid_in τ)) ≡ is_valid w = rw (points_at q t, H.marks (pointer_var q), t.valid) (H.marks (next_of (cell_of (pointer s q)) i)) in
      record {
        up = pointer_to (pointer_var p) (adr_of w) ∷ [];
        rule = Asgn-load (points_at q t) (next-value q i t);
        shows = moved (Load p q i) (pointer_var p) w hp refl (λ e. rw passed_on (received_cond (is_valid w) (pointer_var p) e (valid_in τ))) (λ h a. refl);
      }

  pub step_store : (p : ℕ) (i : Selector) (q : ℕ) → Set s p → Within (SelectorWord (2 * cell_of (pointer s p) + index i)) → Stepped τ thread (Store p i q) (apply (Move (SelectorOf p (index i)) (PointerVariable q)) s)
  step_store p i q t within =
      let a : ℕ = cell_of (pointer s p) in
      record {
        up = pointer_to (next_of a i) (adr_of (pointer s q)) ∷ [];
        rule = Asgn-store (points_at p t) (H.pointers (pointer_var q));
        shows = moved (Store p i q) (next_of a i) (pointer s q) within (cell_allocated p t) (λ e. rw (points_at p t) (received_cond (valid_in τ (pointer_var q)) (next_of a i) e (valid_in τ) ∙ rw (H.marks (pointer_var q)) refl)) (λ h b. refl);
      }

  -- ---- a data expression takes a number
  stored : (c : Com) (x : DExp) (y : DataPlace) (n : ℕ) → ((e : DExp) → dval_of (store y n s) e ≡ cond (same_d_exp x e) (defined n) (dval_of s e))
      → ((e : PExp) → valid_after c (heap_of τ) (valid_in τ) e ≡ valid_in τ e)
      → ((h : Heap) (a : ℕ) → freed_after c (heap_of τ) h (freed_in τ) a ≡ freed_in τ a)
      → Shows (store y n s) (then τ (record { thread = thread; command = c; up = data_to x n ∷ [] }))
  unfolding store
  stored c x y n numbers marks frees = record {
    pointers = λ e. H.pointers e ∙ same_pointers_lem e;
    numbers = λ e. rw (H.numbers e) (sym (numbers e));
    marks = λ e. marks e ∙ H.marks e ∙ same_marks e;
    frees = λ a. frees (heap_of (then τ (record { thread = thread; command = c; up = data_to x n ∷ [] }))) a ∙ H.frees a;
  }
    where
      same_pointers_lem : (e : PExp) → pval_of s e ≡ pval_of (store y n s) e
      same_pointers_lem (pointer_var p) = refl
      same_pointers_lem (next_of a i) = refl

      same_marks : (e : PExp) → valid_of s e ≡ valid_of (store y n s) e
      same_marks (pointer_var p) = refl
      same_marks (next_of a i) = refl

  pub step_read : (x p : ℕ) → x < 80 → Set s p → Stepped τ thread (ReadData x p) (apply (Put (DataVariable x) (Held (DataOf p))) s)
  step_read x p hx t =
      let n : ℕ = number_at s.numbers (cell_of (pointer s p)) in
      let held : (heap_of τ).dval (data_of (cell_of (pointer s p))) ≡ defined n = H.numbers (data_of (cell_of (pointer s p))) ∙ rw (cell_allocated p t) refl in
      record {
        up = data_to (data_var x) n ∷ [];
        rule = Asgn-read (points_at p t) held;
        shows = stored (ReadData x p) (data_var x) (VariableNumber x) n (λ e. dval_variable s x n e I.sized hx) (λ e. refl) (λ h a. refl);
      }

  pub step_write : (p x : ℕ) → Set s p → Stepped τ thread (WriteData p x) (apply (Put (DataOf p) (Held (DataVariable x))) s)
  step_write p x t =
      let a : ℕ = cell_of (pointer s p) in
      let n : ℕ = number_at s.variables x in
      let l : Live s a = live-cell s p I t in
      record {
        up = data_to (data_of a) n ∷ [];
        rule = Asgn-write (points_at p t) (H.numbers (data_var x));
        shows = stored (WriteData p x) (data_of a) (CellNumber a) n (λ e. dval_cell s a n e I.sized l (live_below s a I.sized l)) (λ e. refl) (λ h b. refl);
      }

  pub step_compute : (x n : ℕ) (op : List ℕ → ℕ) (xs vs : List ℕ) → x < 80 → Values (heap_of τ) xs vs → op vs ≡ n → Stepped τ thread (Compute x op xs) (store (VariableNumber x) n s)
  step_compute x n op xs vs hx given e = record {
    up = data_to (data_var x) (op vs) ∷ [];
    rule = Asgn-compute vs given;
    shows = rw e (stored (Compute x op xs) (data_var x) (VariableNumber x) n (λ q. dval_variable s x n q I.sized hx) (λ q. refl) (λ h a. refl));
  }

  -- ---- a free: (Free) has no constraint and no update
  pub step_free : (p : ℕ) → is_valid (pointer s p) ≡ true → Stepped τ thread (Free p) (apply (Release p) s)
  step_free p ok = split (is_unset (pointer s p))
      (λ e. rw e (unset-free e))
      (λ e. rw e (set_free e))
    where
      unset-free : is_unset (pointer s p) ≡ true → Stepped τ thread (Free p) s
      unset-free e =
          let nowhere : (heap_of τ).pval (pointer_var p) ≡ defined seg = H.pointers (pointer_var p) ∙ rw e refl in
          record {
            up = [];
            rule = Free-rule;
            shows = record {
              pointers = H.pointers;
              numbers = H.numbers;
              marks = λ q. rw (nowhere, and-true (valid_in τ q)) (H.marks q);
              frees = λ a. rw (nowhere, or-false (freed_in τ a)) (H.frees a);
            };
          }

      set_free : is_unset (pointer s p) ≡ false → Stepped τ thread (Free p) (free (cell_of (pointer s p)) s)
      set_free e =
          let c : ℕ = cell_of (pointer s p) in
          let t : Set s p = record { valid = ok; pointing = e } in
          let l : Live s c = live-cell s p I t in
          let hc : c < 1024 = live_below s c I.sized l in
          let z = I.sized in
          record {
            up = [];
            rule = Free-rule;
            shows = record {
              pointers = λ q. H.pointers q ∙ sym (pval_free s c z T l hc q);
              numbers = λ q. H.numbers q ∙ sym (dval_free s c z T l hc q);
              marks = λ q. rw (points_at p t, H.marks q, H.pointers q) (sym (mark_free s c z T l hc q));
              frees = λ a. rw (points_at p t, H.frees a) (sym (freed-free s c z T l hc a));
            };
          }

  -- ---- a malloc, by (Malloc1) or (Malloc2). The paper leaves the choice of the address and of a new cell's data open; the log names both
  module _ (p d : ℕ) (r : RecordedCell) (hp : p < 80) (hc : r.0 < 1024) where
    abbrev c : ℕ
    c = r.0

    step_new : status_of s c ≡ never_used → Returning τ thread (r ∷ []) (Malloc p) (give p c d s)
    step_new new =
        let z = I.sized in
        let ups : List Update = pointer_to (pointer_var p) (cell c) ∷ data_to (data_of c) d ∷ pointer_to (next_of c next₀) seg ∷ pointer_to (next_of c next₁) seg ∷ [] in
        let st : Stepped τ thread (Malloc p) (give p c d s) = record {
          up = ups;
          rule = Malloc1 (not_in_use s c T hc (heap_of τ) H.pointers H.numbers new);
          shows = record {
            pointers = λ e. rw (H.pointers e) (sym (pval_new s p c d z hp hc new e));
            numbers = λ e. rw (H.numbers e) (sym (dval_new s p c d z hp hc new e));
            marks = λ e. rw (H.marks e) (sym (mark_give s p c d z hp hc T e));
            frees = λ a. rw (eqb_self p, H.frees a) (sym (freed-give s p c d z hp hc a));
          };
        } in
        (st, (refl, tt))

    step_used : status_of s c ≡ freed → Returning τ thread (r ∷ []) (Malloc p) (give p c d s)
    step_used old =
        let z = I.sized in
        let st : Stepped τ thread (Malloc p) (give p c d s) = record {
          up = pointer_to (pointer_var p) (cell c) ∷ [];
          rule = Malloc2 (H.frees c ∙ rw old refl);
          shows = record {
            pointers = λ e. rw (H.pointers e) (sym (pval_used s p c d z hp hc old e));
            numbers = λ e. H.numbers e ∙ sym (dval_used s p c d z hp hc old e);
            marks = λ e. rw (H.marks e) (sym (mark_give s p c d z hp hc T e));
            frees = λ a. rw (eqb_self p, H.frees a) (sym (freed-give s p c d z hp hc a));
          };
        } in
        (st, (refl, tt))

    pub step_malloc : (Live s c → ⊥) → Returning τ thread (r ∷ []) (Malloc p) (apply (Allocate p r d) s)
    step_malloc nl = split (eqb (status_of s c) never_used)
        (λ e. step_new (eqb-true (status_of s c) never_used e))
        (λ e. step_used (omega (arith, eqb-false (status_of s c) never_used e, I.sound.kinds c, nl)))
