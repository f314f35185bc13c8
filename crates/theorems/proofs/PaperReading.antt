-- Source 004 beside the rules: what its heap, its valid expressions and its freed addresses are in the state after each effect.
-- Assumes nothing.
use Prim.Native.Nat.{◌*◌, ◌+◌, ◌/◌, ◌<◌, ℕ}
use mathlib.Core.Path.{◌∙◌, ◌≡◌, ap, refl, sym}
use mathlib.Core.Bool.{Bool, ◌&&◌, ◌||◌, and-eq-true_iff, and-false, and-true, cond, false, not, or-false, or-true, true}
use mathlib.Core.Logic.{inl, inr}
use native.Mathlib.Omega.{arith}
use borrow.Author.Tests.{eq-eqb, eqb-false, eqb-true, ne_eqb, not-false}
use lib.Dec.{eqb}
use Rattle.fields.proofs.Passing.{either}
use Rattle.rules.specs.declared.Place.{Place}
use Rattle.rules.specs.declared.Place.TheVariants.{PointerWord, SelectorWord}
use Rattle.rules.specs.declared.DataPlace.TheVariants.{CellNumber, VariableNumber}
use Rattle.rules.specs.Words.{after_free, cell_of, is_unset, is_valid, unset}
use Rattle.rules.specs.State.{State, freed, live, never_used, number_at, pointer, status_of, store, word, write}
use Rattle.rules.specs.Effect.{free, give}
use Rattle.rules.specs.Replay.{starting_data}
use Rattle.rules.specs.Matching.{Live, Owned}
use Rattle.theorems.specs.Paper.{Adr, DExp, Heap, InUse, PExp, Partial, Selector, cell, data_of, data_var, defined, index, is_next_of, next_of, next₀, next₁, pointer_var, points_to, same_d_exp, same_p_exp, seg, undefined}
use Rattle.theorems.specs.Beside.{adr_of, dval_of, freed_of, is_allocated, is_there, place_of, pval_of, valid_of}
use Rattle.theorems.proofs.Basics.{clash, eqb_self, eqb_turn, get_or-set, split}
use Rattle.theorems.proofs.Words.{after_free-unset, cell_freed_at, cell_small, cell-unset, freed_at, unset_freed_at, unset-unset, valid_below, valid-invalidated}
use Rattle.theorems.proofs.States.{Sized, Within, cleared_at, eq_place, status_free, status_set, word-free, word-give, word_write}
use Rattle.theorems.proofs.Sound.{owned}
use Rattle.theorems.proofs.Effects.{cell-give, starting_data_new}

-- a state of which no selector of a never-used cell was written, and no word holds a never-used cell
pub record Traced (w : Place → ℕ) (st : ℕ → ℕ) : Type 0 where
  pub unwritten : (j : ℕ) → st (j / 2) ≡ never_used → w (SelectorWord j) ≡ unset
  pub used : (x : Place) → is_unset (w x) ≡ false → st (cell_of (w x)) ≡ never_used → ⊥

pub traced_write : {w w' : Place → ℕ} {st : ℕ → ℕ} (x y : Place) → Traced w st → Owned st x → ((u : Place) → w' u ≡ cond (eq_place x u) (w y) (w u)) → Traced w' st
traced_write {w} {w'} {st} x y T o e = record {
  unwritten = λ j h. split (eq_place x (SelectorWord j))
      (λ t. absurd (let z : st (j / 2) ≡ live = owned st x j o t in omega arith))
      (λ t. rw (e (SelectorWord j), t) (T.unwritten j h));
  used = λ u. rw (e u) (either (λ v. is_unset v ≡ false → st (cell_of v) ≡ never_used → ⊥) (eq_place x u) (T.used y) (T.used u));
}

-- a cell that is never used after its status was put to another was never used before, and is another cell
still_unused : (st st' : ℕ → ℕ) (c v k : ℕ) → (v ≡ never_used → ⊥) → ((i : ℕ) → st' i ≡ cond (eqb c i) v (st i)) → st' k ≡ never_used → (eqb c k ≡ false) × (st k ≡ never_used)
still_unused st st' c v k n f h = split (eqb c k)
    (λ t. absurd (n (sym (rw (f k, t) refl) ∙ h)))
    (λ t. (t, rw (f k, t) at h))

pub traced_give : {w w' : Place → ℕ} {st st' : ℕ → ℕ} (p c : ℕ) → Traced w st → cell_of c ≡ c
    → ((u : Place) → w' u ≡ cond (eq_place (PointerWord p) u) c (cleared_at st c u (w u))) → ((k : ℕ) → st' k ≡ cond (eqb c k) live (st k)) → Traced w' st'
traced_give {w} {w'} {st} {st'} p c T itself e f = record {
  unwritten = λ j h. let q = before (j / 2) h in rw (e (SelectorWord j), q.0, and-false (eqb (st c) never_used)) (T.unwritten j q.1);
  used = λ u. rw (e u) (either Used (eq_place (PointerWord p) u) given (cleared u));
}
  where
    Used : ℕ → Type 0
    Used v = is_unset v ≡ false → st' (cell_of v) ≡ never_used → ⊥

    before : (k : ℕ) → st' k ≡ never_used → (eqb c k ≡ false) × (st k ≡ never_used)
    before k h = still_unused st st' c live k (λ q. omega arith) f h

    given : Used c
    given = λ n h. clash (eqb_self c) (rw itself at (before (cell_of c) h).0)

    kept : (u : Place) → Used (w u)
    kept u = λ n h. T.used u n (before (cell_of (w u)) h).1

    cleared : (u : Place) → Used (cleared_at st c u (w u))
    cleared (PointerWord i) = kept (PointerWord i)
    cleared (SelectorWord j) = either Used (eqb (st c) never_used && eqb c (j / 2)) (λ n h. clash unset-unset n) (kept (SelectorWord j))

pub traced_free : {w w' : Place → ℕ} {st st' : ℕ → ℕ} (c : ℕ) → Traced w st → c < 1024
    → ((u : Place) → w' u ≡ freed_at c u (w u)) → ((k : ℕ) → st' k ≡ cond (eqb c k) freed (st k)) → Traced w' st'
traced_free {w} {w'} {st} {st'} c T hc e f = record {
  unwritten = λ j h. let q = before (j / 2) h in rw (e (SelectorWord j), q.0, T.unwritten j q.1) (after_free-unset c hc);
  used = λ u n h. T.used u (rw (e u, unset_freed_at c u (w u)) at n) (before (cell_of (w u)) (rw (e u, cell_freed_at c u (w u)) at h)).1;
}
  where
    before : (k : ℕ) → st' k ≡ never_used → (eqb c k ≡ false) × (st k ≡ never_used)
    before k h = still_unused st st' c freed k (λ q. omega arith) f h

-- ---- addresses and places
adr_unset : adr_of unset ≡ seg
adr_unset = rw unset-unset refl

adr_cell : (c : ℕ) → c < 1024 → adr_of c ≡ cell c
unfolding is_unset
adr_cell c h = rw (cell_small c h, ne_eqb c 1024 (λ q. omega arith)) refl

pub adr_set : (w : ℕ) → is_unset w ≡ false → adr_of w ≡ cell (cell_of w)
adr_set w e = rw e refl

index_below : (i : Selector) → index i < 2
index_below next₀ = omega arith
index_below next₁ = omega arith

pub half : (a : ℕ) (i : Selector) → (2 * a + index i) / 2 ≡ a
half a i = omega (arith, index_below i)

same_place : (e q : PExp) → eq_place (place_of e) (place_of q) ≡ same_p_exp e q
same_place (pointer_var p) (pointer_var q) = refl
same_place (pointer_var p) (next_of b j) = refl
same_place (next_of a i) (pointer_var q) = refl
same_place (next_of a i) (next_of b j) = split (eqb a b)
    (λ e. split (eqb (index i) (index j))
    (λ f. rw (e, f) (eq-eqb (2 * a + index i) (2 * b + index j) (omega (arith, eqb-true a b e, eqb-true (index i) (index j) f))))
    (λ f. rw (e, f) (ne_eqb (2 * a + index i) (2 * b + index j) (λ q. eqb-false (index i) (index j) f (omega (arith, eqb-true a b e))))))
    (λ e. rw e (ne_eqb (2 * a + index i) (2 * b + index j) (λ q. eqb-false a b e (omega (arith, index_below i, index_below j)))))

-- ---- a word after a copy to the place of an expression that is there
same_there : (s : State) (e q : PExp) → same_p_exp e q ≡ true → is_there s e ≡ true → is_there s q ≡ true
same_there s (pointer_var p) (pointer_var q) t h = refl
same_there s (pointer_var p) (next_of b j) t h = clash t refl
same_there s (next_of a i) (pointer_var q) t h = refl
same_there s (next_of a i) (next_of b j) t h = rw (eqb-true a b ((and-eq-true_iff (eqb a b) (eqb (index i) (index j))).0 t).0) at h

module _ (s : State) (x : PExp) (w : ℕ) (z : Sized s) (within : Within (place_of x)) (there : is_there s x ≡ true) where
  word_at : (e : PExp) → word (write (place_of x) w s) (place_of e) ≡ cond (same_p_exp x e) w (word s (place_of e))
  word_at e = rw (← (same_place x e)) (word_write s (place_of x) (place_of e) w z within)

  still_there : (e : PExp) → is_there (write (place_of x) w s) e ≡ is_there s e
  unfolding write
  still_there (pointer_var p) = refl
  still_there (next_of a i) = refl

  pub pval_write : (e : PExp) → pval_of (write (place_of x) w s) e ≡ cond (same_p_exp x e) (defined (adr_of w)) (pval_of s e)
  pval_write e = rw (still_there e, word_at e) (split (same_p_exp x e)
      (λ t. rw (t, same_there s x e t there) refl)
      (λ t. rw t refl))

  pub mark_write : (e : PExp) → valid_of (write (place_of x) w s) e ≡ cond (same_p_exp x e) (is_valid w) (valid_of s e)
  mark_write e = rw (word_at e) (split (same_p_exp x e) (λ t. rw t refl) (λ t. rw t refl))

-- ---- data after a store
pub dval_variable : (s : State) (x n : ℕ) (e : DExp) → Sized s → x < 80 → dval_of (store (VariableNumber x) n s) e ≡ cond (same_d_exp (data_var x) e) (defined n) (dval_of s e)
unfolding store
dval_variable s x n (data_var y) z h = rw (get_or-set s.variables x y n 0 (omega (arith, z.variables))) (split (eqb x y) (λ t. rw t refl) (λ t. rw t refl))
dval_variable s x n (data_of a) z h = refl

pub allocated_live : (s : State) (a : ℕ) → Live s a → is_allocated s a ≡ true
allocated_live s a h = rw h refl

pub dval_cell : (s : State) (a n : ℕ) (e : DExp) → Sized s → Live s a → a < 1024 → dval_of (store (CellNumber a) n s) e ≡ cond (same_d_exp (data_of a) e) (defined n) (dval_of s e)
unfolding store
dval_cell s a n (data_var y) z l h = refl
dval_cell s a n (data_of b) z l h = rw (get_or-set s.numbers a b n 0 (omega (arith, z.numbers))) (split (eqb a b)
    (λ t.
    let there : is_allocated s b ≡ true = allocated_live s b (rw (eqb-true a b t) at l) in
    rw (t, there) refl)
    (λ t. rw t refl))

pub no_value : {A : Type 0} {x : A} → undefined ≡ defined x → ⊥
no_value e = cc

pub same_address : {a b : ℕ} → defined (cell a) ≡ defined (cell b) → a ≡ b
same_address e = cc

pub no_address : {a : ℕ} → defined seg ≡ defined (cell a) → ⊥
no_address e = cc

-- ---- a word holds the cell c exactly where the expression points to it
module _ (s : State) (c : ℕ) (T : Traced (word s) (status_of s)) (hc : c < 1024) where
  points_to_lem : (e : PExp) → points_to (pval_of s e) c ≡ eqb c (cell_of (word s (place_of e)))
  unfolding is_unset
  points_to_lem e = split (is_there s e)
      (λ t. rw t (split (is_unset (word s (place_of e)))
      (λ u. rw (u, eqb-true (cell_of (word s (place_of e))) unset u) (sym (ne_eqb c unset (λ q. omega arith))))
      (λ u. rw u (eqb_turn (cell_of (word s (place_of e))) c))))
      (λ t. rw (t, absent e t, cell-unset) (sym (ne_eqb c unset (λ q. omega arith))))
    where
      absent : (e : PExp) → is_there s e ≡ false → word s (place_of e) ≡ unset
      absent (pointer_var p) t = clash refl t
      absent (next_of a i) t = T.unwritten (2 * a + index i) (rw (half a i) (eqb-true (status_of s a) never_used (not-false (eqb (status_of s a) never_used) t)))

  -- a cell never used is not in use
  pub not_in_use : (h : Heap) → ((e : PExp) → h.pval e ≡ pval_of s e) → ((e : DExp) → h.dval e ≡ dval_of s e) → status_of s c ≡ never_used → InUse h c → ⊥
  unfolding is_unset
  not_in_use h pointers numbers new (inl q) = no_value (rw new at (sym (pointers (next_of c q.0)) ∙ q.1.is))
  not_in_use h pointers numbers new (inr (inl q)) =
      let held : eqb c (cell_of (word s (place_of q.0))) ≡ true = sym (points_to_lem q.0) ∙ ap (λ (v : Partial Adr). points_to v c) (sym (pointers q.0) ∙ q.1) ∙ eqb_self c in
      let same : c ≡ cell_of (word s (place_of q.0)) = eqb-true c (cell_of (word s (place_of q.0))) held in
      T.used (place_of q.0) (ne_eqb (cell_of (word s (place_of q.0))) unset (λ u. omega arith)) (rw (← same) new)
  not_in_use h pointers numbers new (inr (inr q)) = no_value (rw new at (sym (numbers (data_of c)) ∙ q.is))

-- ---- after a free of the live cell c
module _ (s : State) (c : ℕ) (z : Sized s) (T : Traced (word s) (status_of s)) (l : Live s c) (hc : c < 1024) where
  free_there : (e : PExp) → is_there (free c s) e ≡ is_there s e
  free_there (pointer_var p) = refl
  free_there (next_of a i) = rw (status_free s c z hc a) (split (eqb c a)
      (λ t.
      let there : is_allocated s a ≡ true = allocated_live s a (rw (eqb-true c a t) at l) in
      rw (t, there) refl)
      (λ t. rw t refl))

  adr_free : (x : Place) → adr_of (word (free c s) x) ≡ adr_of (word s x)
  adr_free x = rw (word-free s c x z hc, unset_freed_at c x (word s x), cell_freed_at c x (word s x)) refl

  pub pval_free : (e : PExp) → pval_of (free c s) e ≡ pval_of s e
  pval_free e = rw (free_there e, adr_free (place_of e)) refl

  pub dval_free : (e : DExp) → dval_of (free c s) e ≡ dval_of s e
  dval_free (data_var x) = unfold free in refl
  dval_free (data_of a) = unfold free in (ap (λ (b : Bool). cond b (defined (number_at s.numbers a)) undefined) (free_there (next_of a next₀)))

  valid-after_free : (w : ℕ) → is_valid (after_free c w) ≡ is_valid w && not (eqb c (cell_of w) || false)
  unfolding after_free
  valid-after_free w = split (eqb c (cell_of w))
      (λ t. rw (t, valid-invalidated w) (sym (and-false (is_valid w))))
      (λ t. rw t (sym (and-true (is_valid w))))

  pub mark_free : (e : PExp) → valid_of (free c s) e ≡ valid_of s e && not (points_to (pval_of s e) c || is_next_of c e)
  mark_free (pointer_var p) = rw (points_to_lem s c T hc (pointer_var p), word-free s c (PointerWord p) z hc) (valid-after_free (pointer s p))
  mark_free (next_of a i) =
      let x = SelectorWord (2 * a + index i) in
      rw (points_to_lem s c T hc (next_of a i), word-free s c x z hc, half a i) (split (eqb c a)
      (λ t. rw (t, eqb_turn a c, t, or-true (eqb c (cell_of (word s x))), valid-invalidated (word s x)) (sym (and-false (is_valid (word s x)))))
      (λ t. rw (t, eqb_turn a c, t) (valid-after_free (word s x))))

  pub freed-free : (a : ℕ) → freed_of (free c s) a ≡ freed_of s a || eqb c a
  freed-free a = rw (status_free s c z hc a) (split (eqb c a)
      (λ t. rw (t, or-true (freed_of s a)) refl)
      (λ t. rw (t, or-false (freed_of s a)) refl))

-- ---- after a malloc of cell c into p
module _ (s : State) (p c d : ℕ) (z : Sized s) (hp : p < 80) (hc : c < 1024) where
  give_status : (k : ℕ) → status_of (give p c d s) k ≡ cond (eqb c k) live (status_of s k)
  unfolding give
  give_status k = status_set s c live z hc k

  given_pointer : (q : ℕ) → pval_of (give p c d s) (pointer_var q) ≡ cond (eqb p q) (defined (cell c)) (pval_of s (pointer_var q))
  given_pointer q = rw (word-give s p c d (PointerWord q) z hp hc) (split (eqb p q)
      (λ t. rw t (ap (λ (b : Adr). defined b) (adr_cell c hc)))
      (λ t. rw t refl))

  -- (Malloc1): the cell was never used
  new_selector : (a : ℕ) (i : Selector) → status_of s c ≡ never_used → pval_of (give p c d s) (next_of a i) ≡ cond (eqb c a) (defined seg) (pval_of s (next_of a i))
  new_selector a i new = rw (give_status a, word-give s p c d (SelectorWord (2 * a + index i)) z hp hc, half a i, new) (split (eqb c a)
      (λ t. rw t (ap (λ (b : Adr). defined b) adr_unset))
      (λ t. rw t refl))

  pub pval_new : status_of s c ≡ never_used → (e : PExp)
      → pval_of (give p c d s) e ≡ cond (same_p_exp (next_of c next₁) e) (defined seg) (cond (same_p_exp (next_of c next₀) e) (defined seg) (cond (same_p_exp (pointer_var p) e) (defined (cell c)) (pval_of s e)))
  pval_new new (pointer_var q) = given_pointer q
  pval_new new (next_of a next₀) = new_selector a next₀ new ∙ rw (and-false (eqb c a), and-true (eqb c a)) refl
  pval_new new (next_of a next₁) = new_selector a next₁ new ∙ rw (and-false (eqb c a), and-true (eqb c a)) refl

  pub dval_new : status_of s c ≡ never_used → (e : DExp) → dval_of (give p c d s) e ≡ cond (same_d_exp (data_of c) e) (defined d) (dval_of s e)
  dval_new new (data_var x) = unfold give in refl
  dval_new new (data_of a) = rw (give_status a, cell-give s p c d a z hc, starting_data_new s (record { 0 = c }) d new) (split (eqb c a)
      (λ t. rw t refl)
      (λ t. rw t refl))

  -- (Malloc2): the cell was freed
  was_allocated : (a : ℕ) → status_of s c ≡ freed → eqb c a ≡ true → is_allocated s a ≡ true
  was_allocated a old t = let same : status_of s a ≡ freed = rw (eqb-true c a t) at old in rw same refl

  pub pval_used : status_of s c ≡ freed → (e : PExp) → pval_of (give p c d s) e ≡ cond (same_p_exp (pointer_var p) e) (defined (cell c)) (pval_of s e)
  pval_used old (pointer_var q) = given_pointer q
  pval_used old (next_of a i) = rw (give_status a, word-give s p c d (SelectorWord (2 * a + index i)) z hp hc, old) (split (eqb c a)
      (λ t. rw (t, was_allocated a old t) refl)
      (λ t. rw t refl))

  pub dval_used : status_of s c ≡ freed → (e : DExp) → dval_of (give p c d s) e ≡ dval_of s e
  unfolding starting_data
  dval_used old (data_var x) = unfold give in refl
  dval_used old (data_of a) = rw (give_status a, cell-give s p c d a z hc, old) (split (eqb c a)
      (λ t. rw (t, was_allocated a old t, eqb-true c a t) refl)
      (λ t. rw t refl))

  -- both
  pub mark_give : Traced (word s) (status_of s) → (e : PExp) → valid_of (give p c d s) e ≡ valid_of s e || same_p_exp (pointer_var p) e
  mark_give T (pointer_var q) = rw (word-give s p c d (PointerWord q) z hp hc) (split (eqb p q)
      (λ t. rw (t, valid_below c (omega arith), or-true (is_valid (pointer s q))) refl)
      (λ t. rw (t, or-false (is_valid (pointer s q))) refl))
  mark_give T (next_of a i) =
      let w : ℕ = word s (SelectorWord (2 * a + index i)) in
      rw (word-give s p c d (SelectorWord (2 * a + index i)) z hp hc, half a i, or-false (is_valid w)) (split (eqb (status_of s c) never_used && eqb c a)
      (λ t.
      let both = (and-eq-true_iff (eqb (status_of s c) never_used) (eqb c a)).0 t in
      let new : status_of s a ≡ never_used = rw (eqb-true c a both.1) at (eqb-true (status_of s c) never_used both.0) in
      rw (t, T.unwritten (2 * a + index i) (rw (half a i) new)) refl)
      (λ t. rw t refl))

  pub freed-give : (a : ℕ) → freed_of (give p c d s) a ≡ freed_of s a && not (eqb c a)
  freed-give a = rw (give_status a) (split (eqb c a)
      (λ t. rw (t, and-false (freed_of s a)) refl)
      (λ t. rw (t, and-true (freed_of s a)) refl))
