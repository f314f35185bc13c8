-- Demand 3, one effect: recording and replay stay tied when both are written, stored to or freed at matching places, and when both
-- give out a cell, whatever cell the replay takes, if it was never used. Assumes nothing.
use Prim.Native.Nat.{◌%◌, ◌*◌, ◌+◌, ◌/◌, ◌<◌, ℕ}
use mathlib.Core.Path.{◌∙◌, ◌≡◌, ap, refl, subst, sym}
use mathlib.Core.Bool.{and-false, cond, false, true}
use mathlib.Core.List.{List}
use native.Mathlib.Omega.{arith}
use borrow.Author.Tests.{eq-eqb, eqb-false, eqb-true, ne_eqb}
use lib.Dec.{eqb}
use lib.ListN.{get_or, set}
use Rattle.fields.specs.declared.RecordedCell.{RecordedCell}
use Rattle.rules.specs.declared.DExp.{DExp}
use Rattle.rules.specs.declared.DExp.TheVariants.{DataOf, DataVariable}
use Rattle.rules.specs.declared.Value.{Value}
use Rattle.rules.specs.declared.Value.TheVariants.{Constant, Held, Sum}
use Rattle.rules.specs.declared.Place.{Place}
use Rattle.rules.specs.declared.Place.TheVariants.{PointerWord, SelectorWord}
use Rattle.rules.specs.declared.DataPlace.TheVariants.{CellNumber, VariableNumber}
use Rattle.rules.specs.Words.{after_free, cell_of, is_valid, unset}
use Rattle.rules.specs.State.{State, freed, live, never_used, number_at, pointer, status_of, store, word, write}
use Rattle.rules.specs.Acts.{data_place, data_through, value, value_through}
use Rattle.rules.specs.Check.{points, valid}
use Rattle.rules.specs.Effect.{count_field, free, give}
use Rattle.rules.specs.Replay.{starting_data}
use Rattle.rules.specs.Matching.{Live, Owned}
use Rattle.rules.proofs.Checks.{Clear}
use Rattle.rules.proofs.Tallies.{live_set}
use Rattle.theorems.proofs.Basics.{clash, eqb_self, get_or-set, split}
use Rattle.theorems.proofs.Words.{freed_at, freed_at_valid, valid-cell}
use Rattle.theorems.proofs.States.{Sized, Within, cleared_at, eq_place, status_set, word-free, word-give, word_write}
use Rattle.theorems.proofs.Passed.{reached}
use Rattle.theorems.proofs.Kept.{live_below, live-cell}
use Rattle.theorems.proofs.Tied.{Pair, Tied, beside, eq_beside, eqb_m, partner, partner_set, partner_unset, partner_valid, pointer-cell, word_live}

-- a cell that is live after c was freed
pub still : (s : State) (c k : ℕ) → Sized s → Live s c → Live (free c s) k → (eqb c k ≡ false) × Live s k
unfolding free
still s c k z h o =
    let f = status_set s c freed z (live_below s c z h) k in
    split (eqb c k)
    (λ t. let y : get_or (set s.status c freed) k never_used ≡ freed = rw (f, t) refl in absurd (omega arith))
    (λ t. (t, rw (f, t) at o))

-- a cell's data after a malloc of cell c
pub cell-give : (s : State) (p c d k : ℕ) → Sized s → c < 1024 → number_at (give p c d s).numbers k ≡ cond (eqb c k) (starting_data s (record { 0 = c }) d) (number_at s.numbers k)
unfolding give starting_data
cell-give s p c d k z h = split (eqb (status_of s c) never_used)
    (λ e. rw (e) (get_or-set s.numbers c k d 0 (omega (arith, z.numbers))))
    (λ e. rw (e) (split (eqb c k)
    (λ t. rw (t, eqb-true c k t) refl)
    (λ t. rw t refl)))

pub starting_data_new : (s : State) (c : RecordedCell) (d : ℕ) → status_of s c.0 ≡ never_used → starting_data s c d ≡ d
unfolding starting_data
starting_data_new s c d e = rw e refl

pub count_field_sim : {R S : State} {m : ℕ → ℕ} → Tied R S m → Tied (count_field R) (count_field S) m
unfolding count_field
count_field_sim M = record {
  variables = M.variables;
  fields = ap (λ (n : ℕ). n + 1) M.fields;
  mallocs = M.mallocs;
  count = M.count;
  live = M.live;
  one = M.one;
  back = M.back;
  equal = M.equal;
  words = M.words;
}

module _ {R S : State} {m : ℕ → ℕ} (P : Pair R S m) where
  -- ---- the effects
  pub write_sim : (x y : Place) → Owned (status_of R) x → Owned (status_of R) y → Within x → Within (beside m x)
      → Tied (write x (word R y) R) (write (beside m x) (word S (beside m y)) S) m
  unfolding write
  write_sim x y hx hy wx wx' = let M = P.tied in record {
    variables = M.variables;
    fields = M.fields;
    mallocs = M.mallocs;
    count = M.count;
    live = M.live;
    one = M.one;
    back = M.back;
    equal = M.equal;
    words = λ z o h.
        let a = word_write R x z (word R y) P.left.sized wx in
        let b = word_write S (beside m x) (beside m z) (word S (beside m y)) P.right.sized wx' in
        rw (a, b, eq_beside P x z hx o) (split (eq_place x z)
        (λ e. rw e (M.words y hy (rw (a, e) at h)))
        (λ e. rw e (M.words z o (rw (a, e) at h))));
  }

  -- ---- data
  pub value_sim : (v : Value) → Clear (valid R) (value_through v) → Clear (points R) (value_through v) → value S v ≡ value R v
  value_sim (Held (DataVariable x)) e f = rw P.tied.variables refl
  value_sim (Held (DataOf p)) e f =
      let t = reached R p e f in
      rw (pointer-cell P p t, P.tied.equal (cell_of (pointer R p)) (live-cell R p P.left t)) refl
  value_sim (Constant n) e f = refl
  value_sim (Sum y z) e f = rw P.tied.variables refl

  store_variable : (x n : ℕ) → Tied (store (VariableNumber x) n R) (store (VariableNumber x) n S) m
  unfolding store
  store_variable x n = let M = P.tied in record {
    variables = ap (λ (l : List ℕ). set l x n) M.variables;
    fields = M.fields;
    mallocs = M.mallocs;
    count = M.count;
    live = M.live;
    one = M.one;
    back = M.back;
    equal = M.equal;
    words = M.words;
  }

  store-cell : (c n : ℕ) → Live R c → Tied (store (CellNumber c) n R) (store (CellNumber (m c)) n S) m
  unfolding store
  store-cell c n h = let M = P.tied in record {
    variables = M.variables;
    fields = M.fields;
    mallocs = M.mallocs;
    count = M.count;
    live = M.live;
    one = M.one;
    back = M.back;
    words = M.words;
    equal = λ k o.
        let i : c < 1024 = live_below R c P.left.sized h in
        let j : m c < 1024 = live_below S (m c) P.right.sized (M.live c h) in
        rw (get_or-set R.numbers c k n 0 (omega (arith, P.left.sized.numbers)), get_or-set S.numbers (m c) (m k) n 0 (omega (arith, P.right.sized.numbers)), eqb_m P c k h o)
        (ap (cond (eqb c k) n) (M.equal k o));
  }

  pub store_sim : (x : DExp) (n : ℕ) → Clear (valid R) (data_through x) → Clear (points R) (data_through x) → Tied (store (data_place R x) n R) (store (data_place S x) n S) m
  store_sim (DataVariable x) n e f = store_variable x n
  store_sim (DataOf p) n e f =
      let t = reached R p e f in
      rw (pointer-cell P p t) (store-cell (cell_of (pointer R p)) n (live-cell R p P.left t))

  -- ---- a free
  -- what a valid word's partner holds is not the replay's copy of another cell
  other : (x : Place) (c : ℕ) → Live R c → is_valid (word R x) ≡ true → eqb c (cell_of (word R x)) ≡ false → eqb (m c) (cell_of (partner m (word R x))) ≡ false
  other x c h o n = rw (valid-cell (partner m (word R x)) (partner_valid P x o)) (split (eqb (word R x) unset)
      (λ e. rw (partner_unset m (word R x) e) (ne_eqb (m c) unset (λ q. let k : m c < 1024 = live_below S (m c) P.right.sized (P.tied.live c h) in omega arith)))
      (λ e.
      let l : Live R (word R x) = word_live P x o e in
      rw (partner_set m (word R x) e, eqb_m P c (word R x) h l) (rw (valid-cell (word R x) o) at n)))

  owned_free : (c : ℕ) (x : Place) → Live R c → Owned (status_of (free c R)) x → Owned (status_of R) x
  owned_free c (PointerWord i) h o = tt
  owned_free c (SelectorWord j) h o = (still R c (j / 2) P.left.sized h o).1

  untouched : (c : ℕ) (x : Place) (w : ℕ) → Live R c → Owned (status_of (free c R)) x → eqb (m c) (cell_of w) ≡ false → freed_at (m c) (beside m x) w ≡ w
  unfolding after_free
  untouched c (PointerWord i) w h o e = rw e refl
  untouched c (SelectorWord j) w h o e =
      let t = still R c (j / 2) P.left.sized h o in
      let a : (2 * m (j / 2) + j % 2) / 2 ≡ m (j / 2) = omega arith in
      rw (a, eqb_m P c (j / 2) h t.1, t.0, e) refl

  pub free_sim : (c : ℕ) → Live R c → Tied (free c R) (free (m c) S) m
  unfolding free
  free_sim c h =
      let M = P.tied in
      let hc : c < 1024 = live_below R c P.left.sized h in
      let hk : Live S (m c) = M.live c h in
      let hm : m c < 1024 = live_below S (m c) P.right.sized hk in
      let f = status_set R c freed P.left.sized hc in
      let g = status_set S (m c) freed P.right.sized hm in
      record {
        variables = M.variables;
        fields = M.fields;
        mallocs = M.mallocs;
        count =
            let a = live_set R.status c freed (omega (arith, P.left.sized.status)) in
            let b = live_set S.status (m c) freed (omega (arith, P.right.sized.status)) in
            omega (arith, rw h at a, rw hk at b, M.count);
        live = λ k o. let t = still R c k P.left.sized h o in rw (g (m k), eqb_m P c k h t.1, t.0) (M.live k t.1);
        one = λ k l o q e. M.one k l (still R c k P.left.sized h o).1 (still R c l P.left.sized h q).1 e;
        back = λ k o.
            let t = still S (m c) k P.right.sized hk o in
            let d = M.back k t.1 in
            let n : eqb c d.0 ≡ false = sym (eqb_m P c d.0 h d.1) ∙ rw d.2 t.0 in
            (d.0, rw (f d.0, n) d.1, d.2);
        equal = λ k o. M.equal k (still R c k P.left.sized h o).1;
        words = λ x o q.
            let a = word-free R c x P.left.sized hc in
            let b = word-free S (m c) (beside m x) P.right.sized hm in
            let t = freed_at_valid c x (word R x) (rw a at q) in
            let u : is_valid (word R x) ≡ true = rw (a, t.0) at q in
            let v : word S (beside m x) ≡ partner m (word R x) = M.words x (owned_free c x h o) u in
            b ∙ rw (v) (untouched c x (partner m (word R x)) h o (other x c h u t.1)) ∙ sym (ap (partner m) (a ∙ t.0));
      }

  -- ---- a malloc: the replay takes any cell k that was never used
  module _ (p c d k : ℕ) (hp : p < 80) (hc : c < 1024) (nl : Live R c → ⊥) (hk : k < 1024) (new : status_of S k ≡ never_used) where
    abbrev m' : ℕ → ℕ
    m' = λ j. cond (eqb c j) k (m j)

    -- the data that the copy has
    abbrev d' : ℕ
    d' = starting_data R (record { 0 = c }) d

    other_cell : (j : ℕ) → Live R j → eqb k (m j) ≡ false
    other_cell j o = ne_eqb k (m j) (λ q. let z : Live S k = rw q (P.tied.live j o) in omega arith)

    partner_keep : (x : Place) → is_valid (word R x) ≡ true → partner m' (word R x) ≡ partner m (word R x)
    unfolding partner
    partner_keep x o = split (eqb (word R x) unset)
        (λ e. rw e refl)
        (λ e.
        let l : Live R (word R x) = word_live P x o e in
        rw (e, ne_eqb c (word R x) (λ q. nl (rw q l))) refl)

    -- a selector of the cell given out: unset in both, or not valid
    own_words : (j : ℕ) → eqb c (j / 2) ≡ true → is_valid (cleared_at (status_of R) c (SelectorWord j) (word R (SelectorWord j))) ≡ true
        → cleared_at (status_of S) k (SelectorWord (2 * k + j % 2)) (word S (SelectorWord (2 * k + j % 2))) ≡ partner m' (cleared_at (status_of R) c (SelectorWord j) (word R (SelectorWord j)))
    own_words j e q = split (eqb (status_of R c) never_used)
        (λ y.
        let i : eqb k ((2 * k + j % 2) / 2) ≡ true = eq-eqb k ((2 * k + j % 2) / 2) (omega arith) in
        rw (y, e, new, i) (sym (partner_unset m' unset refl)))
        (λ y.
        let h : status_of R (j / 2) ≡ freed = subst (λ (n : ℕ). status_of R n ≡ freed) (eqb-true c (j / 2) e) (omega (arith, eqb-false (status_of R c) never_used y, P.left.sound.kinds c, nl)) in
        clash (rw y at q) (P.left.sound.freed j h))

    -- a selector of another cell keeps its word
    other_selector : (st : ℕ → ℕ) (i j w : ℕ) → eqb i (j / 2) ≡ false → cleared_at st i (SelectorWord j) w ≡ w
    other_selector st i j w e = rw (e, and-false (eqb (st i) never_used)) refl

    give_words : (x : Place) → Owned (status_of (give p c d R)) x → is_valid (word (give p c d R) x) ≡ true
        → word (give p k d' S) (beside m' x) ≡ partner m' (word (give p c d R) x)
    give_words (PointerWord i) o q =
        let a = word-give R p c d (PointerWord i) P.left.sized hp hc in
        let b = word-give S p k d' (PointerWord i) P.right.sized hp hk in
        rw (a, b) (split (eqb p i)
        (λ e. rw e (sym (partner_set m' c (ne_eqb c unset (λ u. omega arith)) ∙ rw (eqb_self c) refl)))
        (λ e.
        let u : is_valid (word R (PointerWord i)) ≡ true = rw (a, e) at q in
        rw e (P.tied.words (PointerWord i) tt u ∙ sym (partner_keep (PointerWord i) u))))
    give_words (SelectorWord j) o q =
        let a = word-give R p c d (SelectorWord j) P.left.sized hp hc in
        split (eqb c (j / 2))
        (λ e.
        let b = word-give S p k d' (SelectorWord (2 * k + j % 2)) P.right.sized hp hk in
        rw (e, a, b) (own_words j e (rw a at q)))
        (λ e.
        let l : Live R (j / 2) = was j e o in
        let b = word-give S p k d' (SelectorWord (2 * m (j / 2) + j % 2)) P.right.sized hp hk in
        let v = other_selector (status_of R) c j (word R (SelectorWord j)) e in
        let i : eqb k ((2 * m (j / 2) + j % 2) / 2) ≡ false = let h : (2 * m (j / 2) + j % 2) / 2 ≡ m (j / 2) = omega arith in rw h (other_cell (j / 2) l) in
        let u : is_valid (word R (SelectorWord j)) ≡ true = rw (a, v) at q in
        rw (e, a, v, b, other_selector (status_of S) k (2 * m (j / 2) + j % 2) (word S (SelectorWord (2 * m (j / 2) + j % 2))) i)
        (P.tied.words (SelectorWord j) l u ∙ sym (partner_keep (SelectorWord j) u)))
      where
        was : (j : ℕ) → eqb c (j / 2) ≡ false → Live (give p c d R) (j / 2) → Live R (j / 2)
        was j e o = unfold give in (rw (status_set R c live P.left.sized hc (j / 2), e) at o)

    give_equal : (j : ℕ) → (eqb c j ≡ false → Live R j)
        → number_at (give p c d R).numbers j ≡ number_at (give p k d' S).numbers (m' j)
    give_equal j o =
        cell-give R p c d j P.left.sized hc ∙ split (eqb c j)
        (λ e. rw e (sym (cell-give S p k d' k P.right.sized hk ∙ rw (eqb_self k) (starting_data_new S (record { 0 = k }) d' new))))
        (λ e. rw e (P.tied.equal j (o e) ∙ sym (cell-give S p k d' (m j) P.right.sized hk ∙ rw (other_cell j (o e)) refl)))

    pub give_sim : Tied (give p c d R) (give p k d' S) m'
    unfolding give
    give_sim =
        let M = P.tied in
        let f = status_set R c live P.left.sized hc in
        let g = status_set S k live P.right.sized hk in
        record {
          variables = M.variables;
          fields = M.fields;
          mallocs = ap (λ (n : ℕ). n + 1) M.mallocs;
          count =
              let a = live_set R.status c live (omega (arith, P.left.sized.status)) in
              let b = live_set S.status k live (omega (arith, P.right.sized.status)) in
              omega (arith, rw (ne_eqb (status_of R c) live nl) at a, rw new at b, M.count);
          live = λ j o. split (eqb c j)
              (λ e. rw (e, g k, eqb_self k) refl)
              (λ e. let l : Live R j = rw (f j, e) at o in rw (e, g (m j), other_cell j l) (M.live j l));
          one = λ j l o q u. split (eqb c j)
              (λ a. split (eqb c l)
              (λ b. sym (eqb-true c j a) ∙ eqb-true c l b)
              (λ b. let z : k ≡ m l = rw (a, b) at u in absurd (eqb-false k (m l) (other_cell l (rw (f l, b) at q)) z)))
              (λ a. split (eqb c l)
              (λ b. let z : m j ≡ k = rw (a, b) at u in absurd (eqb-false k (m j) (other_cell j (rw (f j, a) at o)) (sym z)))
              (λ b. M.one j l (rw (f j, a) at o) (rw (f l, b) at q) (rw (a, b) at u)));
          back = λ j o. split (eqb k j)
              (λ a. (c, rw (f c, eqb_self c) refl, rw (eqb_self c) (eqb-true k j a)))
              (λ a.
              let d = M.back j (rw (g j, a) at o) in
              let b : eqb c d.0 ≡ false = ne_eqb c d.0 (λ u. nl (rw u d.1)) in
              (d.0, rw (f d.0, b) d.1, rw b d.2));
          equal = λ j o. give_equal j (λ e. rw (f j, e) at o);
          words = give_words;
        }
