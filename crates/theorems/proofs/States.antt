-- The state after each effect: a word after a copy, a free or a malloc; a status after a store.
-- Assumes nothing.
use Prim.Native.Nat.{◌*◌, ◌+◌, ◌/◌, ◌<◌, ℕ}
use mathlib.Core.Path.{◌∙◌, ◌≡◌, ap, refl, subst}
use mathlib.Core.Bool.{Bool, ◌&&◌, cond, false}
use mathlib.Core.List.{List, map}
use native.Mathlib.Omega.{arith}
use borrow.Author.Tests.{eq-eqb, eqb-false, eqb-true, ne_eqb}
use lib.Dec.{eqb}
use lib.ListN.{get_or-map, get_or, length, length-map, length-set, set}
use lib.Seq.{get_or-set_other}
use Rattle.rules.specs.declared.Place.{Place}
use Rattle.rules.specs.declared.Place.TheVariants.{PointerWord, SelectorWord}
use Rattle.rules.specs.Words.{after_free, invalidated, unset, word_at}
use Rattle.rules.specs.State.{State, freed, never_used, status_of, word, write}
use Rattle.rules.specs.Effect.{change_own, change_word, free, give}
use Rattle.theorems.proofs.Basics.{get_or-set, split}
use Rattle.theorems.proofs.Words.{after_free-unset, freed_at, invalidated-after_free}

-- ---- the sizes of what is lent
pub record Sized (s : State) : Type 0 where
  pub pointers : length s.pointers ≡ 80
  pub selectors : length s.selectors ≡ 2048
  pub variables : length s.variables ≡ 80
  pub numbers : length s.numbers ≡ 1024
  pub status : length s.status ≡ 1024

abbrev pub Within : Place → Type 0
Within (PointerWord i) = i < 80
Within (SelectorWord j) = j < 2048

-- ---- a word after a write
abbrev pub eq_place : Place → Place → Bool
eq_place (PointerWord i) (PointerWord j) = eqb i j
eq_place (PointerWord i) (SelectorWord j) = false
eq_place (SelectorWord i) (PointerWord j) = false
eq_place (SelectorWord i) (SelectorWord j) = eqb i j

pub word_write : (s : State) (x y : Place) (w : ℕ) → Sized s → Within x → word (write x w s) y ≡ cond (eq_place x y) w (word s y)
unfolding write
word_write s (PointerWord i) (PointerWord j) w z h = get_or-set s.pointers i j w unset (omega (arith, z.pointers))
word_write s (PointerWord i) (SelectorWord j) w z h = refl
word_write s (SelectorWord i) (PointerWord j) w z h = refl
word_write s (SelectorWord i) (SelectorWord j) w z h = get_or-set s.selectors i j w unset (omega (arith, z.selectors))

-- ---- selector j after both selectors of cell c are changed
own_selector : (c j k : ℕ) (g : ℕ → ℕ) → cond (eqb (2 * c + 1) j) (g (2 * c + 1)) (cond (eqb (2 * c) j) (g (2 * c)) k) ≡ cond (eqb c (j / 2)) (g j) k
own_selector c j k g = split (eqb (2 * c + 1) j)
    (λ e. rw (e, eq-eqb c (j / 2) (omega (arith, eqb-true (2 * c + 1) j e))) (ap g (eqb-true (2 * c + 1) j e)))
    (λ e. split (eqb (2 * c) j)
    (λ f. rw (e, f, eq-eqb c (j / 2) (omega (arith, eqb-true (2 * c) j f))) (ap g (eqb-true (2 * c) j f)))
    (λ f. rw (e, f, ne_eqb c (j / 2) (λ q. omega (arith, eqb-false (2 * c + 1) j e, eqb-false (2 * c) j f)))))

word-change_own : (f : ℕ → ℕ) (c j : ℕ) (l : List ℕ) → length l ≡ 2048 → c < 1024 → word_at (change_own f c l) j ≡ cond (eqb c (j / 2)) (f (word_at l j)) (word_at l j)
word-change_own f c j l n h =
    let first : List ℕ = change_word f (2 * c) l in
    let other : word_at first (2 * c + 1) ≡ word_at l (2 * c + 1) = get_or-set_other l (2 * c) (2 * c + 1) (f (word_at l (2 * c))) unset (λ q. omega arith) in
    get_or-set first (2 * c + 1) j (f (word_at first (2 * c + 1))) unset (rw length-set (omega arith))
    ∙ rw other (ap (cond (eqb (2 * c + 1) j) (f (word_at l (2 * c + 1)))) (get_or-set l (2 * c) j (f (word_at l (2 * c))) unset (omega arith)) ∙ own_selector c j (word_at l j) (λ i. f (word_at l i)))

pub length-change_own : (f : ℕ → ℕ) (c : ℕ) (l : List ℕ) → length (change_own f c l) ≡ length l
length-change_own f c l = length-set (set l _ _) _ _ ∙ length-set l _ _

-- ---- a word after a free
word-after_free : (c : ℕ) (l : List ℕ) (j : ℕ) → c < 1024 → word_at (map (after_free c) l) j ≡ after_free c (word_at l j)
word-after_free c l j h = subst (λ (d : ℕ). get_or (map (after_free c) l) j d ≡ after_free c (word_at l j)) (after_free-unset c h) (get_or-map (after_free c) l j unset)

pub word-free : (s : State) (c : ℕ) (y : Place) → Sized s → c < 1024 → word (free c s) y ≡ freed_at c y (word s y)
unfolding free
word-free s c (PointerWord i) z h = word-after_free c s.pointers i h
word-free s c (SelectorWord j) z h =
    word-change_own invalidated c j (map (after_free c) s.selectors) (length-map s.selectors (after_free c) ∙ z.selectors) h
    ∙ rw (word-after_free c s.selectors j h, invalidated-after_free c (word_at s.selectors j)) refl

-- ---- a word after a malloc: the selectors of a never-used cell are unset
abbrev pub cleared_at : (ℕ → ℕ) → ℕ → Place → ℕ → ℕ
cleared_at statuses c (PointerWord i) w = w
cleared_at statuses c (SelectorWord j) w = cond (eqb (statuses c) never_used && eqb c (j / 2)) unset w

pub word-give : (s : State) (p c d : ℕ) (y : Place) → Sized s → p < 80 → c < 1024
    → word (give p c d s) y ≡ cond (eq_place (PointerWord p) y) c (cleared_at (status_of s) c y (word s y))
unfolding give
word-give s p c d (PointerWord i) z hp hc = get_or-set s.pointers p i c unset (omega (arith, z.pointers))
word-give s p c d (SelectorWord j) z hp hc = split (eqb (status_of s c) never_used)
    (λ e. rw e (word-change_own (λ w. unset) c j s.selectors z.selectors hc))
    (λ e. rw e refl)

-- ---- statuses
pub status_set : (s : State) (c v : ℕ) → Sized s → c < 1024 → (k : ℕ) → get_or (set s.status c v) k never_used ≡ cond (eqb c k) v (status_of s k)
status_set s c v z h k = get_or-set s.status c k v never_used (omega (arith, z.status))

pub status_free : (s : State) (c : ℕ) → Sized s → c < 1024 → (k : ℕ) → status_of (free c s) k ≡ cond (eqb c k) freed (status_of s k)
unfolding free
status_free s c z h k = status_set s c freed z h k
