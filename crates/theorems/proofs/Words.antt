-- Laws of pointer words: what a valid word is, and what a free leaves of a word.
-- Assumes nothing.
use Prim.Native.Nat.{◌+◌, ◌/◌, ◌<◌, ℕ}
use mathlib.Core.Path.{◌≡◌, ap, refl}
use mathlib.Core.Bool.{cond, false, true}
use native.Mathlib.Omega.{arith}
use borrow.Author.Tests.{le-ltb, lt-ltb, ltb-true, ne_eqb}
use lib.Dec.{eqb, ltb}
use Rattle.rules.specs.declared.Place.{Place}
use Rattle.rules.specs.declared.Place.TheVariants.{PointerWord, SelectorWord}
use Rattle.rules.specs.Words.{after_free, cell_of, invalidated, is_unset, is_valid, unset}
use Rattle.theorems.proofs.Basics.{clash, split}

pub cell_small : (c : ℕ) → c < 1024 → cell_of c ≡ c
unfolding cell_of
cell_small c h = omega arith

pub cell-unset : cell_of unset ≡ unset
unfolding cell_of
cell-unset = refl

pub unset-unset : is_unset unset ≡ true
unfolding is_unset cell_of
unset-unset = refl

-- a valid word is its cell
pub valid-cell : (w : ℕ) → is_valid w ≡ true → cell_of w ≡ w
unfolding is_valid cell_of
valid-cell w h = let z : w < 2048 = ltb-true w 2048 h in omega arith

pub valid_below : (w : ℕ) → w < 2048 → is_valid w ≡ true
unfolding is_valid
valid_below w h = lt-ltb w 2048 h

-- ---- without its mark
pub cell-cell : (w : ℕ) → cell_of (cell_of w) ≡ cell_of w
unfolding cell_of
cell-cell w = omega arith

pub unset-cell : (w : ℕ) → is_unset (cell_of w) ≡ is_unset w
unfolding is_unset
unset-cell w = ap (λ (n : ℕ). eqb n unset) (cell-cell w)

-- ---- without its validity
pub valid-invalidated : (w : ℕ) → is_valid (invalidated w) ≡ false
unfolding is_valid invalidated
valid-invalidated w = split (ltb w 2048) (λ e. rw e (le-ltb (w + 2048) 2048 (omega arith))) (λ e. rw e e)

pub cell-invalidated : (w : ℕ) → cell_of (invalidated w) ≡ cell_of w
unfolding invalidated cell_of
cell-invalidated w = split (is_valid w) (λ e. rw e (omega arith)) (λ e. rw e refl)

invalidated_twice : (w : ℕ) → invalidated (invalidated w) ≡ invalidated w
unfolding invalidated
invalidated_twice w = rw (valid-invalidated w) refl

-- ---- after cell c was freed
pub cell-after_free : (c w : ℕ) → cell_of (after_free c w) ≡ cell_of w
unfolding after_free
cell-after_free c w = split (eqb c (cell_of w)) (λ e. rw e (cell-invalidated w)) (λ e. rw e refl)

pub invalidated-after_free : (c w : ℕ) → invalidated (after_free c w) ≡ invalidated w
unfolding after_free
invalidated-after_free c w = split (eqb c (cell_of w)) (λ e. rw e (invalidated_twice w)) (λ e. rw e refl)

after_free-valid : (c w : ℕ) → is_valid (after_free c w) ≡ true → (after_free c w ≡ w) × (eqb c (cell_of w) ≡ false)
unfolding after_free
after_free-valid c w h = split (eqb c (cell_of w)) (λ e. clash (rw e at h) (valid-invalidated w)) (λ e. (rw e refl, e))

pub after_free-invalid : (c w : ℕ) → is_valid w ≡ false → is_valid (after_free c w) ≡ false
unfolding after_free
after_free-invalid c w h = split (eqb c (cell_of w)) (λ e. rw e (valid-invalidated w)) (λ e. rw e h)

pub after_free-unset : (c : ℕ) → c < 1024 → after_free c unset ≡ unset
unfolding after_free cell_of
after_free-unset c h = let e : eqb c 1024 ≡ false = ne_eqb c 1024 (λ q. omega arith) in rw e refl

-- the word at a place after cell c was freed: the cell's own selectors lose their validity whatever they hold
abbrev pub freed_at : ℕ → Place → ℕ → ℕ
freed_at c (PointerWord i) w = after_free c w
freed_at c (SelectorWord j) w = cond (eqb c (j / 2)) (invalidated w) (after_free c w)

pub cell_freed_at : (c : ℕ) (y : Place) (w : ℕ) → cell_of (freed_at c y w) ≡ cell_of w
cell_freed_at c (PointerWord i) w = cell-after_free c w
cell_freed_at c (SelectorWord j) w = split (eqb c (j / 2)) (λ e. rw e (cell-invalidated w)) (λ e. rw e (cell-after_free c w))

pub unset_freed_at : (c : ℕ) (y : Place) (w : ℕ) → is_unset (freed_at c y w) ≡ is_unset w
unfolding is_unset
unset_freed_at c y w = ap (λ (n : ℕ). eqb n unset) (cell_freed_at c y w)

-- what is still valid is as it was, and holds another cell
pub freed_at_valid : (c : ℕ) (y : Place) (w : ℕ) → is_valid (freed_at c y w) ≡ true → (freed_at c y w ≡ w) × (eqb c (cell_of w) ≡ false)
freed_at_valid c (PointerWord i) w h = after_free-valid c w h
freed_at_valid c (SelectorWord j) w h = split (eqb c (j / 2)) (λ e. clash (rw e at h) (valid-invalidated w)) (λ e. rw e (after_free-valid c w (rw e at h)))
