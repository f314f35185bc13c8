-- Lemma 2 of source 004, as an invariant of words and statuses: a valid word that is set points to a live cell, and both
-- selectors of a freed cell are not valid. Nothing is asked of a never-used cell: a malloc clears its selectors. Assumes nothing.
use Prim.Native.Nat.{◌/◌, ◌≤◌, ℕ}
use mathlib.Core.Path.{◌≡◌, refl, subst}
use mathlib.Core.Bool.{◌&&◌, and-false, cond, false, true}
use native.Mathlib.Omega.{arith}
use borrow.Author.Tests.{eqb-true}
use lib.Dec.{eqb}
use Rattle.fields.proofs.Passing.{either}
use Rattle.rules.specs.declared.Place.{Place}
use Rattle.rules.specs.declared.Place.TheVariants.{PointerWord, SelectorWord}
use Rattle.rules.specs.Words.{cell_of, is_unset, is_valid, unset}
use Rattle.rules.specs.State.{freed, live, never_used}
use Rattle.rules.specs.Matching.{Owned}
use Rattle.theorems.proofs.Basics.{clash, eqb_self, split}
use Rattle.theorems.proofs.Words.{after_free-invalid, cell_freed_at, freed_at, freed_at_valid, unset_freed_at, unset-unset, valid-invalidated}
use Rattle.theorems.proofs.States.{cleared_at, eq_place}

-- a word against the statuses
pub record Good (st : ℕ → ℕ) (w : ℕ) : Type 0 where
  pub live : is_valid w ≡ true → is_unset w ≡ false → st (cell_of w) ≡ live

pub record Sound (w : Place → ℕ) (st : ℕ → ℕ) : Type 0 where
  pub good : (x : Place) → Good st (w x)
  pub freed : (j : ℕ) → st (j / 2) ≡ freed → is_valid (w (SelectorWord j)) ≡ false
  pub kinds : (c : ℕ) → st c ≤ 2

pub owned : (st : ℕ → ℕ) (x : Place) (j : ℕ) → Owned st x → eq_place x (SelectorWord j) ≡ true → st (j / 2) ≡ live
owned st (PointerWord i) j o e = clash e refl
owned st (SelectorWord i) j o e = subst (λ (k : ℕ). st (k / 2) ≡ live) (eqb-true i j e) o

not_both : {n : ℕ} → n ≡ live → n ≡ freed → ⊥
not_both p q = omega arith

pub good_unset : (st : ℕ → ℕ) → Good st unset
good_unset st = record { live = λ h k. clash unset-unset k }

-- a copy
pub sound_write : {w w' : Place → ℕ} {st : ℕ → ℕ} (x : Place) (v : ℕ)
    → Sound w st → Owned st x → Good st v → ((y : Place) → w' y ≡ cond (eq_place x y) v (w y)) → Sound w' st
sound_write {w} {w'} {st} x v S o g e = record {
  good = λ y. rw (e y) (either (Good st) (eq_place x y) g (S.good y));
  freed = λ j h. split (eq_place x (SelectorWord j))
      (λ t. absurd (not_both (owned st x j o t) h))
      (λ t. rw (e (SelectorWord j), t) (S.freed j h));
  kinds = S.kinds;
}

-- a malloc of cell c into variable p
pub sound_give : {w w' : Place → ℕ} {st st' : ℕ → ℕ} (p c : ℕ)
    → Sound w st → cell_of c ≡ c
    → ((y : Place) → w' y ≡ cond (eq_place (PointerWord p) y) c (cleared_at st c y (w y))) → ((k : ℕ) → st' k ≡ cond (eqb c k) live (st k)) → Sound w' st'
sound_give {w} {w'} {st} {st'} p c S cell e f = record {
  good = λ y. rw (e y) (either (Good st') (eq_place (PointerWord p) y) new (old y));
  freed = λ j h. split (eqb c (j / 2))
      (λ t. let z : st' (j / 2) ≡ live = rw (f (j / 2), t) refl in absurd (not_both z h))
      (λ t. rw (e (SelectorWord j), t, and-false (eqb (st c) never_used)) (S.freed j (rw (f (j / 2), t) at h)));
  kinds = λ k. rw (f k) (either (λ n. n ≤ 2) (eqb c k) (omega arith) (S.kinds k));
}
  where
    new : Good st' c
    new = let z : st' (cell_of c) ≡ live = rw (cell, f c, eqb_self c) refl in record { live = λ h k. z }

    kept : (v : ℕ) → Good st v → Good st' v
    kept v g = record {
      live = λ h k. rw (f (cell_of v), g.live h k) (either (λ n. n ≡ live) (eqb c (cell_of v)) refl refl);
    }

    old : (y : Place) → Good st' (cleared_at st c y (w y))
    old (PointerWord i) = kept (w (PointerWord i)) (S.good (PointerWord i))
    old (SelectorWord j) = either (Good st') (eqb (st c) never_used && eqb c (j / 2)) (good_unset st') (kept (w (SelectorWord j)) (S.good (SelectorWord j)))

-- a free of the live cell c
pub sound_free : {w w' : Place → ℕ} {st st' : ℕ → ℕ} (c : ℕ)
    → Sound w st → ((y : Place) → w' y ≡ freed_at c y (w y)) → ((k : ℕ) → st' k ≡ cond (eqb c k) freed (st k)) → Sound w' st'
sound_free {w} {w'} {st} {st'} c S e f = record {
  good = λ y. record {
    live = λ h k.
        let o : (freed_at c y (w y) ≡ w y) × (eqb c (cell_of (w y)) ≡ false) = freed_at_valid c y (w y) (rw (e y) at h) in
        rw (e y, cell_freed_at c y (w y), f (cell_of (w y)), o.1) ((S.good y).live (rw (e y, o.0) at h) (rw (e y, unset_freed_at c y (w y)) at k));
  };
  freed = λ j h. split (eqb c (j / 2))
      (λ t. rw (e (SelectorWord j), t) (valid-invalidated (w (SelectorWord j))))
      (λ t. rw (e (SelectorWord j), t) (after_free-invalid c (w (SelectorWord j)) (S.freed j (rw (f (j / 2), t) at h))));
  kinds = λ k. rw (f k) (either (λ n. n ≤ 2) (eqb c k) (omega arith) (S.kinds k));
}
