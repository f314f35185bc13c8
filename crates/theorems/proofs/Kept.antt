-- Lemma 2 of source 004 along a run: each command that passes keeps the sizes of what is lent, and the invariant of Sound.
-- Named is what the reading checks give: every variable below 80, every selector below 2, every cell below 1,024. Assumes nothing.
use Prim.Native.Nat.{◌*◌, ◌+◌, ◌/◌, ◌<◌, ℕ}
use mathlib.Core.Path.{◌≡◌, subst, sym}
use mathlib.Core.Bool.{false, true}
use mathlib.Core.List.{[], ◌∷◌}
use native.Mathlib.Omega.{arith}
use borrow.Author.Tests.{ltb-false, ltb-true}
use lib.Dec.{ltb}
use lib.ListN.{get_or-eq_default}
use Rattle.std.specs.Prelude.{Ok}
use Rattle.fields.proofs.Passing.{every_cut}
use Rattle.rules.specs.declared.PExp.{PExp}
use Rattle.rules.specs.declared.PExp.TheVariants.{PointerVariable, SelectorOf}
use Rattle.rules.specs.declared.DExp.{DExp}
use Rattle.rules.specs.declared.DExp.TheVariants.{DataOf, DataVariable}
use Rattle.rules.specs.declared.Value.{Value}
use Rattle.rules.specs.declared.Value.TheVariants.{Constant, Held, Sum}
use Rattle.rules.specs.declared.Guard.{Guard}
use Rattle.rules.specs.declared.Guard.TheVariants.{Always, Equal, Same}
use Rattle.rules.specs.declared.Change.{Change}
use Rattle.rules.specs.declared.Change.TheVariants.{Allocate, Move, Put, Release, Stay}
use Rattle.rules.specs.declared.Act.{Act}
use Rattle.rules.specs.declared.Place.{Place}
use Rattle.rules.specs.declared.Place.TheVariants.{PointerWord, SelectorWord}
use Rattle.rules.specs.declared.DataPlace.{DataPlace}
use Rattle.rules.specs.Words.{cell_of, is_unset, unset}
use Rattle.rules.specs.State.{State, freed, fresh, live, never_used, pointer, status_of, store, word, write}
use Rattle.rules.specs.Acts.{data_place, frees, place, pointer_through, source, target, value}
use Rattle.rules.specs.Check.{check, points, valid}
use Rattle.rules.specs.Effect.{apply, count_field, effect, free, give}
use Rattle.rules.specs.Matching.{Owned}
use Rattle.rules.proofs.Checks.{Clear}
use Rattle.theorems.proofs.Basics.{get_or-same, split}
use Rattle.theorems.proofs.Words.{cell_small}
use Rattle.theorems.proofs.States.{Sized, Within, status_set, word-free, word-give, word_write}
use Rattle.theorems.proofs.Sizes.{sized_count, sized_free, sized_fresh, sized_give, sized_store, sized_write}
use Rattle.theorems.proofs.Passed.{Passed, Set, looked, passed, reached}
use Rattle.theorems.proofs.Sound.{Good, Sound, good_unset, sound_free, sound_give, sound_write}

-- ---- commands that stay within what is lent
abbrev pub PointerNamed : PExp → Type 0
PointerNamed (PointerVariable p) = p < 80
PointerNamed (SelectorOf p b) = (p < 80) × (b < 2)

abbrev pub DataNamed : DExp → Type 0
DataNamed (DataVariable x) = x < 80
DataNamed (DataOf p) = p < 80

abbrev pub ValueNamed : Value → Type 0
ValueNamed (Held e) = DataNamed e
ValueNamed (Constant n) = Unit {0}
ValueNamed (Sum y z) = (y < 80) × (z < 80)

abbrev pub Named : Change → Type 0
Named Stay = Unit {0}
Named (Allocate p c d) = (p < 80) × (c.0 < 1024)
Named (Release p) = p < 80
Named (Move x y) = PointerNamed x × PointerNamed y
Named (Put x v) = DataNamed x × ValueNamed v

abbrev pub GuardNamed : Guard → Type 0
GuardNamed Always = Unit {0}
GuardNamed (Same wanted p q) = (p < 80) × (q < 80)
GuardNamed (Equal wanted x y) = (x < 80) × (y < 80)

abbrev pub NamedAct : Act → Type 0
NamedAct a = GuardNamed a.guard × Named a.change

-- ---- what is kept
pub record Inv (s : State) : Type 0 where
  pub sized : Sized s
  pub sound : Sound (word s) (status_of s)

-- the cell of a variable that is valid and set is live
pub live-cell : (s : State) (p : ℕ) → Inv s → Set s p → status_of s (cell_of (pointer s p)) ≡ live
live-cell s p v t = (v.sound.good (PointerWord p)).live t.valid t.pointing

pub live_below : (s : State) (c : ℕ) → Sized s → status_of s c ≡ live → c < 1024
live_below s c z e = split (ltb c 1024)
    (λ t. ltb-true c 1024 t)
    (λ t. let n : status_of s c ≡ never_used = get_or-eq_default s.status never_used (omega (arith, ltb-false c 1024 t, z.status)) in absurd (omega arith))

-- the place of an expression that is gone through lies in the heap, in a live cell
pub record Found (s : State) (x : Place) : Type 0 where
  pub within : Within x
  pub owned : Owned (status_of s) x

pub found : (s : State) (x : PExp) → Inv s → PointerNamed x → Clear (valid s) (pointer_through x) → Clear (points s) (pointer_through x) → Found s (place s x)
found s (PointerVariable p) v n e f = record { within = n; owned = tt }
found s (SelectorOf p b) v n e f =
    let l : status_of s (cell_of (pointer s p)) ≡ live = live-cell s p v (reached s p e f) in
    let k : cell_of (pointer s p) < 1024 = live_below s (cell_of (pointer s p)) v.sized l in
    let h : (2 * cell_of (pointer s p) + b) / 2 ≡ cell_of (pointer s p) = omega (arith, n.1) in
    record { within = omega (arith, n.1); owned = rw h l }

-- ---- each effect
keep_write : (s : State) (x : Place) (w : ℕ) → Inv s → Found s x → Good (status_of s) w → Inv (write x w s)
unfolding write
keep_write s x w v f g = record {
  sized = sized_write s v.sized x w;
  sound = sound_write x w v.sound f.owned g (λ u. word_write s x u w v.sized f.within);
}

keep_store : (s : State) (x : DataPlace) (n : ℕ) → Inv s → Inv (store x n s)
unfolding store
keep_store s x n v = record { sized = sized_store s v.sized x n; sound = v.sound }

keep_count_field : (s : State) → Inv s → Inv (count_field s)
unfolding count_field
keep_count_field s v = record { sized = sized_count s v.sized; sound = v.sound }

keep_give : (s : State) (p c d : ℕ) → Inv s → p < 80 → c < 1024 → Inv (give p c d s)
unfolding give
keep_give s p c d v hp hc = record {
  sized = sized_give s v.sized p c d;
  sound = sound_give p c v.sound (cell_small c hc) (λ u. word-give s p c d u v.sized hp hc) (status_set s c live v.sized hc);
}

keep_free : (s : State) (c : ℕ) → Inv s → c < 1024 → Inv (free c s)
unfolding free
keep_free s c v h = record {
  sized = sized_free s v.sized c;
  sound = sound_free c v.sound (λ u. word-free s c u v.sized h) (status_set s c freed v.sized h);
}

-- ---- each command: what is freed must be valid; of what is gone through, only the target need be valid and set
pub record Aimed (s : State) (c : Change) : Type 0 where
  pub frees : Clear (valid s) (frees c)
  pub valid : Clear (valid s) (target c)
  pub pointing : Clear (points s) (target c)

aim : (a : Act) (s : State) → Passed a s → Aimed s a.change
aim a s p =
    let l = looked a s p in
    record {
      frees = l.frees;
      valid = (every_cut (λ k. valid s k ≡ true) (target a.change) (source a.change) l.goes).0;
      pointing = (every_cut (λ k. points s k ≡ true) (target a.change) (source a.change) p.pointing).0;
    }

-- the cell that is freed is live
pub freed-live : (s : State) (p : ℕ) → Inv s → Clear (valid s) (p ∷ []) → is_unset (pointer s p) ≡ false → status_of s (cell_of (pointer s p)) ≡ live
freed-live s p v r t = live-cell s p v (record { valid = r.0; pointing = t })

keep_change : (c : Change) (s : State) → Inv s → Named c → Aimed s c → Inv (apply c s)
keep_change Stay s v n r = v
keep_change (Allocate p c d) s v n r = keep_give s p c.0 d v n.0 n.1
keep_change (Release p) s v n r = split (is_unset (pointer s p))
    (λ t. rw t v)
    (λ t. rw t (keep_free s (cell_of (pointer s p)) v (live_below s (cell_of (pointer s p)) v.sized (freed-live s p v r.frees t))))
keep_change (Move x y) s v n r = keep_write s (place s x) (word s (place s y)) v (found s x v n.0 r.valid r.pointing) (v.sound.good (place s y))
keep_change (Put x w) s v n r = keep_store s (data_place s x) (value s w) v

-- Lemma 2
pub keep : (a : Act) (s : State) → Inv s → Named a.change → check a s ≡ Ok tt → Inv (effect a s)
keep a s v n e = keep_count_field (apply a.change s) (keep_change a.change s v n (aim a s (passed a s e)))

-- ---- the start
pub word-fresh : (x : Place) → word fresh x ≡ unset
unfolding fresh
word-fresh (PointerWord i) = get_or-same 80 i unset
word-fresh (SelectorWord j) = get_or-same 2048 j unset

pub status_fresh : (c : ℕ) → status_of fresh c ≡ never_used
unfolding fresh
status_fresh c = get_or-same 1024 c never_used

pub inv_fresh : Inv fresh
inv_fresh = record {
  sized = sized_fresh;
  sound = record {
    good = λ x. subst (Good (status_of fresh)) (sym (word-fresh x)) (good_unset (status_of fresh));
    freed = λ j h. let z : status_of fresh (j / 2) ≡ never_used = status_fresh (j / 2) in absurd (omega arith);
    kinds = λ c. rw (status_fresh c) (omega arith);
  };
}
