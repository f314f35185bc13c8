-- What every word and every number of a state satisfies, whatever the checks say: the code's types hold them.
-- A word is a cell's number or unset, with or without the mark, so it fits 16 bits; a data number fits 32. Assumes nothing.
use Prim.Native.Nat.{◌*◌, ◌+◌, ◌<◌, ◌≤◌, ℕ}
use mathlib.Core.Path.{subst, sym}
use mathlib.Core.List.{List, map}
use native.Mathlib.Omega.{arith}
use borrow.Author.Tests.{ltb-true}
use lib.Dec.{eqb, ltb}
use Rattle.fields.proofs.Passing.{either}
use Rattle.fields.specs.declared.RecordedCell.{RecordedCell}
use Rattle.rules.specs.declared.DExp.TheVariants.{DataOf, DataVariable}
use Rattle.rules.specs.declared.Value.{Value}
use Rattle.rules.specs.declared.Value.TheVariants.{Constant, Held, Sum}
use Rattle.rules.specs.declared.Change.{Change}
use Rattle.rules.specs.declared.Change.TheVariants.{Allocate, Move, Put, Release, Stay}
use Rattle.rules.specs.declared.Act.{Act}
use Rattle.rules.specs.declared.Place.{Place}
use Rattle.rules.specs.declared.Place.TheVariants.{PointerWord, SelectorWord}
use Rattle.rules.specs.declared.DataPlace.{DataPlace}
use Rattle.rules.specs.declared.DataPlace.TheVariants.{CellNumber, VariableNumber}
use Rattle.rules.specs.Words.{after_free, cell_of, invalidated, is_unset, is_valid, unset, word_at}
use Rattle.rules.specs.State.{State, fresh, never_used, number_at, pointer, status_of, store, word, write}
use Rattle.rules.specs.Acts.{data_place, place, value}
use Rattle.rules.specs.Effect.{apply, change_own, change_word, count_field, effect, free, give}
use Rattle.rules.specs.Replay.{starting_data}
use Rattle.theorems.proofs.Basics.{get_or-same, in_map, in_set, split}
use Rattle.theorems.proofs.Kept.{Named, word-fresh}

-- ---- a property of words that every command keeps
pub record Closed (P : ℕ → Type 0) : Type 0 where
  pub unset : P unset
  pub cell : (c : ℕ) → c < 1024 → P c
  pub invalidates : (w : ℕ) → P w → P (invalidated w)

abbrev pub Words : (ℕ → Type 0) → State → Type 0
Words P s = (x : Place) → P (word s x)

module _ {P : ℕ → Type 0} (C : Closed P) where
  after : (c w : ℕ) → P w → P (after_free c w)
  unfolding after_free
  after c w p = either P (eqb c (cell_of w)) (C.invalidates w p) p

  words_write : (x : Place) (w : ℕ) (s : State) → P w → Words P s → Words P (write x w s)
  unfolding write
  words_write (PointerWord i) w s p h (PointerWord j) = in_set P s.pointers i j w unset p (h (PointerWord j))
  words_write (PointerWord i) w s p h (SelectorWord j) = h (SelectorWord j)
  words_write (SelectorWord i) w s p h (PointerWord j) = h (PointerWord j)
  words_write (SelectorWord i) w s p h (SelectorWord j) = in_set P s.selectors i j w unset p (h (SelectorWord j))

  words_change_word : (f : ℕ → ℕ) (i : ℕ) (l : List ℕ) → ((w : ℕ) → P w → P (f w)) → ((j : ℕ) → P (word_at l j)) → (j : ℕ) → P (word_at (change_word f i l) j)
  words_change_word f i l k q j = in_set P l i j (f (word_at l i)) unset (k (word_at l i) (q i)) (q j)

  words_change_own : (f : ℕ → ℕ) (c : ℕ) (l : List ℕ) → ((w : ℕ) → P w → P (f w)) → ((j : ℕ) → P (word_at l j)) → (j : ℕ) → P (word_at (change_own f c l) j)
  words_change_own f c l k q = words_change_word f (2 * c + 1) (change_word f (2 * c) l) k (words_change_word f (2 * c) l k q)

  words_free : (c : ℕ) (s : State) → Words P s → Words P (free c s)
  unfolding free
  words_free c s h (PointerWord j) = in_map P (after_free c) s.pointers j unset (after c) (h (PointerWord j))
  words_free c s h (SelectorWord j) = words_change_own invalidated c (map (after_free c) s.selectors) C.invalidates (λ i. in_map P (after_free c) s.selectors i unset (after c) (h (SelectorWord i))) j

  words_give : (p c d : ℕ) (s : State) → c < 1024 → Words P s → Words P (give p c d s)
  unfolding give
  words_give p c d s hc h (PointerWord j) = in_set P s.pointers p j c unset (C.cell c hc) (h (PointerWord j))
  words_give p c d s hc h (SelectorWord j) = either (λ (l : List ℕ). P (word_at l j)) (eqb (status_of s c) never_used) (words_change_own (λ w. unset) c s.selectors (λ w q. C.unset) (λ i. h (SelectorWord i)) j) (h (SelectorWord j))

  words_apply : (c : Change) (s : State) → Named c → Words P s → Words P (apply c s)
  unfolding store
  words_apply Stay s n h = h
  words_apply (Allocate p c d) s n h = words_give p c.0 d s n.1 h
  words_apply (Release p) s n h = either (Words P) (is_unset (pointer s p)) h (words_free (cell_of (pointer s p)) s h)
  words_apply (Move x y) s n h = words_write (place s x) (word s (place s y)) s (h (place s y)) h
  words_apply (Put x v) s n h = h

  pub words_effect : (a : Act) (s : State) → Named a.change → Words P s → Words P (effect a s)
  unfolding count_field
  words_effect a s n h = words_apply a.change s n h

  pub words_fresh : Words P fresh
  words_fresh x = subst P (sym (word-fresh x)) C.unset

-- a pointer word as document 01 says it: 0 to 1,024, or 2,048 more
unfoldable pub Ranged : ℕ → Type 0
Ranged w = (cell_of w ≤ 1024) × (w < 4096)

pub ranged : Closed Ranged
unfolding Ranged invalidated cell_of is_valid
ranged = record {
  unset = (omega arith, omega arith);
  cell = λ c h. (omega arith, omega arith);
  invalidates = λ w h. split (ltb w 2048)
      (λ e. let z : w < 2048 = ltb-true w 2048 e in rw e (omega (arith, h.0), omega arith))
      (λ e. rw e h);
}

-- ---- the data numbers
pub record Bounded (s : State) : Type 0 where
  pub variables : (x : ℕ) → number_at s.variables x < 4294967296
  pub numbers : (c : ℕ) → number_at s.numbers c < 4294967296

-- of the numbers that a command brings
abbrev pub SmallValue : Value → Type 0
SmallValue (Held x) = Unit {0}
SmallValue (Constant n) = n < 4294967296
SmallValue (Sum y z) = Unit {0}

abbrev pub Small : Change → Type 0
Small Stay = Unit {0}
Small (Allocate p c d) = d < 4294967296
Small (Release p) = Unit {0}
Small (Move x y) = Unit {0}
Small (Put x v) = SmallValue v

value_below : (s : State) (v : Value) → SmallValue v → Bounded s → value s v < 4294967296
value_below s (Held (DataVariable x)) h b = b.variables x
value_below s (Held (DataOf p)) h b = b.numbers (cell_of (pointer s p))
value_below s (Constant n) h b = h
value_below s (Sum y z) h b = omega arith

bounded_store : (s : State) (x : DataPlace) (n : ℕ) → n < 4294967296 → Bounded s → Bounded (store x n s)
unfolding store
bounded_store s (VariableNumber x) n h b = record { variables = λ j. in_set (λ n. n < 4294967296) s.variables x j n 0 h (b.variables j); numbers = b.numbers }
bounded_store s (CellNumber c) n h b = record { variables = b.variables; numbers = λ j. in_set (λ n. n < 4294967296) s.numbers c j n 0 h (b.numbers j) }

bounded_give : (p c d : ℕ) (s : State) → d < 4294967296 → Bounded s → Bounded (give p c d s)
unfolding give
bounded_give p c d s h b = record {
  variables = b.variables;
  numbers = λ j. either (λ (l : List ℕ). number_at l j < 4294967296) (eqb (status_of s c) never_used) (in_set (λ n. n < 4294967296) s.numbers c j d 0 h (b.numbers j)) (b.numbers j);
}

bounded_apply : (a : Change) (s : State) → Small a → Bounded s → Bounded (apply a s)
unfolding free write
bounded_apply Stay s h b = b
bounded_apply (Allocate p c d) s h b = bounded_give p c.0 d s h b
bounded_apply (Release p) s h b = either Bounded (is_unset (pointer s p)) b (record { variables = b.variables; numbers = b.numbers })
bounded_apply (Move x y) s h b = record { variables = b.variables; numbers = b.numbers }
bounded_apply (Put x v) s h b = bounded_store s (data_place s x) (value s v) (value_below s v h b) b

pub bounded_effect : (a : Act) (s : State) → Small a.change → Bounded s → Bounded (effect a s)
unfolding count_field
bounded_effect a s h b = let r = bounded_apply a.change s h b in record { variables = r.variables; numbers = r.numbers }

pub starting_data_below : (s : State) (c : RecordedCell) (d : ℕ) → d < 4294967296 → Bounded s → starting_data s c d < 4294967296
unfolding starting_data
starting_data_below s c d h b = either (λ n. n < 4294967296) (eqb (status_of s c.0) never_used) h (b.numbers c.0)

pub bounded_fresh : Bounded fresh
unfolding fresh
bounded_fresh = record { variables = λ x. rw (get_or-same 80 x 0) (omega arith); numbers = λ c. rw (get_or-same 1024 c 0) (omega arith) }
