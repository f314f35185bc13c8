-- The sizes of what is judged: no command changes the length of a list.
-- Assumes nothing.
use Prim.Native.Nat.{ℕ}
use mathlib.Core.Path.{◌≡◌, ◌∙◌, refl}
use mathlib.Core.List.{List, [], ◌∷◌, map}
use lib.Dec.{eqb}
use lib.ListN.{length, length-map, length-replicate, length-set}
use Rattle.std.specs.Prelude.{Ok, Err}
use Rattle.fields.proofs.Passing.{either}
use Rattle.fields.specs.declared.Field.{Field}
use Rattle.fields.specs.Limits.{cells}
use Rattle.rules.specs.declared.Act.{Act}
use Rattle.rules.specs.declared.Stop.TheVariants.{Race, Refuse}
use Rattle.rules.specs.declared.Change.{Change}
use Rattle.rules.specs.declared.Change.TheVariants.{Stay, Allocate, Release, Move, Put}
use Rattle.rules.specs.declared.DataPlace.{DataPlace}
use Rattle.rules.specs.declared.DataPlace.TheVariants.{CellNumber, VariableNumber}
use Rattle.rules.specs.declared.Place.{Place}
use Rattle.rules.specs.declared.Place.TheVariants.{PointerWord, SelectorWord}
use Rattle.rules.specs.Words.{after_free, cell_of, invalidated, is_unset, unset}
use Rattle.rules.specs.State.{State, board_pointers, board_variables, freed, fresh, heap_selectors, live, never_used, numbers_with, pointer, pointers_with, selectors_with, status_of, store, variables_with, word, write}
use Rattle.rules.specs.Acts.{data_place, place, value}
use Rattle.rules.specs.Check.{Answer, check}
use Rattle.rules.specs.Commands.{act_of}
use Rattle.rules.specs.Effect.{apply, count_field, effect, free, give}
use Rattle.rules.specs.Run.{End, Outcome, next, run_to}
use Rattle.theorems.proofs.States.{Sized, length-change_own}

pub sized_fresh : Sized fresh
unfolding fresh
sized_fresh = record {
  pointers = length-replicate {A = ℕ} board_pointers unset;
  selectors = length-replicate {A = ℕ} heap_selectors unset;
  variables = length-replicate {A = ℕ} board_variables 0;
  numbers = length-replicate {A = ℕ} cells 0;
  status = length-replicate {A = ℕ} cells never_used;
}

-- ---- the lists that an effect makes
length-pointers_with : (x : Place) (w : ℕ) (l : List ℕ) → length (pointers_with x w l) ≡ length l
length-pointers_with (PointerWord i) w l = length-set l i w
length-pointers_with (SelectorWord j) w l = refl

length-selectors_with : (x : Place) (w : ℕ) (l : List ℕ) → length (selectors_with x w l) ≡ length l
length-selectors_with (PointerWord i) w l = refl
length-selectors_with (SelectorWord j) w l = length-set l j w

length-variables_with : (x : DataPlace) (n : ℕ) (l : List ℕ) → length (variables_with x n l) ≡ length l
length-variables_with (VariableNumber i) n l = length-set l i n
length-variables_with (CellNumber j) n l = refl

length-numbers_with : (x : DataPlace) (n : ℕ) (l : List ℕ) → length (numbers_with x n l) ≡ length l
length-numbers_with (VariableNumber i) n l = refl
length-numbers_with (CellNumber j) n l = length-set l j n

-- ---- each effect
module _ (s : State) (z : Sized s) where
  pub sized_write : (x : Place) (w : ℕ) → Sized (write x w s)
  unfolding write
  sized_write x w = record {
    pointers = length-pointers_with x w s.pointers ∙ z.pointers;
    selectors = length-selectors_with x w s.selectors ∙ z.selectors;
    variables = z.variables;
    numbers = z.numbers;
    status = z.status;
  }

  pub sized_store : (x : DataPlace) (n : ℕ) → Sized (store x n s)
  unfolding store
  sized_store x n = record {
    pointers = z.pointers;
    selectors = z.selectors;
    variables = length-variables_with x n s.variables ∙ z.variables;
    numbers = length-numbers_with x n s.numbers ∙ z.numbers;
    status = z.status;
  }

  pub sized_give : (p c d : ℕ) → Sized (give p c d s)
  unfolding give
  sized_give p c d = record {
    pointers = length-set s.pointers p c ∙ z.pointers;
    selectors = either (λ (l : List ℕ). length l ≡ heap_selectors) (eqb (status_of s c) never_used) (length-change_own (λ w. unset) c s.selectors ∙ z.selectors) z.selectors;
    variables = z.variables;
    numbers = either (λ (l : List ℕ). length l ≡ cells) (eqb (status_of s c) never_used) (length-set s.numbers c d ∙ z.numbers) z.numbers;
    status = length-set s.status c live ∙ z.status;
  }

  pub sized_free : (c : ℕ) → Sized (free c s)
  unfolding free
  sized_free c = record {
    pointers = length-map s.pointers (after_free c) ∙ z.pointers;
    selectors = length-change_own invalidated c (map (after_free c) s.selectors) ∙ length-map s.selectors (after_free c) ∙ z.selectors;
    variables = z.variables;
    numbers = z.numbers;
    status = length-set s.status c freed ∙ z.status;
  }

  pub sized_change : (c : Change) → Sized (apply c s)
  sized_change Stay = z
  sized_change (Allocate p c d) = sized_give p c.0 d
  sized_change (Release p) = either Sized (is_unset (pointer s p)) z (sized_free (cell_of (pointer s p)))
  sized_change (Move x y) = sized_write (place s x) (word s (place s y))
  sized_change (Put x v) = sized_store (data_place s x) (value s v)

pub sized_count : (s : State) → Sized s → Sized (count_field s)
unfolding count_field
sized_count s z = record {
  pointers = z.pointers;
  selectors = z.selectors;
  variables = z.variables;
  numbers = z.numbers;
  status = z.status;
}

pub sized_effect : (a : Act) (s : State) → Sized s → Sized (effect a s)
sized_effect a s z = sized_count (apply a.change s) (sized_change s z a.change)

-- ---- a run
sized_next : (k : Answer) (f : Field) (s : State) (later : Outcome) → Sized s → Sized later.state → Sized (next k s.fields f s later).state
sized_next (Ok _) f s later z y = y
sized_next (Err (Race v)) f s later z y = z
sized_next (Err (Refuse r)) f s later z y = z

pub sized_run : (end : End) (fs : List Field) (s : State) → Sized s → Sized (run_to end fs s).state
sized_run end [] s z = z
sized_run end (f ∷ fs) s z =
    let later = effect (act_of f) s in
    sized_next (check (act_of f) s) f s (run_to end fs later) z (sized_run end fs later (sized_effect (act_of f) s z))
