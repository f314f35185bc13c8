-- Cas fields, for all of their numbers: done is checked as its assertion and acts as its copy, failed is the other assertion.
-- And the ABA of source 004, Example 1. Assumes nothing.
use Prim.Native.Nat.{◌*◌, ◌+◌, ℕ}
use mathlib.Core.Path.{◌≡◌, refl}
use mathlib.Core.Bool.{true}
use mathlib.Core.List.{List, [], ◌++◌, ◌∷◌}
use Rattle.std.specs.Prelude.{Ok}
use Rattle.fields.specs.declared.Field.{Field}
use Rattle.fields.specs.Numbers.{field_with}
use Rattle.rules.specs.declared.Guard.TheVariants.{Same}
use Rattle.rules.specs.declared.Place.TheVariants.{PointerWord, SelectorWord}
use Rattle.rules.specs.Words.{after_free, cell_of, invalidated, is_unset, is_valid}
use Rattle.rules.specs.State.{State, fresh, store, word, write}
use Rattle.rules.specs.Cases.{cas_done, cas_failed, copy_of}
use Rattle.rules.specs.Commands.{act_of, command_of}
use Rattle.rules.specs.Check.{check, check_by, holds, same_as_wanted}
use Rattle.rules.specs.Effect.{count_field, effect, free, give}
use Rattle.rules.specs.Run.{Raced, run}
use Rattle.theorems.specs.Paper.{Assert, Copy, same_pointers}
use Rattle.theorems.specs.Beside.{Takes, both, says_copy, says_same}

module _ (t p q r : ℕ) where
  -- assert p = q; assert p ≠ q
  abbrev asserted : Field
  asserted = field_with 9 (t ∷ p ∷ q ∷ [])

  abbrev denied : Field
  denied = field_with 10 (t ∷ p ∷ q ∷ [])

  -- done, which is both commands of the paper in a row
  pub done_checks : (s : State) → check (act_of (cas_done t p q r)) s ≡ check (act_of asserted) s
  unfolding command_of check_by
  done_checks s = refl

  pub done_acts : (s : State) → effect (act_of (cas_done t p q r)) s ≡ effect (act_of (copy_of t p r)) s
  unfolding command_of
  done_acts s = refl

  pub done_takes : Takes (act_of (cas_done t p q r)) (Assert (same_pointers p q) ∷ Copy p r ∷ [])
  unfolding command_of
  done_takes = both says_same says_copy refl

  -- the copy after the assertion passes, and leaves what done leaves, with one field more
  pub copy_passes : (s : State) → check (act_of (copy_of t p r)) (effect (act_of asserted) s) ≡ Ok tt
  unfolding command_of check_by
  copy_passes s = refl

  pub done_in_a_row : (s : State) → effect (act_of (copy_of t p r)) (effect (act_of asserted) s) ≡ count_field (effect (act_of (cas_done t p q r)) s)
  unfolding command_of count_field write
  done_in_a_row s = refl

  -- failed
  pub failed_is : act_of (cas_failed t p q r) ≡ act_of denied
  unfolding command_of
  failed_is = refl

-- ---- Treiber's stack, its top (pTop) in p0; thread t has ptop in 16 + 8t, pnode in 17 + 8t, and v in its first data variable
module _ (t : ℕ) where
  abbrev top : ℕ
  top = 16 + 8 * t

  abbrev node : ℕ
  node = 17 + 8 * t

  -- lines 1, 2, 4, 5 and 6, the malloc returning cell c
  abbrev push : ℕ → List Field
  push c =
      field_with 1 (t ∷ node ∷ 0 ∷ 0 ∷ c ∷ 0 ∷ [])
      ∷ field_with 7 (t ∷ node ∷ top ∷ [])
      ∷ copy_of t top 0
      ∷ field_with 5 (t ∷ node ∷ 0 ∷ top ∷ [])
      ∷ cas_done t 0 top node
      ∷ []

  -- lines 8 and 10 (line 9 passes); lines 11, 12 and 13
  abbrev pop_first : List Field
  pop_first = copy_of t top 0 ∷ field_with 4 (t ∷ node ∷ top ∷ 0 ∷ []) ∷ []

  abbrev pop_then : List Field
  pop_then = cas_done t 0 top node ∷ field_with 6 (t ∷ top ∷ top ∷ []) ∷ field_with 2 (t ∷ top ∷ []) ∷ []

-- thread 0 begins a pop of a = 6, with b = 5 below it; thread 1 pops and frees a, the stack grows by 7, and a is given out again
-- and pushed; thread 0 goes on with its cas
abbrev aba : List Field
aba = push 1 5 ++ (push 1 6 ++ (pop_first 0 ++ (pop_first 1 ++ (pop_then 1 ++ (push 1 7 ++ (push 1 6 ++ pop_then 0))))))

-- that is a race, of thread 0's ptop
pub aba_races : (run aba fresh).verdict ≡ Raced 27 0 16
unfolding is_valid cell_of is_unset invalidated after_free fresh write store command_of same_as_wanted check_by give free count_field
aba_races = refl

-- though the test pTop = ptop would pass, and pTop := pnode would lose cell 7, which is below a where b was
pub aba_passes : holds (run aba fresh).state (Same true 0 16) ≡ true
unfolding is_valid cell_of is_unset invalidated after_free fresh write store command_of same_as_wanted check_by give free count_field
aba_passes = refl

pub aba_loses : (word (run aba fresh).state (SelectorWord (2 * 6)) ≡ 7) × (word (run aba fresh).state (PointerWord 17) ≡ 5)
unfolding is_valid cell_of is_unset invalidated after_free fresh write store command_of same_as_wanted check_by give free count_field
aba_loses = (refl, refl)
