-- Demand 3 asks nothing of the words that are invalid in the recording; case E shows that more cannot be asked.
-- There p16 is an invalid word of the live cell 6, and in the replay it is unset. Assumes nothing.
use mathlib.Core.Path.{◌∙◌, ◌≡◌, refl, sym}
use mathlib.Core.Logic.{inl, inr}
use native.Mathlib.Omega.{arith}
use Rattle.rules.specs.declared.Place.{Place}
use Rattle.rules.specs.declared.Place.TheVariants.{PointerWord}
use Rattle.rules.specs.Words.{after_free, cell_of, invalidated, is_unset, is_valid, unset}
use Rattle.rules.specs.State.{State, fresh, never_used, pointer, status_of, store, word, write}
use Rattle.rules.specs.Commands.{command_of}
use Rattle.rules.specs.Check.{check_by, same_as_wanted}
use Rattle.rules.specs.Effect.{count_field, free, give}
use Rattle.rules.specs.Run.{run}
use Rattle.rules.specs.Replay.{Matching, replay, starting_data}
use Rattle.rules.specs.Matching.{Alike, Live, Match, Owned, twin}
use Rattle.rules.specs.Cases.{log_e}

-- a match that asks it of invalid words too, of their cells
pub record Stricter (R S : State) (m : Matching) : Type 0 where
  pub match : Match R S m
  pub cells : (x : Place) → Owned (status_of R) x → Alike R m (cell_of (word R x)) (cell_of (word S (twin m x)))

recorded : State
recorded = (run log_e fresh).state

copied : State
copied = (run (replay fresh log_e) fresh).state

cell_recorded : cell_of (pointer recorded 16) ≡ 6
unfolding recorded is_valid cell_of is_unset invalidated after_free fresh write store command_of same_as_wanted check_by give free count_field
cell_recorded = refl

cell_copied : cell_of (pointer copied 16) ≡ unset
unfolding copied is_valid cell_of is_unset invalidated after_free fresh write store command_of same_as_wanted check_by give free count_field starting_data
cell_copied = refl

no_such_cell : status_of copied unset ≡ never_used
unfolding copied is_valid cell_of is_unset invalidated after_free fresh write store command_of same_as_wanted check_by give free count_field starting_data
no_such_cell = refl

-- whatever the matching is
pub stricter_fails : (m : Matching) → Stricter (run log_e fresh).state (run (replay fresh log_e) fresh).state m → ⊥
unfolding recorded copied
stricter_fails m M = apart (M.cells (PointerWord 16) tt)
  where
    apart : Alike recorded m (cell_of (pointer recorded 16)) (cell_of (pointer copied 16)) → ⊥
    apart (inl both) = omega (arith, both.0, cell_recorded)
    apart (inr cells) =
        let k : (m cells.0).0 ≡ unset = sym cells.3 ∙ cell_copied in
        let l : Live copied unset = rw k at (M.match.live cells.0 cells.1) in
        omega (arith, no_such_cell)
