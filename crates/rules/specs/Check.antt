-- The checks of one field against the heap, in their order: 11, race, 12, 13, 14.
-- What is called a race is given to them as tests, so that another reading calls other things so. Assumes nothing.
use Rattle.std.specs.Prelude.{ℕ, Bool, true, false, not, List, [], ◌∷◌, ◌++◌, eqb, ltb, Result, Ok, Err, ⊤}
use Rattle.fields.specs.declared.RecordedCell.{RecordedCell}
use Rattle.fields.specs.declared.Refusal.TheVariants.{TooManyMallocs, UnsetPointer, LiveCell, AssertionFails}
use Rattle.fields.specs.Limits.{log_mallocs}
use Rattle.fields.specs.Order.{Test, test, in_order}
use Rattle.rules.specs.declared.Guard.{Guard}
use Rattle.rules.specs.declared.Guard.TheVariants.{Always, Same, Equal}
use Rattle.rules.specs.declared.Act.{Act}
use Rattle.rules.specs.declared.Stop.{Stop}
use Rattle.rules.specs.declared.Stop.TheVariants.{Race, Refuse}
use Rattle.rules.specs.Words.{is_valid, cell_of, is_unset, word_at}
use Rattle.rules.specs.State.{State, live, pointer, status_of, number_at}
use Rattle.rules.specs.Acts.{touched, through, gives}

-- what the checks of one field say: that it passes, or why the run stops there
abbrev pub Answer : Type 0
Answer = Result ⊤ Stop

-- one test for each of a list
abbrev pub each : {K A : Type 0} → (K → Bool) → (K → A) → List K → List (Test A)
each passes says [] = []
each passes says (k ∷ ks) = test (passes k) (says k) ∷ each passes says ks

-- ---- of the cell that a malloc names: a malloc is left for it, and it is not live
abbrev pub room_for : State → RecordedCell → Bool
room_for s c = ltb s.mallocs log_mallocs

abbrev pub vacant : State → RecordedCell → Bool
vacant s c = not (eqb (status_of s c.0) live)

-- ---- of a pointer variable: it is valid, and it points to a cell
abbrev pub valid : State → ℕ → Bool
valid s p = is_valid (pointer s p)

abbrev pub points : State → ℕ → Bool
points s p = not (is_unset (pointer s p))

-- ---- of an assertion
-- the equality that was found is the one that is wanted
abbrev pub as_wanted : Bool → Bool → Bool
as_wanted true found = found
as_wanted false found = not found

-- cells are compared; two that are unset are equal, and one that is unset differs from every cell
unfoldable pub same_as_wanted : Bool → ℕ → ℕ → Bool
same_as_wanted wanted v w = as_wanted wanted (eqb (cell_of v) (cell_of w))

abbrev pub holds_in : List ℕ → List ℕ → Guard → Bool
holds_in pointers variables Always = true
holds_in pointers variables (Same wanted p q) = same_as_wanted wanted (word_at pointers p) (word_at pointers q)
holds_in pointers variables (Equal wanted x y) = as_wanted wanted (eqb (number_at variables x) (number_at variables y))

abbrev pub holds : State → Guard → Bool
holds s g = holds_in s.pointers s.variables g

unfoldable pub check_by : List (Test Stop) → Act → State → Answer
check_by races a s =
    in_order Err (Ok tt)
    (each (room_for s) (λ c. Refuse TooManyMallocs) (gives a.change)
    ++ (races
    ++ (each (points s) (λ p. Refuse UnsetPointer) (through a.change)
    ++ (each (vacant s) (λ c. Refuse LiveCell) (gives a.change)
    ++ (test (holds s a.guard) (Refuse AssertionFails) ∷ [])))))

abbrev pub check : Act → State → Answer
check a s = check_by (each (valid s) Race (touched a)) a s
